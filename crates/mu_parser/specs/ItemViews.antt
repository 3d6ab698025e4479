-- The logical view of the settings of an experiment.
use Rattle.std.specs.Prelude.{List, map}
use Rattle.mu_tree.specs.declared.tree.SettingItem.{SettingItem}
use Rattle.mu_tree.specs.ModelTree.{Setting, setting}

-- the logical view of settings
abbrev pub settings_of : List SettingItem → List Setting
settings_of ss = map setting ss
