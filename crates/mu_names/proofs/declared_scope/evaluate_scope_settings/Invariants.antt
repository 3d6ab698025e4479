use Rattle.mu_names.proofs.Common
use Common.{[], ◌≡◌, default_settings, drop, false, get_or, is_set, least_of, length, map, setting}
use Common.{setting_number, SettingName, settings_faults, settings_from, take}
use Rattle.mu_names.proofs.declared_scope.evaluate_scope_settings.Given as goal

-- what there is so far and what is left are all
abbrev pub invariant-loop-item : goal.invariant-loop-item
invariant-loop-item g l = record {
  six : length l.written ≡ 6;
  written : (which : SettingName) → get_or l.written (setting_number which) false ≡ is_set (map setting (take l.item-index l.items)) which;
  settings : settings_from (g.M.Meanings.meaning l.meanings) l.settings (map setting (drop l.item-index l.items))
      ≡ settings_from (g.M.Meanings.meaning l.meanings) default_settings (map setting l.items);
  faults : least_of l.least (settings_faults (g.M.Meanings.meaning l.meanings) (map setting (take l.item-index l.items)) (map setting (drop l.item-index l.items)))
      ≡ least_of l.initial.least (settings_faults (g.M.Meanings.meaning l.meanings) [] (map setting l.items));
}
