use Rattle.std.proofs.Common.{◌≡◌, ◌++◌, true, map, drop}
use Rattle.mu_tree.specs.ModelTree.{setting}
use Rattle.mu_tree.specs.Canonical.{joined, written_settings}
use Rattle.mu_canonical.proofs.model_text.write_settings.Given as goal

-- what is left to write completes the text
abbrev pub invariant-loop-one : goal.invariant-loop-one
invariant-loop-one l = l.out.items ++ joined (written_settings (map setting (drop l.one-index l.settings)) l.first) ≡ l.initial.out.items ++ joined (written_settings (map setting l.settings) true)
