use Rattle.std.proofs.Common.{◌≡◌, ◌++◌, map, drop}
use Rattle.std.specs.List.{flat_map}
use Rattle.mu_tree.specs.ModelTree.{declaration}
use Rattle.mu_tree.specs.Canonical.{joined, written_declaration}
use Rattle.mu_canonical.proofs.model_text.write_declarations.Given as goal

-- what is left to write completes the text
abbrev pub invariant-loop-one : goal.invariant-loop-one
invariant-loop-one l = l.out.items ++ joined (flat_map written_declaration (map declaration (drop l.one-index l.decls))) ≡ l.initial.out.items ++ joined (flat_map written_declaration (map declaration l.decls))
