-- What declared names denote, by a symbol table.
use Rattle.std.specs.Prelude.{ℕ, List, unwrap_or}
use Rattle.std.specs.BTreeMap.{BTreeMap}
use denote.Ref.{Bor}
use Rattle.mu_names.specs.NameTables.{entry_at}
use Rattle.mu_unroll.specs.declared.environment.Environment.{Environment}
use Rattle.mu_unroll.specs.declared.environment.NameDenotation.{NameDenotation}
use Rattle.mu_unroll.specs.declared.environment.NameDenotation.TheVariants.{Nothing}
use Rattle.mu_unroll.specs.VariablePlaces.{meant_in}

-- what a declared name denotes
abbrev pub meant_at : BTreeMap (Bor (List ℕ)) NameDenotation → List ℕ → NameDenotation
meant_at table name = unwrap_or (entry_at table name) Nothing

-- what a name denotes in an environment
abbrev pub denoted : Environment → List ℕ → NameDenotation
denoted env = meant_in env.loops.items (meant_at env.declared)
