-- Defines the discrete variables that rows assign, and the states that they reinitialize.
use Rattle.std.specs.Prelude.{ℕ, Bool, true, false, List, map}
use Rattle.std.specs.List.{filter}
use Rattle.qss_machine.specs.EventCounts.{is_reinit}
use Rattle.qss_machine.specs.declared.machine_parts.Row.{Row}
use Rattle.qss_machine.specs.declared.machine_parts.RowKind.{RowKind}
use Rattle.qss_machine.specs.declared.machine_parts.RowKind.TheVariants as kind

-- whether rows of this kind assign a discrete variable
abbrev pub is_set : RowKind → Bool
is_set kind.Start = false
is_set (kind.When clause branch) = false
is_set kind.Set = true
is_set kind.Reinit = false
is_set kind.Level = false
is_set kind.End = false
is_set kind.Overflow = false

-- the variables that these rows assign
abbrev pub assigned_of : List Row → List ℕ
assigned_of rows = map (λ row. row.var) (filter (λ row. is_set row.kind) rows)

-- the states that these rows reinitialize
abbrev pub reinitialized_of : List Row → List ℕ
reinitialized_of rows = map (λ row. row.var) (filter (λ row. is_reinit row.kind) rows)
