-- Defines which rows a filter passes.
use Rattle.std.specs.Prelude.{Bool, true, ◌||◌, ℕ, List, ◌++◌, Option, Some, None, bytes_eq, codes, filter, nat_eq}
use Rattle.std.specs.List.{starts_with}
use Rattle.qss_machine.specs.declared.machine_parts.Row.{Row}
use Rattle.qss_machine.specs.declared.machine_parts.RowKind.{RowKind}
use Rattle.qss_machine.specs.declared.machine_parts.RowKind.TheVariants as kind
use Rattle.qss_machine.specs.declared.compiled_machine.Machine.{Machine}
use Rattle.qss_rows.specs.RowTexts.{name_of, lines_of}

-- whether a name is equal to `only`, or is the name of an element of the array `only`
abbrev pub is_named : List ℕ → List ℕ → Bool
is_named only name = bytes_eq name only || starts_with nat_eq name (only ++ codes "[")

-- whether a filter passes the rows of the variable with this name; without a filter name it passes
-- all
abbrev pub keeps : Option (List ℕ) → List ℕ → Bool
keeps None name = true
keeps (Some only) name = is_named only name

-- rows of branches that fire and of overflows always pass
abbrev pub passes_by : RowKind → Bool → Bool
passes_by (kind.When clause branch) kept = true
passes_by kind.Overflow kept = true
passes_by _ kept = kept

-- whether a filter passes a row
abbrev pub passes : Option (List ℕ) → Machine → Row → Bool
passes only m row = passes_by row.kind (keeps only (name_of m row.var))

-- the lines of the rows that pass, concatenated
abbrev pub lines_passed : Option (List ℕ) → Machine → List Row → List ℕ
lines_passed only m rows = lines_of m (filter (passes only m) rows)
