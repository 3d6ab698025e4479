-- The fields and the text line of a row of a second-order run.
use Rattle.std.specs.Prelude.{◌<◌, Bool, ℕ, ◌+◌, ℤ, List, [], ◌∷◌, flat_map, nat_lt, codes, decimal}
use Rattle.std.specs.Prelude.{if◌then◌else◌}
use Rattle.std.specs.Fmt.{signed_decimal}
use Rattle.csv.specs.Writing.{default_writer, row_text}
use Rattle.qss_machine.specs.Machines.{state_count, discrete_count}
use Rattle.qss_machine.specs.declared.compiled_machine.Machine.{Machine}
use Rattle.qss_rows.specs.RowTexts.{name_of}
use Rattle.qss_order2.specs.declared.order2_rows.Row2.{Row2}
use Rattle.qss_order2.specs.declared.order2_rows.Kind2.{Kind2}
use Rattle.qss_order2.specs.declared.order2_rows.Kind2.TheVariants as kind

-- the event name of a kind
abbrev pub word2_of : Kind2 → List ℕ
word2_of kind.Start = codes "start"
word2_of kind.Slope = codes "slope"
word2_of kind.Level = codes "level"
word2_of kind.End = codes "end"
word2_of kind.Overflow = codes "overflow"

-- the field of the level, of its slope, or of the discrete value
abbrev pub level2_field : Kind2 → ℤ → List ℕ
level2_field kind.Start level = signed_decimal level
level2_field kind.Slope level = signed_decimal level
level2_field kind.Level level = signed_decimal level
level2_field kind.End level = signed_decimal level
level2_field kind.Overflow level = []

-- the field of the state, empty for a discrete variable
abbrev pub state2_field : Bool → Kind2 → ℤ → List ℕ
state2_field is_state kind.Start state = if is_state then signed_decimal state else []
state2_field is_state kind.Slope state = []
state2_field is_state kind.Level state = signed_decimal state
state2_field is_state kind.End state = if is_state then signed_decimal state else []
state2_field is_state kind.Overflow state = []

-- the fields of a row: tick, event, name, level, state
abbrev pub fields2_of : Machine → Row2 → List (List ℕ)
fields2_of m row =
    decimal row.tick ∷ word2_of row.kind ∷ name_of m row.var ∷ level2_field row.kind row.level ∷
    state2_field (nat_lt row.var (state_count m)) row.kind row.state ∷ []

-- the line of a row, as a CSV record
abbrev pub line2_of : Machine → Row2 → List ℕ
line2_of m row = row_text default_writer (fields2_of m row)

-- the lines of several rows
abbrev pub lines2_of : Machine → List Row2 → List ℕ
lines2_of m rows = flat_map (line2_of m) rows

-- the variable of a row belongs to the machine
abbrev pub HasVariable2 : Machine → Row2 → Type 0
HasVariable2 m row = row.var < state_count m + discrete_count m
