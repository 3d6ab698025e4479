-- Defines the fields of an output row, and its line of CSV.
use Rattle.std.specs.Prelude.{◌≡◌, ◌<◌, ◌^◌, Bool, true, false, ℕ, ◌+◌, ℤ, List, [], ◌∷◌, ◌++◌, map, flat_map, nat_lt, slice_index_or, codes, decimal, if◌then◌else◌}
use Rattle.std.specs.Fmt.{signed_decimal}
use Rattle.std.specs.List.{join_with_byte}
use Rattle.csv.specs.Writing.{default_writer, needs_quotes, row_text}
use Rattle.mu_num.specs.Sizes.{IsWithin}
use Rattle.qss_machine.specs.Machines.{state_count, discrete_count}
use Rattle.qss_machine.specs.declared.machine_parts.Row.{Row}
use Rattle.qss_machine.specs.declared.machine_parts.RowKind.{RowKind}
use Rattle.qss_machine.specs.declared.machine_parts.RowKind.TheVariants as kind
use Rattle.qss_machine.specs.declared.compiled_machine.Machine.{Machine}

-- the header line, before all rows
abbrev pub header : List ℕ
header = codes "tick,event,name,level,state\n"

-- the text of the event field for a kind of rows
abbrev pub word_of : RowKind → List ℕ
word_of kind.Start = codes "start"
word_of (kind.When clause branch) = codes "when"
word_of kind.Set = codes "set"
word_of kind.Reinit = codes "reinit"
word_of kind.Level = codes "level"
word_of kind.End = codes "end"
word_of kind.Overflow = codes "overflow"

-- whether rows of a kind print the name of their variable
abbrev pub prints_name : RowKind → Bool
prints_name (kind.When clause branch) = false
prints_name _ = true

-- the name of a variable, by index: states first, then discrete variables
abbrev pub name_of : Machine → ℕ → List ℕ
name_of m var = slice_index_or (map (λ s. s.name) m.states ++ map (λ d. d.name) m.discretes) var []

-- if rows of this kind print a name, the variable is one of the machine
abbrev pub HasVariable : Machine → Row → Type 0
HasVariable m row = prints_name row.kind ≡ true → row.var < state_count m + discrete_count m

-- the indices of a clause and of its branch that fired, both counted from 1
abbrev pub firing_field : ℕ → ℕ → List ℕ
firing_field clause branch = decimal (clause + 1) ++ codes "." ++ decimal (branch + 1)

-- the name field
abbrev pub name_field : Machine → RowKind → ℕ → List ℕ
name_field m (kind.When clause branch) var = firing_field clause branch
name_field m _ var = name_of m var

-- the level field: a level or a discrete value
abbrev pub level_field : RowKind → ℤ → List ℕ
level_field kind.Start level = signed_decimal level
level_field (kind.When clause branch) level = []
level_field kind.Set level = signed_decimal level
level_field kind.Reinit level = []
level_field kind.Level level = signed_decimal level
level_field kind.End level = signed_decimal level
level_field kind.Overflow level = []

-- the state field, which is empty for a discrete variable
abbrev pub state_field : Bool → RowKind → ℤ → List ℕ
state_field is_state kind.Start state = if is_state then signed_decimal state else []
state_field is_state (kind.When clause branch) state = []
state_field is_state kind.Set state = []
state_field is_state kind.Reinit state = signed_decimal state
state_field is_state kind.Level state = signed_decimal state
state_field is_state kind.End state = if is_state then signed_decimal state else []
state_field is_state kind.Overflow state = []

-- the fields of a row with this name field: tick, event, name, level, state
abbrev pub fields_with : List ℕ → Bool → Row → List (List ℕ)
fields_with name is_state row =
    decimal row.tick ∷ word_of row.kind ∷ name ∷ level_field row.kind row.level ∷ state_field is_state row.kind row.state ∷ []

-- the fields of a row of a machine
abbrev pub fields_of : Machine → Row → List (List ℕ)
fields_of m row = fields_with (name_field m row.kind row.var) (nat_lt row.var (state_count m)) row

-- the line of a row, as csv formats a record
abbrev pub line_of : Machine → Row → List ℕ
line_of m row = row_text default_writer (fields_of m row)

-- the lines of rows, concatenated
abbrev pub lines_of : Machine → List Row → List ℕ
lines_of m rows = flat_map (line_of m) rows

-- fields joined by commas, and a line feed
abbrev pub plain_line : List (List ℕ) → List ℕ
plain_line fields = join_with_byte 44 fields ++ 10 ∷ []

-- the indices of a branch that fired are in the ranges of their types
abbrev pub IsTypedKind : RowKind → Type 0
IsTypedKind (kind.When clause branch) = (clause < 2 ^ 32) × (branch < 2 ^ 32)
IsTypedKind _ = Unit {0}

-- the numbers of a row are in the ranges of their types
pub record IsTyped (row : Row) : Type 0 where
  pub tick : row.tick < 2 ^ 64
  pub firing : IsTypedKind row.kind
  pub level : IsWithin 63 row.level
  pub state : IsWithin 127 row.state

-- if the name needs no quotes, the line of a row is its fields, joined by commas, and a line feed
abbrev pub LinesArePlain : Type 0
LinesArePlain =
    (m : Machine) (row : Row) → IsTyped row → (prints_name row.kind ≡ true → needs_quotes default_writer (name_of m row.var) ≡ false)
    → line_of m row ≡ plain_line (fields_of m row)
