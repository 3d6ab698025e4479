-- Defines fields that are copied to a line as they are, and lines as csv formats them.
use Rattle.std.specs.Prelude.{◌≡◌, ◌≤◌, false, ℕ, ℤ, List, [], ◌∷◌, Option, None, Some, length, decimal}
use Rattle.std.specs.Fmt.{signed_decimal}
use Rattle.csv.specs.Writing.{default_writer, needs_quotes, row_text}

-- the field needs no quotes and has at most 200 bytes
pub record IsPlain (field : List ℕ) : Type 0 where
  pub unquoted : needs_quotes default_writer field ≡ false
  pub short : length field ≤ 200

-- the line of five fields, as csv formats a record
abbrev pub csv_line : (tick event name level state : List ℕ) → List ℕ
csv_line tick event name level state =
    row_text default_writer (tick ∷ event ∷ name ∷ level ∷ state ∷ [])

-- the text of a number, and nothing for none
abbrev pub number_text : Option ℤ → List ℕ
number_text None = []
number_text (Some number) = signed_decimal number

-- the line of a row with these fields
abbrev pub values_line : (tick : ℕ) (event name : List ℕ) (level state : Option ℤ) → List ℕ
values_line tick event name level state =
    csv_line (decimal tick) event name (number_text level) (number_text state)
