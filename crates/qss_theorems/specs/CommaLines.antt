-- The lines of rows and bounds of a source's machine are fields joined by commas, without quotes.
use Rattle.std.specs.Prelude.{◌≡◌, ◌⊎◌, ◌+◌, ◌<◌, true, false, ℕ, List, ◌++◌, IsTrue, Option}
use Rattle.std.specs.Prelude.{filter, flat_map, ℤ, [], ◌∷◌}
use Rattle.std.specs.Fmt.{signed_decimal}
use Rattle.cert_check.specs.declared.certificate.Certificate.{Certificate}
use Rattle.csv.specs.Writing.{default_writer, needs_quotes}
use Rattle.mu_lexer.specs.Spelling.{is_name}
use Rattle.mu_unroll.specs.VariablePlaces.{element_name}
use Rattle.qss_compile.specs.Compilation.{CompilesTo}
use Rattle.qss_machine.specs.Machines.{state_count, discrete_count}
use Rattle.qss_machine.specs.Runs.{Run, run_rows}
use Rattle.qss_machine.specs.declared.machine_parts.Row.{Row}
use Rattle.qss_machine.specs.declared.machine_parts.StateInfo.{StateInfo}
use Rattle.qss_machine.specs.declared.compiled_machine.Machine.{Machine}
use Rattle.qss_events.specs.RunTexts.{run_text}
use Rattle.qss_order2.specs.declared.order2_rows.Row2.{Row2}
use Rattle.qss_order2.specs.SecondRowLines.{fields2_of, line2_of}
use Rattle.qss_order2.specs.SecondRuns.{Run2, run2_rows}
use Rattle.qss_order2.specs.SecondRunTexts.{second_run_text}
use Rattle.qss_rows.specs.Filters.{passes}
use Rattle.qss_rows.specs.RowTexts.{fields_of, header, line_of, name_of, plain_line, prints_name}
use Rattle.qss_answers.specs.BoundTexts.{bound_line, bounds_header, bounds_text}

-- the name of an array element: the array's name and an index in square brackets
abbrev pub IsElementName : List ℕ → Type 0
IsElementName name = (array : List ℕ) × (index : ℕ) × IsTrue (is_name array) × (name ≡ element_name array index)

-- the name of a variable: an identifier or the name of an array element
abbrev pub IsVariableName : List ℕ → Type 0
IsVariableName name = IsTrue (is_name name) ⊎ IsElementName name

-- the lines of rows, each with its fields joined by commas and a line feed
abbrev pub plain_lines : Machine → List Row → List ℕ
plain_lines m rows = flat_map (λ row. plain_line (fields_of m row)) rows

-- No field needs quotes in the rows of a machine that a source denotes.
pub record LinesAreFields : Type 0 where
  -- the names of its states and discrete variables are identifiers or names of array elements
  pub names : (bytes : List ℕ) (m : Machine) → CompilesTo bytes m → (var : ℕ) → var < state_count m + discrete_count m → IsVariableName (name_of m var)
  -- these names need no quotes
  pub unquoted : (name : List ℕ) → IsVariableName name → needs_quotes default_writer name ≡ false
  -- if the printed name needs no quotes, the line is the fields joined by commas, for all numbers
  -- in the row
  pub plain : (m : Machine) (row : Row) → (prints_name row.kind ≡ true → needs_quotes default_writer (name_of m row.var) ≡ false) →
      line_of m row ≡ plain_line (fields_of m row)
  -- each line that a source's machine can print has this format
  pub lines : (bytes : List ℕ) (m : Machine) → CompilesTo bytes m → (row : Row) → line_of m row ≡ plain_line (fields_of m row)
  -- the text of its run
  pub text : (bytes : List ℕ) (m : Machine) → CompilesTo bytes m → (only : Option (List ℕ)) (run : Run) →
      run_text only m run ≡ header ++ plain_lines m (filter (passes only m) (run_rows m run))

-- the lines of rows of a second-order run, each with its fields joined by commas and a line feed
abbrev pub plain_second_lines : Machine → List Row2 → List ℕ
plain_second_lines m rows = flat_map (λ row. plain_line (fields2_of m row)) rows

-- No field needs quotes in the rows of a second-order run of a machine that a source denotes.
pub record SecondOrderLinesAreFields : Type 0 where
  -- if the name needs no quotes, the line is the fields joined by commas, for all numbers in the row
  pub plain : (m : Machine) (row : Row2) → needs_quotes default_writer (name_of m row.var) ≡ false →
      line2_of m row ≡ plain_line (fields2_of m row)
  -- each line that a second-order run of a source's machine can print has this format
  pub lines : (bytes : List ℕ) (m : Machine) → CompilesTo bytes m → (row : Row2) → line2_of m row ≡ plain_line (fields2_of m row)
  -- the text of a second-order run
  pub text : (bytes : List ℕ) (m : Machine) → CompilesTo bytes m → (run : Run2) →
      second_run_text m run ≡ header ++ plain_second_lines m (run2_rows m run)

-- the fields of the line of a state's bound: the state's name and the bound
abbrev pub bound_fields : List ℕ → ℤ → List (List ℕ)
bound_fields name bound = name ∷ signed_decimal bound ∷ []

-- the lines of states with their bounds, each with its fields joined by a comma and a line feed
abbrev pub plain_bound_lines : List StateInfo → List ℤ → List ℕ
plain_bound_lines [] bounds = []
plain_bound_lines (s ∷ ss) [] = []
plain_bound_lines (s ∷ ss) (bound ∷ bounds) = plain_line (bound_fields s.name bound) ++ plain_bound_lines ss bounds

-- No field needs quotes in the bounds of a machine that a source denotes.
pub record BoundLinesAreFields : Type 0 where
  -- if the name needs no quotes, the line is the name and the bound, joined by a comma, for all
  -- bounds
  pub plain : (name : List ℕ) (bound : ℤ) → needs_quotes default_writer name ≡ false →
      bound_line name bound ≡ plain_line (bound_fields name bound)
  -- the text of the bounds by a certificate
  pub text : (bytes : List ℕ) (m : Machine) → CompilesTo bytes m → (c : Certificate) →
      bounds_text m c ≡ bounds_header ++ plain_bound_lines m.states c.e
