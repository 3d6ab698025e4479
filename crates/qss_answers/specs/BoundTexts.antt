-- The text of an accepted certificate's bounds.
use Rattle.std.specs.Prelude.{ℤ, ℕ, List, [], ◌∷◌, ◌++◌, codes}
use Rattle.std.specs.Fmt.{signed_decimal}
use Rattle.csv.specs.Writing.{default_writer, row_text}
use Rattle.cert_check.specs.declared.certificate.Certificate.{Certificate}
use Rattle.qss_machine.specs.declared.machine_parts.StateInfo.{StateInfo}
use Rattle.qss_machine.specs.declared.compiled_machine.Machine.{Machine}

-- the header of the bounds
abbrev pub bounds_header : List ℕ
bounds_header = codes "name,levels\n"

-- the line of a state: its name and the largest distance of two runs, in levels
abbrev pub bound_line : List ℕ → ℤ → List ℕ
bound_line name bound = row_text default_writer (name ∷ signed_decimal bound ∷ [])

-- the lines of states with their bounds
abbrev pub bound_lines : List StateInfo → List ℤ → List ℕ
bound_lines [] bounds = []
bound_lines (s ∷ ss) [] = []
bound_lines (s ∷ ss) (bound ∷ bounds) = bound_line s.name bound ++ bound_lines ss bounds

-- the text of the bounds of a machine's states by a certificate
abbrev pub bounds_text : Machine → Certificate → List ℕ
bounds_text m c = bounds_header ++ bound_lines m.states c.e
