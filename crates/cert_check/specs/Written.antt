-- The text that `write_certificate` returns.
use Rattle.std.specs.Prelude.{ℕ, List, [], ◌∷◌, ◌++◌, map, ℤ, pos, codes}
use Rattle.std.specs.Fmt.{signed_decimal}
use Rattle.csv.specs.Writing.{default_writer, row_text}
use Rattle.cert_check.specs.declared.certificate.Certificate.{Certificate}
use Rattle.cert_check.specs.CertificateLines.{Line, line, lines, row_lines}

-- the fields of a line: its keyword, and its numbers without leading zeros
abbrev pub fields_of_line : Line → List (List ℕ)
fields_of_line line = line.keyword ∷ map signed_decimal line.numbers

-- the text of a line, as `csv` writes its fields
abbrev pub line_text : Line → List ℕ
line_text line = row_text default_writer (fields_of_line line)

-- the text of the lines, in order
abbrev pub lines_text : List Line → List ℕ
lines_text [] = []
lines_text (line ∷ rest) = line_text line ++ lines_text rest

-- the text of a certificate with all lines, in form 3
abbrev pub certificate_text : Certificate → List ℕ
certificate_text c = lines_text (lines (pos 3) c)

-- the lines of the form and of P
abbrev pub form_lines : ℤ → Certificate → List Line
form_lines form c = line (codes "form") (form ∷ []) ∷ row_lines (codes "P") c.pm

-- the lines from p to h1
abbrev pub bound_lines : Certificate → List Line
bound_lines c = line (codes "p") c.p ∷ line (codes "mu") c.mu ∷ line (codes "lambda") (c.lambda ∷ []) ∷ line (codes "h1") (c.h1 ∷ []) ∷ []

-- the line of h2
abbrev pub second_lines : Certificate → List Line
second_lines c = line (codes "h2") (c.h2 ∷ []) ∷ []

-- the lines from G1 to G2
abbrev pub root_lines : Certificate → List Line
root_lines c = row_lines (codes "G1") c.g1 ++ (second_lines c ++ row_lines (codes "G2") c.g2)

-- the lines from c to sigmaR
abbrev pub basin_lines : Certificate → List Line
basin_lines c =
    line (codes "c") c.c ∷ line (codes "R") (c.r ∷ []) ∷ line (codes "Z") c.z ∷ line (codes "S") c.s ∷ line (codes "sigmaR") c.sigma_r ∷ []

-- the lines from C to Q
abbrev pub ellipsoid_lines : Certificate → List Line
ellipsoid_lines c =
    line (codes "C") (c.cc ∷ []) ∷ line (codes "sigmaC") c.sigma_c ∷ line (codes "E") c.e
    ∷ line (codes "start1") c.start1 ∷ line (codes "start2") c.start2 ∷ line (codes "Q") c.q ∷ []
