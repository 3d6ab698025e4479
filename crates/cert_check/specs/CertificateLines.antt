-- The lines of a certificate's text.
use Rattle.std.specs.Prelude.{◌≡◌, ℕ, ◌+◌, ◌*◌, ◌==◌, List, [], ◌∷◌, ◌++◌, map, take, ℤ, pos, Some, codes, if◌then◌else◌}
use Rattle.cert_check.specs.declared.certificate.Certificate.{Certificate}
use Rattle.cert_check.specs.FieldNumbers.{number_in}

-- a keyword and the numbers after it
pub record Line : Type 0 where
  pub keyword : List ℕ
  pub numbers : List ℤ

abbrev pub line : List ℕ → List ℤ → Line
line keyword numbers = record { keyword = keyword; numbers = numbers }

-- a line for each row of a matrix
abbrev pub row_lines : List ℕ → List (List ℤ) → List Line
row_lines keyword rows = map (line keyword) rows

-- the lines of a certificate; the first states the number of the form
abbrev pub lines : ℤ → Certificate → List Line
lines form c =
    line (codes "form") (form ∷ [])
    ∷ (row_lines (codes "P") c.pm
    ++ (line (codes "p") c.p
    ∷ line (codes "mu") c.mu
    ∷ line (codes "lambda") (c.lambda ∷ [])
    ∷ line (codes "h1") (c.h1 ∷ [])
    ∷ (row_lines (codes "G1") c.g1
    ++ (line (codes "h2") (c.h2 ∷ [])
    ∷ (row_lines (codes "G2") c.g2
    ++ (line (codes "c") c.c
    ∷ line (codes "R") (c.r ∷ [])
    ∷ line (codes "Z") c.z
    ∷ line (codes "S") c.s
    ∷ line (codes "sigmaR") c.sigma_r
    ∷ line (codes "C") (c.cc ∷ [])
    ∷ line (codes "sigmaC") c.sigma_c
    ∷ line (codes "E") c.e
    ∷ line (codes "start1") c.start1
    ∷ line (codes "start2") c.start2
    ∷ line (codes "Q") c.q
    ∷ []))))))

-- the number of lines in this form: form 1 ends with E, form 2 with the starts, form 3 with Q
abbrev pub line_count : ℕ → ℕ → ℕ
line_count n form = if form == 1 then 3 * n + 14 else if form == 2 then 3 * n + 16 else 3 * n + 17

-- a record parses as a line: its first field is the keyword, its other fields parse as the numbers
abbrev pub ParsesAs : List (List ℕ) → Line → Type 0
ParsesAs fields line =
    (numerals : List (List ℕ)) × (fields ≡ line.keyword ∷ numerals) × (map number_in numerals ≡ map (λ z. Some z) line.numbers)
