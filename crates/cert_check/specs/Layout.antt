-- The expected records of a certificate's text, and the first fault of given records.
use Rattle.std.specs.Prelude.{ℕ, ◌+◌, ◌*◌, ◌==◌, Bool, not, List, [], ◌∷◌, ◌++◌, length, drop, take, replicate, slice_index_or, ℤ, pos, Option, Some, None, is_none, unwrap_or, bytes_eq, codes, if◌then◌else◌}
use Rattle.std.specs.Option.{option_map, option_or}
use Rattle.std.specs.Ordering.{int_eq}
use Rattle.std.specs.List.{position_from}
use Rattle.cert_check.specs.declared.text_err.TextErr.{TextErr}
use Rattle.cert_check.specs.declared.text_err.TextErr.TheVariants.{Keyword, Shape, Number, Missing, Form}
use Rattle.cert_check.specs.FieldNumbers.{number_in}
use Rattle.cert_check.specs.CertificateLines.{line_count}

-- an expected record: a keyword and the count of numbers after it
pub record Expected : Type 0 where
  pub keyword : List ℕ
  pub count : ℕ

abbrev pub expected : List ℕ → ℕ → Expected
expected keyword count = record { keyword = keyword; count = count }

-- the expected records of a text with all lines, for n states
abbrev pub layout : ℕ → List Expected
layout n =
    expected (codes "form") 1
    ∷ (replicate n (expected (codes "P") n)
    ++ (expected (codes "p") n ∷ expected (codes "mu") n ∷ expected (codes "lambda") 1 ∷ expected (codes "h1") 1
    ∷ (replicate n (expected (codes "G1") n)
    ++ (expected (codes "h2") 1
    ∷ (replicate n (expected (codes "G2") n)
    ++ (expected (codes "c") n ∷ expected (codes "R") 1 ∷ expected (codes "Z") n ∷ expected (codes "S") n ∷ expected (codes "sigmaR") n
    ∷ expected (codes "C") 1 ∷ expected (codes "sigmaC") n ∷ expected (codes "E") n
    ∷ expected (codes "start1") n ∷ expected (codes "start2") n ∷ expected (codes "Q") n ∷ []))))))

-- the first field of a record
abbrev pub keyword_of : List (List ℕ) → List ℕ
keyword_of fields = slice_index_or fields 0 []

-- whether a field is not a number
abbrev pub is_no_number : List ℕ → Bool
is_no_number field = is_none (number_in field)

-- the fault of a record: in its keyword, then in the count of fields, then in the first bad number
-- fields count from 1, and the keyword is field 1
abbrev pub record_fault : ℕ → Expected → List (List ℕ) → Option TextErr
record_fault number due fields =
    if not (bytes_eq (keyword_of fields) due.keyword) then Some (Keyword number)
    else if not (length fields == due.count + 1) then Some (Shape number (due.count + 1) (length fields))
    else option_map (λ field. Number number field) (position_from is_no_number 2 (drop 1 fields))

-- the first fault of the records against the expected ones, where the first has this number
abbrev pub first_fault : ℕ → List Expected → List (List (List ℕ)) → Option TextErr
first_fault number [] [] = None
first_fault number [] (fields ∷ rest) = Some (Keyword number)
first_fault number (due ∷ more) [] = Some (Missing number)
first_fault number (due ∷ more) (fields ∷ rest) = option_or (record_fault number due fields) (first_fault (number + 1) more rest)

-- the form with this number: 1, 2 or 3
abbrev pub form_in : ℤ → Option ℕ
form_in z = if int_eq z (pos 1) then Some 1 else if int_eq z (pos 2) then Some 2 else if int_eq z (pos 3) then Some 3 else None

-- the first fault of records whose first record has this form number
abbrev pub fault_in_form : ℕ → List (List (List ℕ)) → ℤ → Option ℕ → Option TextErr
fault_in_form n records got None = Some (Form got)
fault_in_form n records got (Some form) = first_fault 1 (take (line_count n form) (layout n)) records

-- the number after a record's keyword
abbrev pub first_number : List (List ℕ) → ℤ
first_number fields = unwrap_or (number_in (slice_index_or fields 1 [])) (pos 0)

-- the first fault of a certificate's records for n states; the first record specifies the form
abbrev pub text_fault : ℕ → List (List (List ℕ)) → Option TextErr
text_fault n [] = Some (Missing 1)
text_fault n (fields ∷ rest) =
    option_or (record_fault 1 (expected (codes "form") 1) fields)
    (fault_in_form n (fields ∷ rest) (first_number fields) (form_in (first_number fields)))
