-- The expected records of a trace's text, and the first fault of given records.
use Rattle.std.specs.Prelude.{ℕ, zero, suc, ◌+◌, ◌^◌, ◌==◌, Bool, true, not, ◌&&◌, nat_lt, List, []}
use Rattle.std.specs.Prelude.{◌∷◌, length, drop, take, sum_by, ℤ, pos, int_le, Option, Some, None}
use Rattle.std.specs.Prelude.{is_none, bytes_eq, codes, if◌then◌else◌}
use Rattle.std.specs.Option.{option_map, option_or}
use Rattle.std.specs.Ordering.{int_eq}
use Rattle.std.specs.List.{position_from}
use Rattle.mu_num.specs.Sizes.{exceeds}
use Rattle.cert_check.specs.FieldNumbers.{number_in}
use Rattle.cert_check.specs.Layout.{keyword_of, first_number}
use Rattle.cert_check.specs.declared.text_err.TextErr.{TextErr}
use Rattle.cert_check.specs.declared.text_err.TextErr.TheVariants.{Keyword, Shape, Number}
use Rattle.cert_check.specs.declared.text_err.TextErr.TheVariants.{Missing, Form}
use Rattle.qss_trace.specs.declared.trace_parser.Limit.{Limit}
use Rattle.qss_trace.specs.declared.trace_parser.Limit.TheVariants as limit

-- whether a number is in a range
abbrev pub fits : Limit → ℤ → Bool
fits limit.Any z = true
fits limit.Factor z = int_le (pos 1) z && int_le z (pos (2 ^ 16))
fits limit.Quantum z = int_le (pos 1) z && int_le z (pos (2 ^ 43))
fits limit.State z = not (exceeds 108 z)
fits limit.Level z = not (exceeds 64 z)

-- the number, if there is one and it is in the range
abbrev pub kept : Limit → Option ℤ → Option ℤ
kept limit None = None
kept limit (Some z) = if fits limit z then Some z else None

-- the number in a field, if it is in the range
abbrev pub number_within : Limit → List ℕ → Option ℤ
number_within limit field = kept limit (number_in field)

-- whether a field is not a number in the range
abbrev pub is_unfit : Limit → List ℕ → Bool
is_unfit limit field = is_none (number_within limit field)

-- consecutive expected numbers with the same range
pub record Part : Type 0 where
  pub limit : Limit
  pub count : ℕ

abbrev pub part : Limit → ℕ → Part
part limit count = record { limit = limit; count = count }

-- an expected record: a keyword and the numbers after it
pub record Due : Type 0 where
  pub keyword : List ℕ
  pub parts : List Part

abbrev pub due : List ℕ → List Part → Due
due keyword parts = record { keyword = keyword; parts = parts }

-- the expected record k, which counts from 0, of a trace for n states
abbrev pub due_at : ℕ → ℕ → Due
due_at n zero = due (codes "trace") (part limit.Any 1 ∷ [])
due_at n (suc zero) = due (codes "scale") (part limit.Factor 1 ∷ [])
due_at n (suc (suc zero)) = due (codes "refine") (part limit.Factor 1 ∷ [])
due_at n (suc (suc (suc zero))) = due (codes "Q") (part limit.Quantum n ∷ [])
due_at n (suc (suc (suc (suc k)))) = due (codes "at") (part limit.State n ∷ part limit.Level n ∷ [])

-- the count of these numbers
abbrev pub number_count : List Part → ℕ
number_count parts = sum_by (λ part. part.count) parts

-- the first field that is not an expected number; the first field has the number `field`
abbrev pub first_unfit : ℕ → List Part → List (List ℕ) → Option ℕ
first_unfit field [] fields = None
first_unfit field (part ∷ parts) fields =
    option_or (position_from (is_unfit part.limit) field (take part.count fields)) (first_unfit (field + part.count) parts (drop part.count fields))

-- the fault of the first record if its number is not 1
abbrev pub form_fault : ℕ → List (List ℕ) → Option TextErr
form_fault zero fields = if int_eq (first_number fields) (pos 1) then None else Some (Form (first_number fields))
form_fault (suc k) fields = None

-- the fault of a record in its keyword, then in its count of fields
abbrev pub shape_fault : ℕ → List ℕ → ℕ → List (List ℕ) → Option TextErr
shape_fault line keyword count fields =
    if not (bytes_eq (keyword_of fields) keyword) then Some (Keyword line)
    else if not (length fields == count + 1) then Some (Shape line (count + 1) (length fields))
    else None

-- the fault of a record in its numbers, from the left
abbrev pub number_fault : ℕ → List Part → List (List ℕ) → Option TextErr
number_fault line parts fields = option_map (λ field. Number line field) (first_unfit 2 parts (drop 1 fields))

-- the fault of record k: keyword, then count of fields, then numbers from the left, then form
-- reported records and fields count from 1, and the keyword is field 1
abbrev pub record_fault : ℕ → ℕ → List (List ℕ) → Option TextErr
record_fault n k fields =
    option_or (shape_fault (k + 1) (due_at n k).keyword (number_count (due_at n k).parts) fields)
    (option_or (number_fault (k + 1) (due_at n k).parts fields) (form_fault k fields))

-- the first fault of the records from record k on; at least five records are expected
abbrev pub fault_from : ℕ → ℕ → List (List (List ℕ)) → Option TextErr
fault_from n k [] = if nat_lt k 5 then Some (Missing (k + 1)) else None
fault_from n k (fields ∷ rest) = option_or (record_fault n k fields) (fault_from n (k + 1) rest)

-- the first fault of the records of a trace for n states
abbrev pub trace_fault : ℕ → List (List (List ℕ)) → Option TextErr
trace_fault n records = fault_from n 0 records
