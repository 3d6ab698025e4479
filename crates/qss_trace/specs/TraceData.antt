-- Reading the numbers of one record.
use Rattle.std.specs.Prelude.{◌≡◌, ℕ, ◌+◌, List, ◌++◌, map, length, ℤ, Some}
use Rattle.cert_check.specs.Layout.{keyword_of}
use Rattle.qss_trace.specs.declared.trace_parser.Limit.{Limit}
use Rattle.qss_trace.specs.ExpectedFields.{number_within}

-- the fields parse as numbers in the range, which are appended
pub record AddsNumbers (limit : Limit) (fields : List (List ℕ)) (old new : List ℤ) : Type 0 where
  pub row : List ℤ
  pub added : new ≡ old ++ row
  pub spelt : map (number_within limit) fields ≡ map (λ z. Some z) row

-- the record has this keyword and `count` fields after it
pub record HasShape (keyword : List ℕ) (count : ℕ) (fields : List (List ℕ)) : Type 0 where
  pub keyword_is : keyword_of fields ≡ keyword
  pub count_is : length fields ≡ count + 1
