-- The rows of numbers in the records of a certificate.
use Rattle.std.specs.Prelude.{◌≡◌, ℕ, ◌+◌, ◌*◌, ◌<◌, List, [], ◌∷◌, length, drop, map, slice_index_or, ℤ, Some, false, ◌++◌, ◌==◌, nat_lt, codes, if◌then◌else◌}
use Rattle.qss_machine.specs.declared.compiled_machine.Machine.{Machine}
use Rattle.qss_machine.specs.Machines.{start_states, quanta}
use Rattle.cert_check.specs.CertificateLimits.{IsVector}
use Rattle.cert_check.specs.FieldNumbers.{number_in}
use Rattle.cert_check.specs.CertificateLines.{Line, line}
use Rattle.cert_check.specs.Layout.{Expected, expected, layout, keyword_of, is_no_number}

-- the expected record at place k of a text with all lines
abbrev pub due_at : ℕ → ℕ → Expected
due_at n k = slice_index_or (layout n) k (expected [] 0)

-- the record has the expected keyword, and its fields parse as the numbers of the row
pub record IsReadAs (due : Expected) (fields : List (List ℕ)) (row : List ℤ) : Type 0 where
  pub keyword : fields ≡ due.keyword ∷ drop 1 fields
  pub spelt : map number_in (drop 1 fields) ≡ map (λ z. Some z) row
  pub numbers : IsVector due.count row

-- reading the record allocates: keyword and field count are right and the first number is valid
pub record TakesMemory (due : Expected) (fields : List (List ℕ)) : Type 0 where
  pub keyword : keyword_of fields ≡ due.keyword
  pub count : length fields ≡ due.count + 1
  pub some : is_no_number (slice_index_or fields 1 []) ≡ false

-- at least one record is expected, and reading the first one allocates
abbrev pub FirstTakesMemory : ℕ → List (List (List ℕ)) → Type 0
FirstTakesMemory count records = (0 < count) × TakesMemory (expected (codes "form") 1) (slice_index_or records 0 [])

-- there are exactly `count` records, and each parses as its row
pub record AreReadAs (n count : ℕ) (records : List (List (List ℕ))) (rows : List (List ℤ)) : Type 0 where
  pub one_each : length records ≡ count
  pub as_many : length rows ≡ count
  pub each : (k : ℕ) → k < count → IsReadAs (due_at n k) (slice_index_or records k []) (slice_index_or rows k [])

-- one row for each line of a text with all lines
pub record AreAllRows (n : ℕ) (rows : List (List ℤ)) : Type 0 where
  pub as_many : length rows ≡ 3 * n + 17
  pub each : (k : ℕ) → k < 3 * n + 17 → IsVector (due_at n k).count (slice_index_or rows k [])

-- the lines with these keywords and the rows from index k on
abbrev pub lines_from : List Expected → ℕ → List (List ℤ) → List Line
lines_from [] k rows = []
lines_from (due ∷ more) k rows = line due.keyword (slice_index_or rows k []) ∷ lines_from more (k + 1) rows

-- the rows that a text in this form leaves out: starts and quanta, only quanta, or none
abbrev pub left_out : Machine → ℕ → List (List ℤ)
left_out m form = (if form == 1 then start_states m ∷ start_states m ∷ [] else []) ++ (if nat_lt form 3 then quanta m ∷ [] else [])
