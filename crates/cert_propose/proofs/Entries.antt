-- Rows of a matrix that are written entry by entry.
use Rattle.cert_propose.proofs.Common
use Common.{ℕ, ℤ, ◌+◌, ◌<◌, ◌∙◌, ◌≡◌, ◌≢◌, ◌⊎◌, ap, arith, inl, inr, IsSquare, length, List, Option}
use Common.{Some, sym, table}
use Rattle.std.proofs.lemmas.Bool.{cases_eq}
use Rattle.cert_matrix.specs.Matrix.{with_entry}
use Rattle.cert_matrix.proofs.Rows.{changed-at, changed-beside}

-- one more entry, which is there
pub entry-more : (rows : List (List ℤ)) (i j : ℕ) (value : ℤ) (f : ℕ → Option ℤ) → IsSquare rows → i < length rows → j < length rows
    → ((k : ℕ) → k < j → f k ≡ Some (table rows i k)) → f j ≡ Some value → (k : ℕ) → k < j + 1 → f k ≡ Some (table (with_entry rows i j value) i k)
entry-more rows i j value f square i< j< before here k l = by (cases_eq k j)
  where
    by : (k ≡ j) ⊎ (k ≢ j) → f k ≡ Some (table (with_entry rows i j value) i k)
    by (inl e) = rw e (here ∙ ap Some (sym (changed-at rows i j value square i< j<)))
    by (inr ne) = before k (omega arith) ∙ ap Some (sym (changed-beside rows i j k value i< ne))

-- one more entry
pub entry-filled : (rows : List (List ℤ)) (i j : ℕ) (value : ℤ) (f : ℕ → ℤ) → IsSquare rows → i < length rows → j < length rows
    → ((k : ℕ) → k < j → table rows i k ≡ f k) → value ≡ f j → (k : ℕ) → k < j + 1 → table (with_entry rows i j value) i k ≡ f k
entry-filled rows i j value f square i< j< before here k l = by (cases_eq k j)
  where
    by : (k ≡ j) ⊎ (k ≢ j) → table (with_entry rows i j value) i k ≡ f k
    by (inl e) = rw e (changed-at rows i j value square i< j< ∙ here)
    by (inr ne) = changed-beside rows i j k value i< ne ∙ before k (omega arith)
