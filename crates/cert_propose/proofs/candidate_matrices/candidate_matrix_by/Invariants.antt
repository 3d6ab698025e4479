use Rattle.cert_propose.proofs.Common.{ℕ, ℤ, ◌<◌, ◌≡◌, IsSquare, length, Option, Some, table}
use Rattle.cert_propose.proofs.candidate_matrices.candidate_matrix_by.Given as goal

abbrev pub invariant-loop-i : goal.invariant-loop-i
invariant-loop-i p l = record {
  size : length l.m ≡ l.n;
  square : IsSquare l.m;
  entries : (f : ℕ → ℕ → Option ℤ) → ((i j : ℕ) (x : Option ℤ) → i < l.n → j < l.n → goal.F-post p l.entry i j x → x ≡ f i j) → (i j : ℕ) → i < l.i → j < l.n → f i j ≡ Some (table l.m i j);
}
