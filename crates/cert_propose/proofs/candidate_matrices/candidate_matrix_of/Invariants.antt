use Rattle.cert_propose.proofs.Common.{ℕ, ℤ, ◌<◌, ◌≡◌, IsSquare, length, Table, table}
use Rattle.cert_propose.proofs.candidate_matrices.candidate_matrix_of.Given as goal

abbrev pub invariant-loop-i : goal.invariant-loop-i
invariant-loop-i p l = record {
  size : length l.m ≡ l.n;
  square : IsSquare l.m;
  entries : (f : Table) → ((i j : ℕ) (x : ℤ) → i < l.n → j < l.n → goal.F-post p l.entry i j x → x ≡ f i j) → (i j : ℕ) → i < l.i → j < l.n → table l.m i j ≡ f i j;
}
