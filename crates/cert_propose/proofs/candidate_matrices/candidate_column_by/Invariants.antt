use Rattle.cert_propose.proofs.Common.{ℕ, ℤ, ◌<◌, ◌≡◌, collected, length, Option, Some, tabulate}
use Rattle.cert_propose.proofs.candidate_matrices.candidate_column_by.Given as goal

abbrev pub invariant-loop-k : goal.invariant-loop-k
invariant-loop-k p l = record {
  size : length l.column ≡ l.k;
  numbers : (f : ℕ → Option ℤ) → ((k : ℕ) (x : Option ℤ) → k < l.n → goal.F-post p l.number k x → x ≡ f k) → collected (tabulate l.k f) ≡ Some l.column;
}
