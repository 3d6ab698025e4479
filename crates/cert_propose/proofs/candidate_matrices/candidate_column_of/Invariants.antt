use Rattle.cert_propose.proofs.Common.{ℕ, ℤ, ◌<◌, ◌≡◌, length, tabulate, Vector}
use Rattle.cert_propose.proofs.candidate_matrices.candidate_column_of.Given as goal

abbrev pub invariant-loop-k : goal.invariant-loop-k
invariant-loop-k p l = record {
  size : length l.column ≡ l.k;
  numbers : (f : Vector) → ((k : ℕ) (x : ℤ) → k < l.n → goal.F-post p l.number k x → x ≡ f k) → l.column ≡ tabulate l.k f;
}
