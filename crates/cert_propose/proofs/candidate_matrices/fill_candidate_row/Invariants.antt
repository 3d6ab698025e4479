use Rattle.cert_propose.proofs.Common.{ℕ, ℤ, ◌<◌, ◌≡◌, IsSquare, length, table}
use Rattle.cert_propose.proofs.candidate_matrices.fill_candidate_row.Given as goal

abbrev pub invariant-loop-j : goal.invariant-loop-j
invariant-loop-j p l = record {
  size : length l.m ≡ length l.initial.m;
  square : IsSquare l.m;
  others : (h k : ℕ) → h < l.i → k < length l.initial.m → table l.m h k ≡ table l.initial.m h k;
  entries : (f : ℕ → ℤ) → ((j : ℕ) (x : ℤ) → j < length l.initial.m → goal.F-post p l.entry l.i j x → x ≡ f j) → (j : ℕ) → j < l.j → table l.m l.i j ≡ f j;
}
