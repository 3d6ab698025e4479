use Rattle.cert_propose.proofs.Common.{ℕ, ℤ, ◌<◌, ◌≡◌, IsSquare, length, Option, Some, table}
use Rattle.cert_propose.proofs.candidate_matrices.write_candidate_row.Given as goal

abbrev pub invariant-loop-j : goal.invariant-loop-j
invariant-loop-j p l = record {
  size : length l.m ≡ length l.initial.m;
  square : IsSquare l.m;
  others : (h k : ℕ) → h < l.i → k < length l.initial.m → table l.m h k ≡ table l.initial.m h k;
  entries : (f : ℕ → Option ℤ) → ((j : ℕ) (x : Option ℤ) → j < length l.initial.m → goal.F-post p l.entry l.i j x → x ≡ f j) → (j : ℕ) → j < l.j → f j ≡ Some (table l.m l.i j);
}
