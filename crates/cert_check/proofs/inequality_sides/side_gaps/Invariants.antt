use Rattle.cert_check.proofs.Common
use Common.{ℕ, ◌*◌, ◌+◌, ◌<◌, ◌^◌, ◌≡◌, ◌≤◌, length, scaled_offset, unsigned_abs, vector}
use Rattle.cert_check.proofs.inequality_sides.side_gaps.Given as goal

abbrev pub invariant-loop-k : goal.invariant-loop-k
invariant-loop-k l = record {
  size : length l.gaps ≡ 16;
  in_range : (k : ℕ) → k < l.k → unsigned_abs (vector l.start k) + unsigned_abs l.factor * unsigned_abs (vector l.base k) ≤ 2 ^ 126;
  value : (k : ℕ) → k < l.k → vector l.gaps k ≡ scaled_offset (vector l.start) l.factor (vector l.base) k;
}
