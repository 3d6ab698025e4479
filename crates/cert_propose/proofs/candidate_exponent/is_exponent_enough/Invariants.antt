use Rattle.cert_propose.proofs.Common
use Common.{ℕ, ◌*ℤ◌, ◌<◌, ◌^◌, ◌≡◌, int_le, length, pos, row_size, table, true}
use Rattle.cert_propose.proofs.candidate_exponent.is_exponent_enough.Given as goal

abbrev pub invariant-loop-i : goal.invariant-loop-i
invariant-loop-i l = (k : ℕ) → k < l.i → int_le (pos 16 *ℤ row_size (length l.a) (table l.a) k) (pos (2 ^ l.q)) ≡ true
