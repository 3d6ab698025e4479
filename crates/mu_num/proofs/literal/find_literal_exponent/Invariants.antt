use Rattle.mu_num.proofs.Common.{ℕ, ◌<◌, ◌≡◌, false, get_or, is_exponent_mark}
use Rattle.mu_num.proofs.literal.find_literal_exponent.Given as goal

abbrev pub invariant-loop-place : goal.invariant-loop-place
invariant-loop-place l = (k : ℕ) → k < l.place → is_exponent_mark (get_or l.text k 0) ≡ false
