use Rattle.mu_num.proofs.Common.{ℕ, ◌<◌, ◌≡◌, false, get_or, is_point}
use Rattle.mu_num.proofs.literal.find_literal_point.Given as goal

abbrev pub invariant-loop-place : goal.invariant-loop-place
invariant-loop-place l = (k : ℕ) → k < l.place → is_point (get_or l.text k 0) ≡ false
