use Rattle.qss_components.proofs.Common.{◌*ℤ◌, ◌*◌, ◌^◌, ◌≡◌, ◌≤◌, sum_by, sum_over, take}
use Rattle.std.proofs.Common.{unsigned_abs}
use Rattle.qss_components.proofs.crossing_model.crossing_speed_sum.Given as goal

-- the sum so far, at most the coefficients so far times the greatest value
abbrev pub invariant-loop-input : goal.invariant-loop-input
invariant-loop-input l = record {
  so_far : l.sum ≡ sum_over (λ i. i.coef *ℤ i.speed) (take l.input-index l.inputs);
  bound : unsigned_abs l.sum ≤ sum_by (λ i. unsigned_abs i.coef) (take l.input-index l.inputs) * 2 ^ 88;
}
