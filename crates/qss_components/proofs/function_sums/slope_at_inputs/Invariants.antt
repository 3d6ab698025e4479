use Rattle.qss_components.proofs.Common
use Common.{ℕ, ◌*ℤ◌, ◌*◌, ◌<◌, ◌^◌, ◌≡◌, ◌≤◌, abs_of, exceeds, false, FunctionInput, get_or}
use Common.{input_discretes, mode_coefficient, row_at, state_count, sum_over, take}
use Rattle.std.proofs.Common.{unsigned_abs}
use Rattle.qss_components.proofs.function_sums.slope_at_inputs.Given as goal

-- the sums over the inputs so far, of which each changes them by at most 2 ^ 87; no mode
-- coefficient so far exceeds its limit
abbrev pub invariant-loop-input : goal.invariant-loop-input
invariant-loop-input l = record {
  slopes : l.slope ≡ sum_over (λ (input : FunctionInput). mode_coefficient l.m.f (state_count l.m)
      (row_at l.m l.row) (input_discretes l.m l.inputs) input.var *ℤ input.value)
      (take l.input-index l.inputs);
  slope_bound : unsigned_abs l.slope ≤ l.input-index * 2 ^ 87;
  weights : l.weight ≡ sum_over (λ (input : FunctionInput). abs_of
      (mode_coefficient l.m.f (state_count l.m) (row_at l.m l.row) (input_discretes l.m l.inputs)
      input.var *ℤ input.value)) (take l.input-index l.inputs);
  weight_bound : unsigned_abs l.weight ≤ l.input-index * 2 ^ 87;
  fit : (k : ℕ) (d : FunctionInput) → k < l.input-index → exceeds 44
      (mode_coefficient l.m.f (state_count l.m) (row_at l.m l.row) (input_discretes l.m l.inputs)
      (get_or l.inputs k d).var) ≡ false;
}
