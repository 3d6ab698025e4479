use Rattle.qss_components.proofs.Common
use Common.{◌*ℤ◌, ◌^◌, arith, Input, pos, sum_done, to_z, unsigned_abs, w128, weighed_bound}
use Common.{weighed_fits, weighed_sum}
use Rattle.qss_components.proofs.crossing_model.crossing_speed_sum.Goals as goal

abbrev none : Input
none = record { var = 0; coef = pos 0; tick = 0; at = pos 0; speed = pos 0 }

pub overflow_add-sum : goal.overflow_add-sum
overflow_add-sum c =
    weighed_fits (λ (i : Input). i.coef *ℤ i.speed) (λ (i : Input). unsigned_abs i.coef) c.args.inputs.now
    c.loop-input.input-index none (to_z w128 c.loop-input.sum-bits) c.crossing_speed_part-sum.result (2 ^ 88)
    c.loop-input.invariant.bound c.crossing_speed_part-sum.ensures.bound c.loop-input-test.true (omega (arith, c.requires.coefficients))

pub loop-input-preserved : goal.loop-input-preserved
loop-input-preserved c = record {
  so_far = weighed_sum (λ (i : Input). i.coef *ℤ i.speed) (λ (i : Input). unsigned_abs i.coef) c.args.inputs.now
      c.loop-input.input-index none (to_z w128 c.loop-input.sum-bits) c.crossing_speed_part-sum.result (2 ^ 88)
      c.loop-input.invariant.bound c.crossing_speed_part-sum.ensures.bound c.loop-input-test.true (omega (arith, c.requires.coefficients))
      c.loop-input.invariant.so_far c.crossing_speed_part-sum.ensures.value;
  bound = weighed_bound (λ (i : Input). i.coef *ℤ i.speed) (λ (i : Input). unsigned_abs i.coef) c.args.inputs.now
      c.loop-input.input-index none (to_z w128 c.loop-input.sum-bits) c.crossing_speed_part-sum.result (2 ^ 88)
      c.loop-input.invariant.bound c.crossing_speed_part-sum.ensures.bound c.loop-input-test.true (omega (arith, c.requires.coefficients));
}

pub returns-clause-value : goal.returns-clause-value
returns-clause-value c =
    sum_done (λ (i : Input). i.coef *ℤ i.speed) c.args.inputs.now c.loop-input.input-index (to_z w128 c.loop-input.sum-bits)
    c.loop-input.invariant.so_far c.loop-input-test.false
