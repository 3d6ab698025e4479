-- The sum grows by one size per iteration.
use Rattle.qss_order2.proofs.Common
use Common.{ℤ, ◌*ℤ◌, ◌^◌, abs_of, arith, Entry, int_at, List, pos, sum_done, sum_step}
use Rattle.qss_order2.proofs.order2_rises.rise_level_weight.Goals as goal

abbrev size : List ℤ → Entry → ℤ
size levels entry = abs_of (entry.coef *ℤ int_at levels entry.var)

pub loop-entry-preserved : goal.loop-entry-preserved
loop-entry-preserved c =
    let none : Entry = record { var = 0; coef = pos 0 } in
    let turn = sum_step (size c.args.levels.now) c.args.entries.now c.loop-entry.entry-index none _
    c.rise_level_size-sum.result (2 ^ 94) c.loop-entry.invariant.so_far
    c.loop-entry.invariant.bound c.rise_level_size-sum.ensures.value
    c.rise_level_size-sum.ensures.bound c.loop-entry-test.true (omega (
      arith,
      c.requires.count_limit,
    )) in
    record { so_far = turn.0; bound = turn.1 }

pub returns-clause-value : goal.returns-clause-value
returns-clause-value c =
    sum_done (size c.args.levels.now) _ _ _ c.loop-entry.invariant.so_far c.loop-entry-test.false
