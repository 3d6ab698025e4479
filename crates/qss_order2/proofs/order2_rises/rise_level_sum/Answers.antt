-- The sum grows by one term a turn.
use Rattle.qss_order2.proofs.Common.{◌^◌, ◌∙◌, arith, pos, sum_done, sum_step, sym, weighted_sum-is}
use Rattle.qss_order2.proofs.order2_rises.rise_level_sum.Goals as goal

pub loop-entry-preserved : goal.loop-entry-preserved
loop-entry-preserved c =
    let turn = sum_step _ c.args.entries.now c.loop-entry.entry-index (record {
      var = 0;
      coef = pos 0;
    }) _ c.entry_rise_term-sum.result (2 ^ 94) c.loop-entry.invariant.so_far
    c.loop-entry.invariant.bound
    c.entry_rise_term-sum.ensures.value c.entry_rise_term-sum.ensures.bound c.loop-entry-test.true
    (omega (
      arith,
      c.requires.count_limit,
    )) in
    record { so_far = turn.0; bound = turn.1 }

pub returns-clause-value : goal.returns-clause-value
returns-clause-value c =
    sum_done _ _ _ _ c.loop-entry.invariant.so_far c.loop-entry-test.false
    ∙ sym (weighted_sum-is c.args.entries.now c.args.levels.now c.requires.known)
