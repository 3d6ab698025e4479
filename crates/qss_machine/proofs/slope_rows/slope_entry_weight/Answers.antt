use Rattle.qss_machine.proofs.Common
use Common.{◌*ℤ◌, ◌++◌, ◌^◌, abs_of, arith, Entry, int_at, pos, to_z, w128}
use Rattle.qss_machine.proofs.Loops.{sum_step, sum_done}
use Rattle.qss_machine.proofs.slope_rows.slope_entry_weight.Goals as goal

pub loop-entry-preserved : goal.loop-entry-preserved
loop-entry-preserved c =
    let turn = sum_step (λ (entry : Entry). abs_of (entry.coef *ℤ int_at (c.args.first.now ++ c.args.second.now) entry.var)) c.args.entries.now
    c.loop-entry.entry-index (record { var = 0; coef = pos 0 }) (to_z w128 c.loop-entry.sum-bits) c.slope_entry_size-sum.result (2 ^ 87)
    c.loop-entry.invariant.so_far c.loop-entry.invariant.bound c.slope_entry_size-sum.ensures.value c.slope_entry_size-sum.ensures.bound
    c.loop-entry-test.true (omega (arith, c.requires.count_limit)) in
    record { so_far = turn.0; bound = turn.1 }

pub returns-clause-value : goal.returns-clause-value
returns-clause-value c =
    sum_done (λ (entry : Entry). abs_of (entry.coef *ℤ int_at (c.args.first.now ++ c.args.second.now) entry.var)) c.args.entries.now c.loop-entry.entry-index (to_z w128 c.loop-entry.sum-bits)
    c.loop-entry.invariant.so_far c.loop-entry-test.false
