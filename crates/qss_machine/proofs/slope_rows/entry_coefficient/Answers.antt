use Rattle.qss_machine.proofs.Common.{◌==◌, ◌^◌, arith, Entry, if◌then◌else◌, pos, to_z, w128}
use Rattle.qss_machine.proofs.Loops.{sum_step}
use Rattle.qss_machine.proofs.slope_rows.entry_coefficient.Goals as goal

pub loop-entry-preserved : goal.loop-entry-preserved
loop-entry-preserved c =
    let turn = sum_step (λ (entry : Entry). if entry.var == c.args.var then entry.coef else pos 0) c.args.entries.now
    c.loop-entry.entry-index (record { var = 0; coef = pos 0 }) (to_z w128 c.loop-entry.sum-bits) c.slope_entry_coefficient-sum.result (2 ^ 63)
    c.loop-entry.invariant.so_far c.loop-entry.invariant.bound c.slope_entry_coefficient-sum.ensures.value c.slope_entry_coefficient-sum.ensures.bound
    c.loop-entry-test.true (omega (arith, c.requires.count_limit)) in
    record { so_far = turn.0; bound = turn.1 }
