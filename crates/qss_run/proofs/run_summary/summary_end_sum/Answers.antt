use Rattle.qss_run.proofs.Common.{◌<◌, ◌^◌, arith, end_level, length, pos, to_z, w128}
use Rattle.qss_machine.proofs.Loops.{sum_step}
use Rattle.qss_machine.specs.declared.machine_parts.RowKind.TheVariants as kind
use Rattle.qss_run.proofs.run_summary.summary_end_sum.Goals as goal

pub loop-row-preserved : goal.loop-row-preserved
loop-row-preserved c =
    let room : length c.args.rows.now < 2 ^ 64 = omega arith in
    let turn = sum_step end_level c.args.rows.now
    c.loop-row.row-index (record { tick = 0; kind = kind.Start; var = 0; level = pos 0; state = pos 0 }) (to_z w128 c.loop-row.sum-bits) c.summary_end_level-sum.result (2 ^ 63)
    c.loop-row.invariant.so_far c.loop-row.invariant.bound c.summary_end_level-sum.ensures.value c.summary_end_level-sum.ensures.bound
    c.loop-row-test.true (omega (arith, room)) in
    record { so_far = turn.0; bound = turn.1 }
