-- The run to its last tick.
use Rattle.qss_own_traces.proofs.Common
use Common.{◌∙◌, ap, arith, Holds, length, levels_from2, Run2, snapshot_of, state_count}
use Common.{states_from2, subst, sym}
use Rattle.qss_own_traces.proofs.SecondRuns.{left_none}
use Rattle.qss_own_traces.proofs.second_order_trace.SecondCourse.run_to_last_tick.Goals as goal

pub returns-clause-end : goal.returns-clause-end
returns-clause-end c =
    let m = c.args.m.now in
    let at = c.loop-tick.invariant in
    let course = c.loop-tick.self in
    let whole = left_none m c.loop-tick.tick (snapshot_of course.place) at.snapshots c.loop-tick-test.false at.rest in
    record {
      reaches_end = ap (λ (run : Run2). run.overflow) whole;
      as_many = ap (λ (run : Run2). length run.snapshots) whole ∙ omega (arith, at.as_many, c.loop-tick-test.false, c.loop-tick.auto.tick-end);
      held = subst (λ (run : Run2). Holds (state_count m) (states_from2 run.start run.snapshots) (levels_from2 run.start run.snapshots) course.draft) (sym whole) at.held;
    }
