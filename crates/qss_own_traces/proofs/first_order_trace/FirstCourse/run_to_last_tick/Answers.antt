-- The run to its last tick.
use Rattle.qss_own_traces.proofs.Common
use Common.{◌∙◌, ap, arith, Holds, length, levels_from, List, Run, Snapshot, start_snapshot}
use Common.{state_count, states_from, subst, sym}
use Rattle.qss_own_traces.specs.FirstPlaces.{snapshot_of}
use Rattle.qss_own_traces.proofs.FirstRuns.{left_none}
use Rattle.qss_own_traces.proofs.first_order_trace.FirstCourse.run_to_last_tick.Goals as goal

pub returns-clause-end : goal.returns-clause-end
returns-clause-end c =
    let m = c.args.m.now in
    let at = c.loop-tick.invariant in
    let course = c.loop-tick.self in
    let whole = left_none m c.loop-tick.tick (snapshot_of m course.place) at.snapshots c.loop-tick-test.false at.rest in
    record {
      reaches_end = ap (λ (run : Run). run.overflow) whole;
      as_many = ap (λ (run : Run). length run.snapshots) whole ∙ omega (arith, at.as_many, c.loop-tick-test.false, c.loop-tick.auto.tick-end);
      held = subst (λ (ws : List Snapshot). Holds (state_count m) (states_from (start_snapshot m) ws) (levels_from (start_snapshot m) ws) course.draft) (sym (ap (λ (run : Run). run.snapshots) whole)) at.held;
    }
