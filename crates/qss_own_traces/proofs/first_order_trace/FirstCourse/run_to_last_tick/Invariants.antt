use Rattle.qss_own_traces.specs.FirstCourses.{IsAt}
use Rattle.qss_own_traces.proofs.first_order_trace.FirstCourse.run_to_last_tick.Given as goal

-- the run so far
abbrev pub invariant-loop-tick : goal.invariant-loop-tick
invariant-loop-tick l = IsAt l.m l.tick l.self
