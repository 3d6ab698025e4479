use Rattle.qss_own_traces.specs.SecondCourses.{IsAt}
use Rattle.qss_own_traces.proofs.second_order_trace.SecondCourse.run_to_last_tick.Given as goal

-- the run so far
abbrev pub invariant-loop-tick : goal.invariant-loop-tick
invariant-loop-tick l = IsAt l.m l.tick l.self
