use Rattle.qss_run.proofs.Common.{AreSettledAlong, take}
use Rattle.qss_run.proofs.run_conditions.Conditions.settle_detectors_at.Given as goal

-- the conditions so far are settled
abbrev pub invariant-loop-place : goal.invariant-loop-place
invariant-loop-place l = AreSettledAlong l.at (take l.place-index l.places) l.fn.self l.self l.fn.agenda l.agenda l.fn.work l.work
