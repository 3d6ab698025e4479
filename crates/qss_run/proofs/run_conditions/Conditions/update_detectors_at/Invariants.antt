use Rattle.qss_run.proofs.Common.{AreDetectorsUpdated, take}
use Rattle.qss_run.proofs.run_conditions.Conditions.update_detectors_at.Given as goal

-- the conditions so far have their speeds
abbrev pub invariant-loop-place : goal.invariant-loop-place
invariant-loop-place l = AreDetectorsUpdated l.at (take l.place-index l.places) l.fn.self l.self l.fn.agenda l.agenda
