use Rattle.qss_run.proofs.Common.{◌≡◌, detector_at, false, holds_at, IsWritten, take}
use Rattle.qss_run.proofs.run_conditions.Conditions.read_changed.Given as goal

-- the truths so far
abbrev pub invariant-loop-condition : goal.invariant-loop-condition
invariant-loop-condition l = IsWritten false (λ place flag. flag ≡ holds_at (detector_at l.detectors place) l.tick) (take l.condition-index l.changed) l.fn.self.after_handlers.items l.at_arrival
