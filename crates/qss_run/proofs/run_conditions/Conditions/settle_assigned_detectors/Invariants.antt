use Rattle.qss_run.proofs.Common.{AreSettledAlong, readers_before, take}
use Rattle.qss_run.proofs.run_conditions.Conditions.settle_assigned_detectors.Given as goal

-- the conditions that read the values so far before the tick are settled
abbrev pub invariant-loop-var : goal.invariant-loop-var
invariant-loop-var l = AreSettledAlong l.at (readers_before l.at.machine.now (take l.var-index l.assigned)) l.fn.self l.self l.fn.agenda l.agenda l.fn.work l.work
