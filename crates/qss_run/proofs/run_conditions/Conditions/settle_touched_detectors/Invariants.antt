use Rattle.qss_run.proofs.Common.{AreSettledAlong, take, touched_by}
use Rattle.qss_run.proofs.run_conditions.Conditions.settle_touched_detectors.Given as goal

-- the conditions that the variables so far touch are settled
abbrev pub invariant-loop-var : goal.invariant-loop-var
invariant-loop-var l = AreSettledAlong l.at (touched_by l.at.machine.now (take l.var-index l.vars)) l.fn.self l.self l.fn.agenda l.agenda l.fn.work l.work
