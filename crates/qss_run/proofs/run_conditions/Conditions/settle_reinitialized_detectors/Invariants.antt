use Rattle.qss_run.proofs.Common.{AreSettledAlong, reinitialized_of, take, touched_by}
use Rattle.qss_run.proofs.run_conditions.Conditions.settle_reinitialized_detectors.Given as goal

-- the conditions that the states of the rows so far touch are settled
abbrev pub invariant-loop-index : goal.invariant-loop-index
invariant-loop-index l = AreSettledAlong l.at (touched_by l.at.machine.now (reinitialized_of (take l.index l.fn.work.log))) l.fn.self l.self l.fn.agenda l.agenda l.fn.work l.work
