use Rattle.qss_run.proofs.Common.{AreSettledAlong, readers_of, take}
use Rattle.qss_run.proofs.run_conditions.Conditions.settle_reader_detectors.Given as goal

-- the conditions that read the variables so far are settled
abbrev pub invariant-loop-var : goal.invariant-loop-var
invariant-loop-var l = AreSettledAlong l.at (readers_of l.at.machine.now (take l.var-index l.vars)) l.fn.self l.self l.fn.agenda l.agenda l.fn.work l.work
