use Rattle.qss_run.proofs.Common.{AreDetectorsUpdated, readers_of, take}
use Rattle.qss_run.proofs.run_conditions.Conditions.update_detectors_of_states.Given as goal

-- the conditions that read the states so far have their speeds
abbrev pub invariant-loop-state : goal.invariant-loop-state
invariant-loop-state l = AreDetectorsUpdated l.at (readers_of l.at.machine.now (take l.state-index l.states)) l.fn.self l.self l.fn.agenda l.agenda
