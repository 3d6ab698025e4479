use Rattle.qss_run.proofs.Common.{AreDetectorsUpdated, flat_map, readers_of, reading_rows, take}
use Rattle.qss_run.proofs.run_conditions.Conditions.update_detectors_of.Given as goal

-- the conditions that read a state whose row reads one of the moved states so far have their speeds
abbrev pub invariant-loop-state : goal.invariant-loop-state
invariant-loop-state l = AreDetectorsUpdated l.at (flat_map (λ j. readers_of l.at.machine.now (reading_rows l.at.machine.now j)) (take l.state-index l.moved)) l.fn.self l.self l.fn.agenda l.agenda
