use Rattle.qss_run.proofs.Common.{take}
use Rattle.qss_run.proofs.Called.{AreCalled}
use Rattle.qss_run.proofs.run_conditions.Conditions.make_flipped_due.Given as goal

-- those scheduled so far
abbrev pub invariant-loop-condition : goal.invariant-loop-condition
invariant-loop-condition l = AreCalled l.states l.tick (take l.condition-index l.flipped) l.self.at_arrival.items l.self.after_handlers.items l.fn.agenda l.agenda
