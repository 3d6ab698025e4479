use Rattle.qss_run.proofs.Common.{AreArrived, fired_reads, states_at, take}
use Rattle.qss_run.proofs.condition_handlers.move_read_by_branches.Given as goal

-- the states of the branches so far
abbrev pub invariant-loop-place : goal.invariant-loop-place
invariant-loop-place l = AreArrived (λ j. fired_reads j l.at.machine.now l.branches (take l.place-index l.fired)) (states_at l.at.states.now.lines.items l.at.tick) l.fn.x l.x
