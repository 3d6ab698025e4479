use Rattle.qss_run.proofs.Common.{action_reads, AreArrived, list_any, states_at, take}
use Rattle.qss_run.proofs.condition_handlers.move_read_by_actions.Given as goal

-- the states of the statements so far
abbrev pub invariant-loop-action : goal.invariant-loop-action
invariant-loop-action l = AreArrived (λ j. list_any (action_reads j) (take l.action-index l.actions)) (states_at l.lines l.tick) l.fn.x l.x
