use Rattle.qss_run.proofs.Common.{AreArrived, has_entry, states_at, take}
use Rattle.qss_run.proofs.condition_handlers.move_read_by_form.Given as goal

-- the states of the entries so far
abbrev pub invariant-loop-entry : goal.invariant-loop-entry
invariant-loop-entry l = AreArrived (λ j. has_entry j (take l.entry-index l.form.entries)) (states_at l.lines l.tick) l.fn.x l.x
