use Rattle.qss_machine.proofs.Common.{has_entry, map, MarksBy, take}
use Rattle.qss_machine.proofs.variable_uses.mark_entry_uses.Given as goal

-- the marks so far
abbrev pub invariant-loop-entry : goal.invariant-loop-entry
invariant-loop-entry l = MarksBy (map (λ list. list.items) l.initial.lists.items) (map (λ list. list.items) l.lists.items) l.place (λ v. has_entry v (take l.entry-index l.entries))
