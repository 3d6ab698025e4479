use Rattle.qss_machine.proofs.Common.{◌≡◌, Collects, condition_reads, length, map, take}
use Rattle.qss_machine.proofs.Places.{conditions_in}
use Rattle.qss_machine.proofs.variable_uses.condition_uses_by_variable.Given as goal

-- the places so far, and the place of the next clause's first condition
abbrev pub invariant-loop-clause : goal.invariant-loop-clause
invariant-loop-clause l = record {
  found : Collects condition_reads (conditions_in (take l.clause-index l.clauses)) l.count (map (λ list. list.items) l.lists.items);
  place : l.first ≡ length (conditions_in (take l.clause-index l.clauses));
}
