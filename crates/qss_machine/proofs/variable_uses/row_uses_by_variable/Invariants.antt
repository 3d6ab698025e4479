use Rattle.qss_machine.proofs.Common.{Collects, map, row_reads, take}
use Rattle.qss_machine.proofs.variable_uses.row_uses_by_variable.Given as goal

-- the places so far
abbrev pub invariant-loop-place : goal.invariant-loop-place
invariant-loop-place l = Collects row_reads (take l.place l.rows) l.count (map (λ list. list.items) l.lists.items)
