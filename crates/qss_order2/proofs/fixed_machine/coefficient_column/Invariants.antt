use Rattle.qss_order2.proofs.Common.{take}
use Rattle.qss_order2.proofs.ColumnSums.{IsColumnOf}
use Rattle.qss_order2.proofs.fixed_machine.coefficient_column.Given as goal

-- the entries of the rows so far
abbrev pub invariant-loop-row : goal.invariant-loop-row
invariant-loop-row l = IsColumnOf l.m l.state (take l.row-index l.readers) l.entries.items
