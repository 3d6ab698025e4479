use Rattle.qss_order2.specs.Fixed.{AreRowsBelow}
use Rattle.qss_order2.proofs.fixed_machine.rows_of.Given as goal

-- the rows so far
abbrev pub invariant-loop-row : goal.invariant-loop-row
invariant-loop-row l = AreRowsBelow l.m l.row l.rows.items
