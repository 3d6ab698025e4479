use Rattle.qss_order2.proofs.Common.{AreColumnsBelow}
use Rattle.qss_order2.proofs.fixed_machine.list_coefficient_columns.Given as goal

-- the columns so far
abbrev pub invariant-loop-state : goal.invariant-loop-state
invariant-loop-state l = AreColumnsBelow l.m l.state l.columns.items
