use Rattle.qss_order2.proofs.Common.{int_at, IsAnswer, IsWritten, level_unit, pos, take}
use Rattle.qss_order2.proofs.order2_rises.set_rise_changes.Given as goal

-- the changes so far
abbrev pub invariant-loop-state : goal.invariant-loop-state
invariant-loop-state g l =
    IsWritten (pos 0) (λ j z. IsAnswer l.rule.nearest (int_at l.rises j) (level_unit l.f.machine) z)
    (take l.state-index l.list) l.fn.changes l.changes
