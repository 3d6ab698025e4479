use Rattle.qss_order2.proofs.Common.{◌≡◌, bend_at, IsWritten, pos, take}
use Rattle.qss_order2.proofs.order2_rises.set_rise_bends.Given as goal

-- the bends so far
abbrev pub invariant-loop-state : goal.invariant-loop-state
invariant-loop-state l = IsWritten (pos 0) (λ j z. z ≡ bend_at l.f.machine j l.changes)
    (take l.state-index l.list) l.fn.bends l.bends
