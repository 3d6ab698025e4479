use Rattle.qss_order2.proofs.Common.{◌≡◌, IsWritten, pos, rise_at, take}
use Rattle.qss_order2.proofs.order2_rises.set_rises.Given as goal

-- the rises so far
abbrev pub invariant-loop-state : goal.invariant-loop-state
invariant-loop-state l =
    IsWritten (pos 0) (λ j z. z ≡ rise_at l.f.machine j l.levels) (take l.state-index l.list)
    l.fn.rises l.rises
