use Rattle.qss_order2.proofs.Common.{IsDue2, IsWritten, motion_at, None, snapshot_of, take, until}
use Rattle.qss_order2.proofs.order2_leaving.set_leaving_dues.Given as goal

-- the due ticks so far
abbrev pub invariant-loop-state : goal.invariant-loop-state
invariant-loop-state l =
    IsWritten None (λ j due. IsDue2 l.f.machine (snapshot_of (motion_at l.f.machine l.q
    l.window.from))
    l.window.ticks j (until l.window.from due)) (take l.state-index l.list) l.fn.dues l.dues
