use Rattle.qss_order2.proofs.Common
use Common.{◌-◌, ◌≡◌, ◌≤◌, AreSilent2, IsRuled2, IsStoreAt, List, motion_at, None, overflow_of}
use Common.{SecondSnapshot, snapshot_of}
use Rattle.qss_order2.proofs.order2_events.advance_to_event.Given as goal

-- the store is at the tick, within its limits, and the ticks up to it had no rows
abbrev pub invariant-loop-tick : goal.invariant-loop-tick
invariant-loop-tick g l = record {
  is_store : IsStoreAt l.f.machine l.tick l.s;
  within : overflow_of l.s.over ≡ None;
  began : overflow_of l.fn.s.over ≡ None;
  in_time : l.tick ≤ l.f.machine.last;
  are_silent : (silent : List SecondSnapshot) × AreSilent2 (IsRuled2 l.rule.nearest)
      l.f.machine l.fn.from (snapshot_of (motion_at l.f.machine l.fn.s.motion l.fn.from))
      silent l.tick (snapshot_of (motion_at l.f.machine l.s.motion l.tick));
}

abbrev pub decreases-loop-tick : goal.decreases-loop-tick
decreases-loop-tick g l = l.f.machine.last - l.tick
