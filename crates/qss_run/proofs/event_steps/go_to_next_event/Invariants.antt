use Rattle.qss_run.proofs.Common
use Common.{◌+◌, ◌-◌, ◌≤◌, AreEventFree, IsAllowedLevel, IsStoreAt, List, None, Snapshot}
use Common.{snapshot_of, touches_after}
use Rattle.qss_run.proofs.event_steps.go_to_next_event.Given as goal

-- the store represents the tick, and the ticks up to it had no rows and affected a state for each
-- move
abbrev pub invariant-loop-tick : goal.invariant-loop-tick
invariant-loop-tick g l = record {
  stands : IsStoreAt l.m l.tick l.s;
  later : l.fn.from ≤ l.tick;
  in_time : l.tick ≤ l.m.last;
  are_silent : (silent : List Snapshot) × AreEventFree (IsAllowedLevel l.q.name) l.m l.fn.from (snapshot_of l.fn.from l.fn.s) silent l.tick (snapshot_of l.tick l.s)
      × (l.steps ≤ l.fn.steps + touches_after l.m l.fn.from (snapshot_of l.fn.from l.fn.s) silent None);
}

abbrev pub decreases-loop-tick : goal.decreases-loop-tick
decreases-loop-tick g l = l.m.last - l.tick
