use Rattle.qss_devs.proofs.Common
use Common.{◌-◌, ◌≤◌, AreEventFree, IsAllowedLevel, List, Snapshot, snapshot_of, StoreRepresents}
use Rattle.qss_devs.proofs.coupled_events.go_to_next_rows.Given as goal

-- the model is at the tick, and the ticks up to it had no rows
abbrev pub invariant-loop-tick : goal.invariant-loop-tick
invariant-loop-tick g l = record {
  stands : StoreRepresents l.m l.q.name l.tick l.s;
  later : l.fn.from ≤ l.tick;
  in_time : l.tick ≤ l.m.last;
  are_silent : (silent : List Snapshot) × AreEventFree (IsAllowedLevel l.q.name) l.m l.fn.from (snapshot_of l.fn.from l.fn.s) silent l.tick (snapshot_of l.tick l.s);
}

abbrev pub decreases-loop-tick : goal.decreases-loop-tick
decreases-loop-tick g l = l.m.last - l.tick
