-- The state of a second-order simulator after a call.
use Rattle.std.specs.Prelude.{◌≡◌, ℕ, ◌+◌, ℤ, List, length, Option, Some, None}
use Rattle.qss_machine.specs.declared.compiled_machine.Machine.{Machine}
use Rattle.qss_order2.specs.declared.outcome2.Outcome2.{Outcome2}
use Rattle.qss_order2.specs.declared.outcome2.Outcome2.TheVariants.{Events, Done, Over}
use Rattle.qss_hand.specs.Works.{overflow_of}
use Rattle.qss_order2.specs.declared.order2_events.EventStep.{EventStep}
use Rattle.qss_order2.specs.declared.order2_start.Store.{Store}
use Rattle.qss_order2.specs.SecondSteps.{SecondSnapshot, second_snapshot_unless}
use Rattle.qss_order2.specs.SecondRuns.{last_second_snapshot, tick_rows2}
use Rattle.qss_order2.specs.Events.{SecondRunView, LeadsSilently2, IsVisit2}
use Rattle.qss_order2.specs.Stores.{snapshot_at}

-- the view of a store at a tick
abbrev pub view_of : Machine → ℕ → Store → Option Outcome2 → SecondRunView
view_of m tick s end = record {
  machine = m;
  tick = tick;
  snapshot = snapshot_at m s.motion tick;
  rows = s.rows.items;
  end = end;
}

-- the tick after a call with this outcome
abbrev pub tick_of : ℕ → Outcome2 → ℕ
tick_of last (Events tick) = tick
tick_of last Done = last
tick_of last (Over tick var) = tick

-- the outcome with which the run has ended, if it has
abbrev pub end_of : Outcome2 → Option Outcome2
end_of (Events tick) = None
end_of Done = Some Done
end_of (Over tick var) = Some (Over tick var)

-- event-free ticks lead from one snapshot to another
pub record AreSilent2 (Rule : ℤ → ℤ → ℤ → Type 0) (m : Machine) (from : ℕ) (w0 : SecondSnapshot)
    (silent : List SecondSnapshot) (tick : ℕ) (w : SecondSnapshot) : Type 0 where
  pub leads : LeadsSilently2 Rule m from w0 silent
  pub as_many : from + length silent ≡ tick
  pub reached : last_second_snapshot w0 silent ≡ w

-- a store advanced by an event step: event-free ticks, then one more tick whose rows it holds
abbrev pub IsEventStep : (ℤ → ℤ → ℤ → Type 0) → Machine → ℕ → Store → EventStep → Store → Type 0
IsEventStep Rule m tick old step new =
    (silent : List SecondSnapshot)
    × IsVisit2 Rule m tick (snapshot_at m old.motion tick) silent step.tick (second_snapshot_unless
    (overflow_of step.ran) (snapshot_at m new.motion step.tick))
    × (overflow_of step.ran ≡ None → new.rows.items ≡ tick_rows2 m step.tick (last_second_snapshot
    (snapshot_at m old.motion tick) silent) (snapshot_at m new.motion step.tick))
