-- Defines the step of a simulator from one event of a run to the next.
use Rattle.std.specs.Prelude.{◌≡◌, ◌≢◌, ℕ, ◌+◌, ◌-◌, ◌≤◌, List, [], ◌∷◌, length, ℤ, pos, Option, Some, None, Ok, Err}
use Rattle.qss_machine.specs.declared.machine_parts.Row.{Row}
use Rattle.qss_machine.specs.declared.machine_parts.RowKind.TheVariants as kind
use Rattle.qss_machine.specs.Ticks.{Snapshot, IsStep}
use Rattle.qss_machine.specs.Runs.{last_snapshot, tick_rows, snapshot_rows}
use Rattle.qss_events.specs.EventFreeTicks.{rows_from}
use Rattle.qss_events.specs.declared.event_outcome.Outcome.{Outcome}
use Rattle.qss_events.specs.declared.event_outcome.Outcome.TheVariants.{Events, Done, Over}
use Rattle.qss_events.specs.RunViews.{RunView}
use Rattle.qss_events.specs.EventFreeRuns.{IsEventFreeExecution}

-- after these event-free ticks, the next tick has rows
pub record IsNextEvent (Rule : ℤ → ℤ → ℤ → ℤ → Type 0) (old new : RunView) (tick : ℕ) (silent : List Snapshot) : Type 0 where
  pub leads : IsEventFreeExecution Rule old.machine old.tick old.snapshot silent
  pub is_next : tick ≡ old.tick + length silent + 1
  pub in_time : tick ≤ old.machine.last
  pub is_step : IsStep Rule old.machine tick (last_snapshot old.snapshot silent) (Ok new.snapshot)
  pub own_rows : new.rows ≡ tick_rows old.machine tick (last_snapshot old.snapshot silent) new.snapshot
  pub some_rows : new.rows ≢ []
  pub here : new.tick ≡ tick

-- these event-free ticks lead to the last tick, and only the end rows remain
pub record IsDone (Rule : ℤ → ℤ → ℤ → ℤ → Type 0) (old new : RunView) (silent : List Snapshot) : Type 0 where
  pub leads : IsEventFreeExecution Rule old.machine old.tick old.snapshot silent
  pub at_last : old.tick + length silent ≡ old.machine.last
  pub snapshot : new.snapshot ≡ last_snapshot old.snapshot silent
  pub own_rows : new.rows ≡ snapshot_rows kind.End old.machine.last new.snapshot
  pub here : new.tick ≡ old.machine.last

-- after these event-free ticks, a variable overflows
pub record IsOverflow (Rule : ℤ → ℤ → ℤ → ℤ → Type 0) (old new : RunView) (tick var : ℕ) (silent : List Snapshot) : Type 0 where
  pub leads : IsEventFreeExecution Rule old.machine old.tick old.snapshot silent
  pub is_next : tick ≡ old.tick + length silent + 1
  pub in_time : tick ≤ old.machine.last
  pub is_step : IsStep Rule old.machine tick (last_snapshot old.snapshot silent) (Err var)
  pub own_rows : new.rows ≡ record { tick = tick; kind = kind.Overflow; var = var; level = pos 0; state = pos 0 } ∷ []
  pub here : new.tick ≡ tick

-- the remaining rows; none after the end of the run
abbrev pub unless_ended : Option Outcome → List Row → List Row
unless_ended None rows = rows
unless_ended (Some end) rows = []

-- the remaining rows, under a rule that is a function
abbrev pub rows_left : (ℤ → ℤ → ℤ → ℤ) → RunView → List Row
rows_left level s = unless_ended s.end (rows_from level s.machine (s.machine.last - s.tick) s.tick s.snapshot)

-- the effect of a call with this outcome
abbrev pub IsNext : (ℤ → ℤ → ℤ → ℤ → Type 0) → RunView → RunView → Outcome → Type 0
IsNext Rule old new (Events tick) = (silent : List Snapshot) × IsNextEvent Rule old new tick silent × (new.end ≡ None)
IsNext Rule old new Done = (silent : List Snapshot) × IsDone Rule old new silent × (new.end ≡ Some Done)
IsNext Rule old new (Over tick var) = (silent : List Snapshot) × IsOverflow Rule old new tick var silent × (new.end ≡ Some (Over tick var))
