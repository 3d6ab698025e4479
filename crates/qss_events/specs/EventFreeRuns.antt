-- Defines sequences of event-free ticks, and the event step after them.
use Rattle.std.specs.Prelude.{◌≡◌, ℕ, ◌+◌, List, [], ◌∷◌, length, ℤ, Result, Ok}
use Rattle.qss_machine.specs.declared.compiled_machine.Machine.{Machine}
use Rattle.qss_machine.specs.Ticks.{Snapshot, IsStep}
use Rattle.qss_machine.specs.Runs.{last_snapshot, tick_rows}

-- steps under a rule lead to these snapshots, one per tick, and none of these ticks has a row
abbrev pub IsEventFreeExecution : (ℤ → ℤ → ℤ → ℤ → Type 0) → Machine → ℕ → Snapshot → List Snapshot → Type 0
IsEventFreeExecution Rule m tick w [] = Unit {0}
IsEventFreeExecution Rule m tick w (next ∷ snapshots) =
    IsStep Rule m (tick + 1) w (Ok next) × (tick_rows m (tick + 1) w next ≡ []) × IsEventFreeExecution Rule m (tick + 1) next snapshots

-- these snapshots of event-free ticks lead to a snapshot at a tick
pub record AreEventFree (Rule : ℤ → ℤ → ℤ → ℤ → Type 0) (m : Machine) (tick : ℕ) (w : Snapshot) (silent : List Snapshot) (last : ℕ) (snapshot : Snapshot) : Type 0 where
  pub leads : IsEventFreeExecution Rule m tick w silent
  pub as_many : last ≡ tick + length silent
  pub reached : last_snapshot w silent ≡ snapshot

-- after these event-free ticks, the next tick has this result
pub record IsVisit (Rule : ℤ → ℤ → ℤ → ℤ → Type 0) (m : Machine) (tick : ℕ) (w : Snapshot) (silent : List Snapshot) (next : ℕ) (result : Result Snapshot ℕ) : Type 0 where
  pub leads : IsEventFreeExecution Rule m tick w silent
  pub is_next : next ≡ tick + length silent + 1
  pub is_step : IsStep Rule m next (last_snapshot w silent) result
