-- The steps of a simulator are free steps, for any quantizer.
use Rattle.std.specs.Prelude.{◌≡◌, ◌≢◌, ℕ, ◌+◌, List, [], ◌∷◌, length, Option, Some, None, Err}
use Rattle.qss_machine.specs.declared.compiled_machine.Machine.{Machine}
use Rattle.qss_machine.specs.Firing.{HasTruths}
use Rattle.qss_machine.specs.RunLaws.{StaysWithinDrift, states_from, levels_from}
use Rattle.qss_machine.specs.Legitimate.{IsLegitimate}
use Rattle.qss_machine.specs.Machines.{quanta, start_states}
use Rattle.qss_machine.specs.Runs.{IsFreeExecution, last_snapshot}
use Rattle.qss_machine.specs.Ticks.{Snapshot, IsStepBy, IsFreeLevel, start_snapshot}
use Rattle.qss_events.specs.RemainingRows.{first_view}
use Rattle.qss_quant.specs.declared.quantizer.Rule.{Rule}
use Rattle.qss_events.specs.Events.{IsNext}
use Rattle.qss_events.specs.AllowedLevels.{IsAllowedLevel}
use Rattle.qss_events.specs.RunViews.{RunView}
use Rattle.qss_events.specs.declared.event_outcome.Outcome.{Outcome}
use Rattle.qss_events.specs.declared.event_outcome.Outcome.TheVariants.{Events, Done, Over}

-- a free execution with these snapshots, one per tick, from a snapshot at a tick to another at a
-- later tick
pub record IsWay (m : Machine) (tick : ℕ) (w : Snapshot) (snapshots : List Snapshot) (last : ℕ) (snapshot : Snapshot) : Type 0 where
  pub leads : IsFreeExecution m tick w snapshots
  pub as_many : last ≡ tick + length snapshots
  pub reached : last_snapshot w snapshots ≡ snapshot

-- there is such an execution
abbrev pub IsReached : Machine → ℕ → Snapshot → ℕ → Snapshot → Type 0
IsReached m tick w last snapshot = (snapshots : List Snapshot) × IsWay m tick w snapshots last snapshot

-- a free execution to a snapshot from which a free step overflows at a variable
abbrev pub IsPassed : Machine → ℕ → Snapshot → ℕ → ℕ → Type 0
IsPassed m tick w last var =
    (snapshots : List Snapshot) × IsFreeExecution m tick w snapshots × (last ≡ tick + length snapshots + 1)
    × IsStepBy (IsFreeLevel m) m last (last_snapshot w snapshots) (Err var)

-- an execution from the start to a snapshot at a tick
abbrev pub IsCourse : Machine → List Snapshot → ℕ → Snapshot → Type 0
IsCourse m snapshots last snapshot = IsWay m 0 (start_snapshot m) snapshots last snapshot

-- the run views of a simulator after successive calls; `name` is the quantizer's rule, if it has a
-- name
abbrev pub IsCallSequence : Option Rule → RunView → List RunView → Type 0
IsCallSequence name s [] = Unit {0}
IsCallSequence name s (next ∷ more) =
    (s.end ≡ None) × ((outcome : Outcome) × IsNext (IsAllowedLevel name) s next outcome) × (next.machine ≡ s.machine) × IsCallSequence name next more

-- the last of the run views, or s if there are none
abbrev pub last_view : RunView → List RunView → RunView
last_view s [] = s
last_view s (next ∷ more) = last_view next more

-- the run did not end by an overflow
abbrev pub HasNoOverflow : RunView → Type 0
HasNoOverflow s = (tick var : ℕ) → s.end ≢ Some (Over tick var)

-- The properties of a run up to a snapshot: bounded drift, truth values of all conditions, and
-- legitimacy without clauses.
pub record IsSound (m : Machine) (snapshots : List Snapshot) : Type 0 where
  pub near : StaysWithinDrift m (last_snapshot (start_snapshot m) snapshots)
  pub truths : HasTruths m (last_snapshot (start_snapshot m) snapshots)
  pub legitimate : m.clauses ≡ [] → m.relative ≡ 0 →
      IsLegitimate m (start_states m) (quanta m) 1 1 (states_from (start_snapshot m) snapshots) (levels_from (start_snapshot m) snapshots)

-- The steps of a simulator are free steps.
pub record EventsLeadFreely : Type 0 where
  -- to the snapshot of its next rows, and to the last tick
  pub event : (name : Option Rule) (old new : RunView) (tick : ℕ) → IsNext (IsAllowedLevel name) old new (Events tick) →
      IsReached old.machine old.tick old.snapshot new.tick new.snapshot
  pub done : (name : Option Rule) (old new : RunView) → IsNext (IsAllowedLevel name) old new Done →
      IsReached old.machine old.tick old.snapshot new.tick new.snapshot
  -- up to an overflow, including the overflowing step
  pub over : (name : Option Rule) (old new : RunView) (tick var : ℕ) → IsNext (IsAllowedLevel name) old new (Over tick var) →
      IsPassed old.machine old.tick old.snapshot tick var
  -- over any number of calls
  pub calls : (name : Option Rule) (s : RunView) (more : List RunView) → IsCallSequence name s more → HasNoOverflow (last_view s more) →
      IsReached s.machine s.tick s.snapshot (last_view s more).tick (last_view s more).snapshot
  -- from the start of a machine's run; so the theorems on free runs apply
  pub courses : (name : Option Rule) (m : Machine) (more : List RunView) → IsCallSequence name (first_view m) more →
      HasNoOverflow (last_view (first_view m) more) →
      (snapshots : List Snapshot) × IsCourse m snapshots (last_view (first_view m) more).tick (last_view (first_view m) more).snapshot × IsSound m snapshots
  -- up to the overflow that ends the run
  pub overflows : (name : Option Rule) (m : Machine) (more : List RunView) (tick var : ℕ) → IsCallSequence name (first_view m) more →
      (last_view (first_view m) more).end ≡ Some (Over tick var) → IsPassed m 0 (start_snapshot m) tick var
