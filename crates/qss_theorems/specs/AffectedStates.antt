-- A bound on the number of affected states: the number of states times the number of event steps.
use Rattle.std.specs.Prelude.{ℕ, ◌*◌, ◌≤◌, List, [], ◌∷◌, ◌++◌, Option, Some, None, Ok, Err}
use Rattle.qss_machine.specs.declared.compiled_machine.Machine.{Machine}
use Rattle.qss_machine.specs.EventCounts.{touches, touches_after, visits, visits_after}
use Rattle.qss_machine.specs.Machines.{state_count}
use Rattle.qss_machine.specs.Runs.{IsFreeExecution, IsRun, Run}
use Rattle.qss_machine.specs.Ticks.{Snapshot}
use Rattle.qss_events.specs.AllowedLevels.{IsAllowedLevel}
use Rattle.qss_events.specs.EventFreeRuns.{AreEventFree, IsVisit}
use Rattle.qss_events.specs.RunTexts.{run_by_rule}
use Rattle.qss_quant.specs.declared.quantizer.Rule.{Rule}

-- After a snapshot, the number of affected states, summed over the ticks, is at most the number of
-- states times the number of event steps.
abbrev pub HasAffectedBound : Machine → ℕ → Snapshot → List Snapshot → Option ℕ → Type 0
HasAffectedBound m tick w snapshots overflow =
    touches_after m tick w snapshots overflow
    ≤ state_count m * visits_after m tick w snapshots overflow

-- In a run, the number of affected states is at most the number of states times the number of event
-- steps.
abbrev pub HasAffectedBoundIn : Machine → Run → Type 0
HasAffectedBoundIn m run = touches m run ≤ state_count m * visits m run

-- The bound for all ticks of a run, and for the ticks by which a call advances the run.
pub record AffectedStatesAreBounded : Type 0 where
  -- the ticks of a free execution
  pub free : (m : Machine) (tick : ℕ) (w : Snapshot) (snapshots : List Snapshot)
      (overflow : Option ℕ) → IsFreeExecution m tick w snapshots
      → HasAffectedBound m tick w snapshots overflow
  -- the ticks by which a call of a simulator advances the run, by the outcome of the call: an event
  pub event : (name : Option Rule) (m : Machine) (tick : ℕ) (w : Snapshot) (silent : List Snapshot)
      (next : ℕ) (snapshot : Snapshot)
      → IsVisit (IsAllowedLevel name) m tick w silent next (Ok snapshot)
      → HasAffectedBound m tick w (silent ++ snapshot ∷ []) None
  -- the last tick
  pub done : (name : Option Rule) (m : Machine) (tick : ℕ) (w : Snapshot) (silent : List Snapshot)
      (last : ℕ) (snapshot : Snapshot)
      → AreEventFree (IsAllowedLevel name) m tick w silent last snapshot
      → HasAffectedBound m tick w silent None
  -- an overflow
  pub over : (name : Option Rule) (m : Machine) (tick : ℕ) (w : Snapshot) (silent : List Snapshot)
      (next var : ℕ) → IsVisit (IsAllowedLevel name) m tick w silent next (Err var)
      → HasAffectedBound m tick w silent (Some var)
  -- a whole run under the rule of a quantizer
  pub runs : (name : Option Rule) (m : Machine) (run : Run) → IsRun (IsAllowedLevel name) m run
      → HasAffectedBoundIn m run
  -- the printed run
  pub printed : (rule : Rule) (m : Machine) → HasAffectedBoundIn m (run_by_rule rule m)
