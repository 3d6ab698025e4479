-- Defines event-free ticks, and states that a simulator may skip them.
use Rattle.std.specs.Prelude.{◌≡◌, ℕ, zero, suc, ◌+◌, ◌<◌, ◌≤◌, true, false, List, [], ◌∷◌, ◌++◌, length, ℤ, pos, ◌+ℤ◌, ◌*ℤ◌, None, Result, Ok, Err, position, ◌↔◌}
use Rattle.std.specs.List.{list_any}
use Rattle.qss_machine.specs.declared.machine_parts.Row.{Row}
use Rattle.qss_machine.specs.declared.machine_parts.RowKind.TheVariants as kind
use Rattle.qss_machine.specs.declared.compiled_machine.Machine.{Machine}
use Rattle.mu_num.specs.IndexedSums.{int_at, tabulate}
use Rattle.qss_machine.specs.Machines.{state_count, slope_at}
use Rattle.qss_machine.specs.Handlers.{truths, firing_flags}
use Rattle.mu_num.specs.Levels.{IsWithinOneLevel}
use Rattle.mu_num.specs.Limits.{IsLevel}
use Rattle.qss_machine.specs.Ticks.{Snapshot, is_within_quantum, exceeds_row_limits, IsStep, step}
use Rattle.qss_machine.specs.Runs.{run_from, rows_after, tick_rows, snapshot_rows}

-- the states after this number of ticks at the slopes of the snapshot
abbrev pub states_after : Machine → Snapshot → ℕ → List ℤ
states_after m w ticks = tabulate (state_count m) (λ j. int_at w.states j +ℤ pos ticks *ℤ slope_at m j w.levels w.discretes)

-- the snapshot after this number of event-free ticks
abbrev pub snapshot_after : Machine → Snapshot → ℕ → Snapshot
snapshot_after m w zero = w
snapshot_after m w (suc ticks) =
    record { states = states_after m w (suc ticks); levels = w.levels; discretes = w.discretes; at_arrival = w.after_handlers; after_handlers = w.after_handlers }

-- no condition became true during the handlers; the branch of such a condition is due at the next
-- tick
abbrev pub NoneRises : Snapshot → Type 0
NoneRises w = list_any (λ flag. flag) (firing_flags w.after_handlers w.at_arrival w.after_handlers) ≡ false

-- after this number of ticks each state is within its quantum, and each condition has its last
-- settled truth
pub record IsEventFree (m : Machine) (tick : ℕ) (w : Snapshot) (ticks : ℕ) : Type 0 where
  pub near : (j : ℕ) → j < state_count m → is_within_quantum m j (int_at (states_after m w ticks) j) (int_at w.levels j) ≡ true
  pub same : truths m (states_after m w ticks) w.discretes (tick + ticks) ≡ w.after_handlers

-- a snapshot that a tick may leave: a level for each state, within its limit, and all rows within
-- their limits
pub record MayFollowTick (m : Machine) (w : Snapshot) : Type 0 where
  pub one_each : length w.levels ≡ state_count m
  pub small_levels : (j : ℕ) → j < state_count m → IsLevel (int_at w.levels j)
  pub light : position (exceeds_row_limits m w.levels w.discretes) m.rows ≡ None

-- the rows of at most `count` ticks after a snapshot, under a rule that is a function
abbrev pub rows_from : (ℤ → ℤ → ℤ → ℤ) → Machine → ℕ → ℕ → Snapshot → List Row
rows_from level m count tick w = let run = run_from level m count tick w in rows_after m tick w run.snapshots run.overflow

-- the remaining rows at the end of event-free ticks are those at their beginning
abbrev pub SkippingIsSound : Type 0
SkippingIsSound =
    (level : ℤ → ℤ → ℤ → ℤ) (m : Machine) (tick : ℕ) (w : Snapshot) (quiet rest : ℕ) →
    MayFollowTick m w → NoneRises w → ((ticks : ℕ) → 0 < ticks → ticks ≤ quiet → IsEventFree m tick w ticks) →
    rows_from level m (quiet + rest) tick w ≡ rows_from level m rest (tick + quiet) (snapshot_after m w quiet)

-- even under the free rule, an event-free tick has exactly one result
abbrev pub EventFreeTickIsUnique : Type 0
EventFreeTickIsUnique =
    (m : Machine) (tick : ℕ) (w : Snapshot) (result : Result Snapshot ℕ) →
    MayFollowTick m w → NoneRises w → IsEventFree m tick w 1 → IsStep IsWithinOneLevel m (tick + 1) w result ↔ (result ≡ Ok (snapshot_after m w 1))

-- the rows that one tick adds to the rows of a run, and the rows at the end
pub record RowsOfVisits : Type 0 where
  pub goes_on : (level : ℤ → ℤ → ℤ → ℤ) (m : Machine) (count tick : ℕ) (w next : Snapshot) → step level m (tick + 1) w ≡ Ok next →
      rows_from level m (count + 1) tick w ≡ tick_rows m (tick + 1) w next ++ rows_from level m count (tick + 1) next
  pub overflows : (level : ℤ → ℤ → ℤ → ℤ) (m : Machine) (count tick : ℕ) (w : Snapshot) (var : ℕ) → step level m (tick + 1) w ≡ Err var →
      rows_from level m (count + 1) tick w ≡ record { tick = tick + 1; kind = kind.Overflow; var = var; level = pos 0; state = pos 0 } ∷ []
  pub ends : (level : ℤ → ℤ → ℤ → ℤ) (m : Machine) (tick : ℕ) (w : Snapshot) → rows_from level m 0 tick w ≡ snapshot_rows kind.End tick w
