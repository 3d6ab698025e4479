-- Snapshots of a run and the step from one tick to the next.
use Rattle.std.specs.Prelude.{◌≡◌, ℕ, ◌<◌, Bool, true, not, ◌||◌, ◌⊎◌, List, [], length, map, ℤ, pos, ◌+ℤ◌, ◌-ℤ◌, ◌*ℤ◌, ◌≤ℤ◌, ◌^◌, unsigned_abs, int_lt, Option, Some, None, Result, Ok, Err, MatchBool, position, if◌then◌else◌}
use Rattle.std.specs.Option.{option_or}
use Rattle.mu_num.specs.Levels.{IsWithinOneLevel, level_below}
use Rattle.qss_machine.specs.declared.machine_parts.SlopeRow.{SlopeRow}
use Rattle.qss_machine.specs.declared.compiled_machine.Machine.{Machine}
use Rattle.mu_num.specs.Sizes.{exceeds, IsWithin}
use Rattle.mu_num.specs.IndexedSums.{int_at, tabulate, first_exceeding}
use Rattle.mu_num.specs.Limits.{bits_of_level, bits_of_state, bits_of_weight, IsLevel}
use Rattle.qss_machine.specs.Slopes.{mode_fits, weight_of}
use Rattle.qss_machine.specs.Machines.{state_count, level_unit, start_states, start_discretes, slope_at, quantum_of}
use Rattle.qss_machine.specs.Handlers.{truths, firing_flags, HandlerState, run_clauses}

-- the states, levels and discrete values at a tick, and the truth values of the conditions on
-- arrival and after the handlers
pub record Snapshot : Type 0 where
  pub states : List ℤ
  pub levels : List ℤ
  pub discretes : List ℤ
  pub at_arrival : List Bool
  pub after_handlers : List Bool

-- the snapshot at tick 0, where each level is the greatest one not above its state
abbrev pub start_snapshot : Machine → Snapshot
start_snapshot m =
    let now = truths m (start_states m) (start_discretes m) 0 in
    record {
      states = start_states m;
      levels = map (level_below (level_unit m)) (start_states m);
      discretes = start_discretes m;
      at_arrival = now;
      after_handlers = now;
    }

-- each state after one tick of constant slope
abbrev pub moved_states : Machine → Snapshot → List ℤ
moved_states m w = tabulate (state_count m) (λ j. int_at w.states j +ℤ slope_at m j w.levels w.discretes)

-- the result of a tick's handlers; no branch fires if a state overflowed on arrival
abbrev pub handlers_at : Machine → ℕ → Snapshot → HandlerState
handlers_at m tick w =
    run_clauses m tick w.discretes 0
    (record { states = moved_states m w; discretes = w.discretes; rows = []; overflow = first_exceeding bits_of_state (moved_states m w) })
    m.clauses
    (firing_flags (truths m (moved_states m w) w.discretes tick) w.at_arrival w.after_handlers)

-- whether a state differs from its level by less than the quantum at that level
abbrev pub is_within_quantum : Machine → ℕ → ℤ → ℤ → Bool
is_within_quantum m j state level = int_lt (pos (unsigned_abs (state -ℤ level_unit m *ℤ level))) (level_unit m *ℤ quantum_of m j level)

-- A level is kept while its state is within the quantum (hysteresis, Kofman and Junco 2001).
-- Otherwise the rule must allow the new level.
abbrev pub IsNextLevel : (ℤ → ℤ → ℤ → ℤ → Type 0) → Machine → ℕ → ℤ → ℤ → ℤ → Type 0
IsNextLevel Rule m j state old new = MatchBool (is_within_quantum m j state old) (new ≡ old) (Rule (level_unit m) state old new)

-- a new level for each state, allowed for the state's number, the state and the old level
pub record AreLevelsBy (Allows : ℕ → ℤ → ℤ → ℤ → Type 0) (m : Machine) (states old new : List ℤ) : Type 0 where
  pub one_each : length new ≡ state_count m
  pub each : (j : ℕ) → j < state_count m → Allows j (int_at states j) (int_at old j) (int_at new j)

-- the new levels under a rule
abbrev pub AreNextLevels : (ℤ → ℤ → ℤ → ℤ → Type 0) → Machine → List ℤ → List ℤ → List ℤ → Type 0
AreNextLevels Rule m states old new = AreLevelsBy (IsNextLevel Rule m) m states old new

-- whether a row's mode coefficients or its absolute row sum exceed their limits
abbrev pub exceeds_row_limits : Machine → List ℤ → List ℤ → SlopeRow → Bool
exceeds_row_limits m levels discretes row =
    not (mode_fits m.f (state_count m) row discretes) || exceeds bits_of_weight (weight_of m.f row levels discretes)

-- the snapshot, or the variable that overflowed
abbrev pub snapshot_unless : Option ℕ → Snapshot → Result Snapshot ℕ
snapshot_unless None w = Ok w
snapshot_unless (Some var) w = Err var

-- the result of a tick whose handlers ended in h, with these new levels
abbrev pub finish_tick : Machine → ℕ → Snapshot → HandlerState → List ℤ → Result Snapshot ℕ
finish_tick m tick w h levels =
    snapshot_unless
    (option_or h.overflow (option_or (first_exceeding bits_of_level levels) (position (exceeds_row_limits m levels h.discretes) m.rows)))
    (record {
      states = h.states;
      levels = levels;
      discretes = h.discretes;
      at_arrival = truths m (moved_states m w) w.discretes tick;
      after_handlers = truths m h.states h.discretes tick;
    })

-- a possible result of the tick from this snapshot, with new levels that are allowed
abbrev pub IsStepBy : (ℕ → ℤ → ℤ → ℤ → Type 0) → Machine → ℕ → Snapshot → Result Snapshot ℕ → Type 0
IsStepBy Allows m tick w result =
    (levels : List ℤ)
    × ((handlers_at m tick w).overflow ≡ None → AreLevelsBy Allows m (handlers_at m tick w).states w.levels levels)
    × (result ≡ finish_tick m tick w (handlers_at m tick w) levels)

-- a possible result of the tick from this snapshot under the rule
abbrev pub IsStep : (ℤ → ℤ → ℤ → ℤ → Type 0) → Machine → ℕ → Snapshot → Result Snapshot ℕ → Type 0
IsStep Rule m tick w result = IsStepBy (IsNextLevel Rule m) m tick w result

-- A level that a free step may take: the old level while the state is within the quantum, or any
-- level less than one level unit from the state.
abbrev pub IsFreeLevel : Machine → ℕ → ℤ → ℤ → ℤ → Type 0
IsFreeLevel m j state old new = ((is_within_quantum m j state old ≡ true) × (new ≡ old)) ⊎ IsWithinOneLevel (level_unit m) state old new

-- a function whose level is less than one level unit from the state, for all arguments within the
-- limits of a run
abbrev pub IsQuantizing : (ℤ → ℤ → ℤ → ℤ) → Type 0
IsQuantizing level =
    (unit state old : ℤ) → pos 1 ≤ℤ unit → unit ≤ℤ pos (2 ^ 44) → IsWithin 89 state → IsLevel old → IsWithinOneLevel unit state old (level unit state old)

-- the rule that allows only the level that a function returns
abbrev pub RuleOf : (ℤ → ℤ → ℤ → ℤ) → ℤ → ℤ → ℤ → ℤ → Type 0
RuleOf level unit state old new = new ≡ level unit state old

-- the levels after a tick under a rule that is a function
abbrev pub next_levels : (ℤ → ℤ → ℤ → ℤ) → Machine → List ℤ → List ℤ → List ℤ
next_levels level m states old =
    tabulate (state_count m) (λ j. if is_within_quantum m j (int_at states j) (int_at old j) then int_at old j else level (level_unit m) (int_at states j) (int_at old j))

-- the result of a tick under a rule that is a function
abbrev pub step : (ℤ → ℤ → ℤ → ℤ) → Machine → ℕ → Snapshot → Result Snapshot ℕ
step level m tick w = let h = handlers_at m tick w in finish_tick m tick w h (next_levels level m h.states w.levels)
