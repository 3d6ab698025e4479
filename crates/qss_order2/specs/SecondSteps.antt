-- Second-order snapshots of a machine (QSS2) in units 64 times finer, and the step of one tick.
use Rattle.std.specs.Prelude.{◌≡◌, ℕ, ◌%◌, ◌<◌, Bool, true, not, ◌||◌, List, [], length, map, ℤ}
use Rattle.std.specs.Prelude.{pos, ◌+ℤ◌, ◌-ℤ◌, ◌*ℤ◌, ◌≤ℤ◌, unsigned_abs, int_lt, Option, Some, None}
use Rattle.std.specs.Prelude.{Result, Ok, Err, MatchBool, ◌==◌, if◌then◌else◌}
use Rattle.std.specs.List.{list_any, range_with_len}
use Rattle.std.specs.Option.{option_or}
use Rattle.mu_num.specs.Rounding.{floor_of, nearest_of}
use Rattle.qss_machine.specs.declared.compiled_machine.Machine.{Machine}
use Rattle.mu_num.specs.IndexedSums.{int_at, tabulate, sum_below, abs_of, first_exceeding}
use Rattle.mu_num.specs.Limits.{look_span, bits_of_second_level, bits_of_second_state}
use Rattle.qss_machine.specs.Machines.{state_count, level_unit, quanta, start_states}
use Rattle.qss_machine.specs.Legitimate.{start_coefficient, start_constant_part, scaled_slope}

-- the number of these units in one unit of the machine
abbrev pub second_scale : ℕ
second_scale = 64

-- states, levels, and the slope of each level per tick
pub record SecondSnapshot : Type 0 where
  pub states : List ℤ
  pub levels : List ℤ
  pub changes : List ℤ

-- the slope of a state per tick at these levels
abbrev pub rise_at : Machine → ℕ → List ℤ → ℤ
rise_at m j levels = scaled_slope m second_scale j levels

-- the absolute row sum: the same sum of absolute values
abbrev pub rise_weight : Machine → List ℤ → ℕ → ℤ
rise_weight m levels j = sum_below (state_count m)
    (λ i. abs_of (start_coefficient m j i *ℤ int_at levels i)) +ℤ pos second_scale *ℤ abs_of
    (start_constant_part m j)

-- the absolute row sum of the level slopes
abbrev pub rise_change_weight : Machine → List ℤ → ℕ → ℤ
rise_change_weight m changes j = sum_below (state_count m)
    (λ i. abs_of (start_coefficient m j i *ℤ int_at changes i))

-- the quantum of a state: the distance from its level at which it is requantized
abbrev pub reach_of : Machine → ℕ → ℤ
reach_of m j = pos second_scale *ℤ level_unit m *ℤ int_at (quanta m) j

-- a state, and its level, after one tick
abbrev pub moved_state : Machine → SecondSnapshot → ℕ → ℤ
moved_state m w j = int_at w.states j +ℤ rise_at m j w.levels

abbrev pub moved_level : SecondSnapshot → ℕ → ℤ
moved_level w j = int_at w.levels j +ℤ int_at w.changes j

-- whether a state is then at least a quantum from its level, and so is requantized
abbrev pub leaves_quantum : Machine → SecondSnapshot → ℕ → Bool
leaves_quantum m w j = not (int_lt (pos (unsigned_abs (moved_state m w j -ℤ level_unit m *ℤ
    moved_level w j))) (reach_of m j))

-- the states and the levels after one tick; the level of a requantized state is the floor of the
-- state
abbrev pub next_states : Machine → SecondSnapshot → List ℤ
next_states m w = tabulate (state_count m) (moved_state m w)

abbrev pub next_levels : Machine → SecondSnapshot → List ℤ
next_levels m w = tabulate (state_count m) (λ j. if leaves_quantum m w j then floor_of
    (moved_state m w j) (level_unit m) else moved_level w j)

-- new level slopes: the rule allows those of the states in `asked` for their slopes at the levels;
-- the others stay
pub record AreChanges (Rule : ℤ → ℤ → ℤ → Type 0) (m : Machine) (asked : ℕ →
    Bool) (levels old new : List ℤ) : Type 0 where
  pub one_each : length new ≡ state_count m
  pub each : (j : ℕ) → j < state_count m → MatchBool (asked j) (Rule (level_unit m)
      (rise_at m j levels) (int_at new j)) (int_at new j ≡ int_at old j)

-- the least state that exceeds a limit: 2^49 for its level, else 2^94 for its absolute row sum,
-- else 2^94 for that of the level slopes
abbrev pub first_exceeding_limit : Machine → List ℤ → List ℤ → Option ℕ
first_exceeding_limit m levels changes =
    option_or (first_exceeding bits_of_second_level levels)
    (option_or (first_exceeding bits_of_second_state (tabulate (state_count m) (rise_weight m levels)))
    (first_exceeding bits_of_second_state (tabulate (state_count m) (rise_change_weight m changes))))

-- the limits are checked at tick 0, at each multiple of this number, at the last tick, and if a
-- state is requantized
abbrev pub limit_check_period : ℕ
limit_check_period = look_span

abbrev pub is_limit_check : Machine → ℕ → Bool → Bool
is_limit_check m tick requantized = tick % limit_check_period == 0 || tick == m.last || requantized

-- whether a state is requantized at the tick after a snapshot
abbrev pub is_requantization : Machine → SecondSnapshot → Bool
is_requantization m w = list_any (leaves_quantum m w) (range_with_len 0 (state_count m))

-- the snapshot, or the state that exceeds a limit
abbrev pub second_snapshot_unless : Option ℕ → SecondSnapshot → Result SecondSnapshot ℕ
second_snapshot_unless None w = Ok w
second_snapshot_unless (Some var) w = Err var

-- the snapshot, or if the limits are checked the state that exceeds one
abbrev pub checked_limits : Machine → Bool → SecondSnapshot → Result SecondSnapshot ℕ
checked_limits m looks w = second_snapshot_unless (if looks then first_exceeding_limit m w.levels
    w.changes else None) w

-- the snapshot after a tick that ends with these level slopes
abbrev pub next_snapshot : Machine → SecondSnapshot → List ℤ → SecondSnapshot
next_snapshot m w changes = record {
  states = next_states m w;
  levels = next_levels m w;
  changes =
      changes;
}

-- the result of a tick that ends with these level slopes
abbrev pub finish_second_tick : Machine → ℕ → SecondSnapshot → List ℤ → Result SecondSnapshot ℕ
finish_second_tick m tick w changes = checked_limits m (is_limit_check m tick
    (is_requantization m w)) (next_snapshot m w changes)

-- under a rule, the tick after this snapshot may have this result
abbrev pub IsSecondStep : (ℤ → ℤ → ℤ → Type 0) → Machine → ℕ → SecondSnapshot →
    Result SecondSnapshot ℕ → Type 0
IsSecondStep Rule m tick w result =
    (changes : List ℤ) × AreChanges Rule m (leaves_quantum m w) (next_levels m w) w.changes changes
    × (result ≡ finish_second_tick m tick w changes)

-- the states and the levels at tick 0
abbrev pub fine_states : Machine → List ℤ
fine_states m = map (λ x. pos second_scale *ℤ x) (start_states m)

abbrev pub fine_levels : Machine → List ℤ
fine_levels m = map (λ x. floor_of x (level_unit m)) (fine_states m)

-- a snapshot that may be at tick 0 under the rule
pub record IsStart2 (Rule : ℤ → ℤ → ℤ → Type 0) (m : Machine) (w : SecondSnapshot) : Type 0 where
  pub states : w.states ≡ fine_states m
  pub levels : w.levels ≡ fine_levels m
  pub changes : AreChanges Rule m (λ j. true) w.levels [] w.changes

-- the free rule: a level slope that differs from the state's slope by at most one level per tick
abbrev pub FreeChange : ℤ → ℤ → ℤ → Type 0
FreeChange unit rise change = pos (unsigned_abs (rise -ℤ unit *ℤ change)) ≤ℤ unit

-- the nearest rule, ties to even
abbrev pub nearest_change : ℤ → ℤ → ℤ
nearest_change unit rise = nearest_of rise unit

-- the rule given by a function
abbrev pub SlopeRuleOf : (ℤ → ℤ → ℤ) → ℤ → ℤ → ℤ → Type 0
SlopeRuleOf change unit rise new = new ≡ change unit rise

-- under a rule that is a function: the snapshot at tick 0, the next level slopes, and the result of
-- a tick
abbrev pub second_start : (ℤ → ℤ → ℤ) → Machine → SecondSnapshot
second_start change m =
    let levels = fine_levels m in
    record {
      states = fine_states m;
      levels = levels;
      changes =
          tabulate (state_count m) (λ j. change (level_unit m) (rise_at m j levels));
    }

abbrev pub next_changes : (ℤ → ℤ → ℤ) → Machine → SecondSnapshot → List ℤ → List ℤ
next_changes change m w levels =
    tabulate (state_count m) (λ j. if leaves_quantum m w j then change (level_unit m)
    (rise_at m j levels) else int_at w.changes j)

abbrev pub second_step : (ℤ → ℤ → ℤ) → Machine → ℕ → SecondSnapshot → Result SecondSnapshot ℕ
second_step change m tick w = finish_second_tick m tick w (next_changes change m w
    (next_levels m w))
