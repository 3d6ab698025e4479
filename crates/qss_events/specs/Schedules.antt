-- Defines the invariant of simulators: lines, detectors and due ticks for a snapshot.
use Rattle.std.specs.Prelude.{◌≡◌, ◌≢◌, ℕ, ◌+◌, ◌-◌, ◌<◌, ◌≤◌, Bool, not, ◌&&◌, List, [], length, ℤ, pos, Option, Some, None, slice_index_or, if◌then◌else◌}
use Rattle.std.specs.List.{list_any}
use Rattle.mu_num.specs.Ticks.{FirstAfter}
use Rattle.qss_machine.specs.declared.machine_parts.Condition.{Condition}
use Rattle.qss_machine.specs.declared.machine_parts.Rel.TheVariants.{Less}
use Rattle.qss_machine.specs.declared.machine_parts.SlopeRow.{SlopeRow}
use Rattle.qss_machine.specs.declared.compiled_machine.Machine.{Machine}
use Rattle.mu_num.specs.IndexedSums.{int_at, tabulate}
use Rattle.qss_machine.specs.Machines.{state_count, level_unit, slope_at, weight_at, quantum_of, value_of, speed_of}
use Rattle.qss_machine.specs.Handlers.{conditions, truths, firing_flags}
use Rattle.mu_num.specs.ListedPlaces.{flag_at}
use Rattle.mu_num.specs.Limits.{tick_limit, IsState}
use Rattle.qss_machine.specs.Ticks.{Snapshot}
use Rattle.qss_quant.specs.IntegratorLines.{Line, state_at, IsAway}
use Rattle.qss_cross.specs.Crossing.{DetectorView, value_at, holds_at}
use Rattle.qss_events.specs.EventFreeTicks.{MayFollowTick, NoneRises, IsEventFree, states_after, snapshot_after, rows_from}

-- default values of a row, a line and a detector
abbrev pub no_row : SlopeRow
no_row = record { entries = []; products = []; beta = pos 0 }

abbrev pub no_line : Line
no_line = record { tick = 0; x = pos 0; slope = pos 0; level = pos 0 }

abbrev pub no_detector : DetectorView
no_detector = record { rel = Less; tick = 0; value = pos 0; speed = pos 0 }

-- the slopes at the levels and discrete values of a snapshot
abbrev pub slopes_of : Machine → Snapshot → List ℤ
slopes_of m w = tabulate (state_count m) (λ j. slope_at m j w.levels w.discretes)

-- the absolute row sums of all rows at levels and discrete values
abbrev pub weights_at : Machine → List ℤ → List ℤ → List ℤ
weights_at m levels discretes = tabulate (state_count m) (λ j. weight_at m j levels discretes)

-- the condition at an index in source order
abbrev pub condition_at : Machine → ℕ → Condition
condition_at m place = slice_index_or (conditions m) place (record { form = record { entries = []; time = pos 0; gamma = pos 0 }; rel = Less })

-- the line of a state starts at or before the tick, passes through its state at the tick, and has
-- its slope and level
pub record IsLineOf (m : Machine) (tick : ℕ) (w : Snapshot) (j : ℕ) (line : Line) : Type 0 where
  pub not_later : line.tick ≤ tick
  pub here : state_at line tick ≡ int_at w.states j
  pub own_slope : line.slope ≡ slope_at m j w.levels w.discretes
  pub own_level : line.level ≡ int_at w.levels j

-- at a tick a state is at least one quantum away from its level
abbrev pub LeavesAt : Machine → ℕ → Line → ℕ → Type 0
LeavesAt m j line tick = IsAway (level_unit m) (state_at line tick) line.level (quantum_of m j line.level)

-- the first later tick, up to 2^32, at which the state of a line has left the quantum of its level,
-- if any
abbrev pub IsDue : Machine → ℕ → ℕ → Line → Option ℕ → Type 0
IsDue m tick j line found = FirstAfter (λ t. LeavesAt m j line t) tick found

-- the detector of a condition starts at or before the tick, and has the value of its form at the
-- tick and its speed
pub record IsDetectorOf (m : Machine) (tick : ℕ) (w : Snapshot) (place : ℕ) (detector : DetectorView) : Type 0 where
  pub not_later : detector.tick ≤ tick
  pub here : value_at detector tick ≡ value_of m (condition_at m place).form w.states w.discretes w.discretes tick
  pub own_speed : detector.speed ≡ speed_of m (condition_at m place).form (slopes_of m w)
  pub own_rel : detector.rel ≡ (condition_at m place).rel

-- the first later tick at which the truth of a detector differs from the settled truth, if any
abbrev pub IsChange : ℕ → Bool → DetectorView → Option ℕ → Type 0
IsChange tick after_handlers detector found = FirstAfter (λ t. holds_at detector t ≢ after_handlers) tick found

-- whether the condition at an index became true during the handlers
abbrev pub became_true : List Bool → List Bool → ℕ → Bool
became_true at_arrival after_handlers place = flag_at after_handlers place && not (flag_at at_arrival place)

-- whether some condition became true during the handlers
abbrev pub rises : Snapshot → Bool
rises w = list_any (λ flag. flag) (firing_flags w.after_handlers w.at_arrival w.after_handlers)

-- the next tick, if a condition became true during the handlers: its branch is due then, if it is
-- still true
abbrev pub rising_tick : ℕ → Snapshot → Option ℕ
rising_tick tick w = if rises w then Some (tick + 1) else None

-- lines, detectors and due ticks for a snapshot at a tick; the due ticks are those of states, then
-- of conditions, then one for conditions that became true during the handlers
pub record IsScheduleOf (m : Machine) (tick : ℕ) (w : Snapshot) (line : ℕ → Line) (detector : ℕ → DetectorView) (due : ℕ → Option ℕ) : Type 0 where
  pub left : MayFollowTick m w
  pub states : length w.states ≡ state_count m
  pub after_handlers : w.after_handlers ≡ truths m w.states w.discretes tick
  pub lines : (j : ℕ) → j < state_count m → IsLineOf m tick w j (line j)
  pub dues : (j : ℕ) → j < state_count m → IsDue m tick j (line j) (due j)
  pub detectors : (place : ℕ) → place < length (conditions m) → IsDetectorOf m tick w place (detector place)
  pub changes : (place : ℕ) → place < length (conditions m) → IsChange tick (flag_at w.after_handlers place) (detector place) (due (state_count m + place))
  pub rising : due (state_count m + length (conditions m)) ≡ rising_tick tick w

-- nothing is due up to a tick
abbrev pub HasNoEventUpTo : ℕ → (ℕ → Option ℕ) → Type 0
HasNoEventUpTo end due = (place tick : ℕ) → due place ≡ Some tick → end < tick

-- no event occurs before the earliest due tick
abbrev pub NoEventBeforeDue : Type 0
NoEventBeforeDue =
    (m : Machine) (tick : ℕ) (w : Snapshot) (line : ℕ → Line) (detector : ℕ → DetectorView) (due : ℕ → Option ℕ) (end : ℕ) →
    IsScheduleOf m tick w line detector due → tick < end → end ≤ tick_limit → HasNoEventUpTo end due →
    NoneRises w × ((ticks : ℕ) → 0 < ticks → tick + ticks ≤ end → IsEventFree m tick w ticks)

-- up to the earliest due tick, the same lines, detectors and due ticks are valid for the advanced
-- snapshot
abbrev pub SchedulesHold : Type 0
SchedulesHold =
    (m : Machine) (tick : ℕ) (w : Snapshot) (line : ℕ → Line) (detector : ℕ → DetectorView) (due : ℕ → Option ℕ) (end ticks : ℕ) →
    IsScheduleOf m tick w line detector due → tick < end → end ≤ tick_limit → HasNoEventUpTo end due → tick + ticks ≤ end →
    IsScheduleOf m (tick + ticks) (snapshot_after m w ticks) line detector due

-- nothing is due before a tick
abbrev pub HasNoEventBefore : ℕ → (ℕ → Option ℕ) → Type 0
HasNoEventBefore visit due = (place tick : ℕ) → due place ≡ Some tick → visit ≤ tick

-- a simulator may advance to the tick before its next event step: the remaining rows are the same,
-- and its lines, detectors and due ticks stay valid
abbrev pub GoesToNextVisit : Type 0
GoesToNextVisit =
    (level : ℤ → ℤ → ℤ → ℤ) (m : Machine) (tick : ℕ) (w : Snapshot) (line : ℕ → Line) (detector : ℕ → DetectorView) (due : ℕ → Option ℕ) (ticks : ℕ) →
    IsScheduleOf m tick w line detector due → tick + ticks < m.last → HasNoEventBefore (tick + ticks + 1) due →
    (rows_from level m (m.last - tick) tick w ≡ rows_from level m (m.last - (tick + ticks)) (tick + ticks) (snapshot_after m w ticks))
    × IsScheduleOf m (tick + ticks) (snapshot_after m w ticks) line detector due

-- a state that is not due at the next event step exceeds no limit up to that step
abbrev pub OnlyDueStatesPass : Type 0
OnlyDueStatesPass =
    (m : Machine) (tick : ℕ) (w : Snapshot) (line : ℕ → Line) (detector : ℕ → DetectorView) (due : ℕ → Option ℕ) (visit ticks j : ℕ) →
    IsScheduleOf m tick w line detector due → 0 < ticks → tick + ticks ≤ visit → visit ≤ m.last → HasNoEventBefore visit due → j < state_count m →
    due j ≢ Some visit → IsState (int_at (states_after m w ticks) j)
