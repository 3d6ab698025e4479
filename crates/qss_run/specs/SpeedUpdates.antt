-- Defines how the speeds of detectors change after few states changed their slopes.
use Rattle.std.specs.Prelude.{◌≡◌, ℕ, ◌+◌, ◌<◌, ◌≤◌, true, false, List, length, All, ℤ, Option}
use Rattle.qss_machine.specs.declared.compiled_machine.Machine.{Machine}
use Rattle.mu_num.specs.IndexedSums.{int_at}
use Rattle.qss_machine.specs.Machines.{state_count, speed_of}
use Rattle.qss_machine.specs.Handlers.{conditions}
use Rattle.qss_machine.specs.Readers.{condition_reads}
use Rattle.qss_cross.specs.Crossing.{DetectorView, value_at, holds_at}
use Rattle.qss_sched.specs.Ranks.{due_at}
use Rattle.qss_events.specs.Schedules.{condition_at, IsChange}
use Rattle.qss_run.specs.declared.run_conditions.Conditions.{Conditions}
use Rattle.qss_run.specs.declared.run_conditions.ConditionContext.{ConditionContext}
use Rattle.qss_run.specs.ConditionPlaces.{detector_at, IsDetectorAt}
use Rattle.qss_states.specs.Variables.{reads_moved}

-- the old slopes; among the states that a condition reads, only those whose rows read a moved state
-- have new slopes
pub record AreSlopesBefore (m : Machine) (moved : List ℕ) (before slopes : List ℤ) (place : ℕ) : Type 0 where
  pub as_many : length before ≡ state_count m
  pub others : (j : ℕ) → j < state_count m → condition_reads j (condition_at m place) ≡ true → reads_moved m moved j ≡ false → int_at slopes j ≡ int_at before j

-- a detector has the speed of its condition
abbrev pub HasSpeed : Machine → List ℤ → List DetectorView → ℕ → Type 0
HasSpeed m slopes detectors place = (detector_at detectors place).speed ≡ speed_of m (condition_at m place).form slopes

-- a detector gets a new speed at a tick without a change of its value; its due tick stays valid;
-- with the same speed it does not change
pub record GoesOn (tick : ℕ) (speed : ℤ) (old new : DetectorView) (old_due new_due : Option ℕ) : Type 0 where
  pub not_later : new.tick ≤ tick
  pub here : value_at new tick ≡ value_at old tick
  pub same_rel : new.rel ≡ old.rel
  pub kept : old.speed ≡ speed → (new ≡ old) × (new_due ≡ old_due)
  pub is_change : IsChange tick (holds_at old tick) old old_due → IsChange tick (holds_at old tick) new new_due

-- each detector gets its new speed at a tick, and nothing else in the event queue changes
pub record AreSpeedsUpdated (m : Machine) (tick : ℕ) (slopes : List ℤ) (old new : List DetectorView) (old_due new_due : List (Option ℕ)) : Type 0 where
  pub as_many : length new ≡ length old
  pub places : length new_due ≡ length old_due
  pub each : (place : ℕ) → place < length old →
      GoesOn tick (speed_of m (condition_at m place).form slopes) (detector_at old place) (detector_at new place) (due_at old_due (state_count m + place)) (due_at new_due (state_count m + place))
  pub others : (place : ℕ) → place < state_count m → due_at new_due place ≡ due_at old_due place
  pub beyond : (place : ℕ) → state_count m + length old ≤ place → due_at new_due place ≡ due_at old_due place

-- detectors get new speeds at a tick: those at these indices have their speeds, and only detectors
-- and their due ticks change
pub record AreDetectorsUpdated (at : ConditionContext) (places : List ℕ) (old new : Conditions) (old_due new_due : List (Option ℕ)) : Type 0 where
  pub goes_on :
      AreSpeedsUpdated at.machine.now at.tick at.slopes.now old.detectors.items new.detectors.items
      old_due new_due
  pub speeds : All (HasSpeed at.machine.now at.slopes.now new.detectors.items) places
  pub same : new ≡ record old { detectors = new.detectors }

-- each condition that was settled at the old slopes, except for the moved states, is settled at the
-- new ones
abbrev pub DetectorsStayValid : Machine → ℕ → List ℕ → List ℤ → List DetectorView → List DetectorView → List (Option ℕ) → List (Option ℕ) → Type 0
DetectorsStayValid m tick moved slopes old new old_due new_due =
    (x d before : List ℤ) (place : ℕ) → place < length (conditions m) → AreSlopesBefore m moved before slopes place →
    IsDetectorAt m tick x d before place (detector_at old place) (due_at old_due (state_count m + place)) →
    IsDetectorAt m tick x d slopes place (detector_at new place) (due_at new_due (state_count m + place))

-- detectors after an update for moved states: valid ones stay valid, and only detectors and their
-- due ticks change
pub record AreReaderDetectorsUpdated (at : ConditionContext) (moved : List ℕ) (old new : Conditions) (old_due new_due : List (Option ℕ)) : Type 0 where
  pub detectors : DetectorsStayValid at.machine.now at.tick moved at.slopes.now old.detectors.items new.detectors.items old_due new_due
  pub goes_on :
      AreSpeedsUpdated at.machine.now at.tick at.slopes.now old.detectors.items new.detectors.items
      old_due new_due
  pub same : new ≡ record old { detectors = new.detectors }
