-- Defines how some conditions are settled at a tick and the others do not change.
use Rattle.std.specs.Prelude.{◌≡◌, ℕ, ◌+◌, ◌<◌, ◌≤◌, Bool, true, false, ◌||◌, List, ◌++◌, length}
use Rattle.std.specs.Prelude.{ℤ, Option, flat_map}
use Rattle.std.specs.List.{list_any}
use Rattle.qss_machine.specs.declared.machine_parts.Condition.{Condition}
use Rattle.qss_machine.specs.declared.compiled_machine.Machine.{Machine}
use Rattle.qss_machine.specs.Machines.{state_count, discrete_count, speed_of, truth}
use Rattle.qss_machine.specs.Handlers.{conditions}
use Rattle.mu_num.specs.IndexedSums.{int_at}
use Rattle.mu_num.specs.ListedPlaces.{flag_at, is_listed}
use Rattle.mu_num.specs.Limits.{AreStates}
use Rattle.qss_machine.specs.Readers.{condition_reads, reading_rows, reading_conditions}
use Rattle.qss_hand.specs.Values.{Values}
use Rattle.qss_cross.specs.Crossing.{DetectorView}
use Rattle.qss_sched.specs.Ranks.{due_at}
use Rattle.qss_run.specs.declared.run_conditions.Conditions.{Conditions}
use Rattle.qss_run.specs.declared.run_conditions.ConditionContext.{ConditionContext}
use Rattle.qss_run.specs.ConditionPlaces.{detector_at, IsDetectorAt}
use Rattle.qss_run.specs.HandlerReads.{AreArrived}
use Rattle.qss_events.specs.Schedules.{condition_at}
use Rattle.qss_states.specs.StateLines.{states_at}

-- detectors of conditions, their settled truths, and due ticks
pub record DetectorStates : Type 0 where
  pub detectors : List DetectorView
  pub after_handlers : List Bool
  pub dues : List (Option ℕ)

-- the detectors, settled truths and due ticks of the conditions of a machine
abbrev pub detector_states_of : Conditions → List (Option ℕ) → DetectorStates
detector_states_of all dues = record { detectors = all.detectors.items; after_handlers = all.after_handlers.items; dues = dues }

-- the detector, the truth and the due tick of a condition do not change
pub record IsKept (m : Machine) (place : ℕ) (old new : DetectorStates) : Type 0 where
  pub detector : detector_at new.detectors place ≡ detector_at old.detectors place
  pub truth : flag_at new.after_handlers place ≡ flag_at old.after_handlers place
  pub due : due_at new.dues (state_count m + place) ≡ due_at old.dues (state_count m + place)

-- a condition is settled: its detector and its truth are those at these values and slopes
pub record IsSettled (m : Machine) (tick : ℕ) (x d slopes : List ℤ) (place : ℕ) (now : DetectorStates) : Type 0 where
  pub watched : IsDetectorAt m tick x d slopes place (detector_at now.detectors place) (due_at now.dues (state_count m + place))
  pub own_truth : flag_at now.after_handlers place ≡ truth m (condition_at m place) x d tick

-- these conditions are settled at a tick, and nothing else changes
pub record AreSettled (m : Machine) (tick : ℕ) (x d slopes : List ℤ) (places : List ℕ) (old new : DetectorStates) : Type 0 where
  pub own : (place : ℕ) → is_listed places place ≡ true → IsSettled m tick x d slopes place new
  pub kept : (place : ℕ) → is_listed places place ≡ false → IsKept m place old new
  pub many_watches : length new.detectors ≡ length old.detectors
  pub many_truths : length new.after_handlers ≡ length old.after_handlers
  pub many_dues : length new.dues ≡ length old.dues
  pub states : (place : ℕ) → place < state_count m → due_at new.dues place ≡ due_at old.dues place
  pub beyond : (place : ℕ) → state_count m + length old.detectors ≤ place → due_at new.dues place ≡ due_at old.dues place

-- only detectors, settled truths and the set `flipped` change
abbrev pub AreAlikeButSettled : Conditions → Conditions → Type 0
AreAlikeButSettled old new = new ≡ record old { detectors = new.detectors; after_handlers = new.after_handlers; flipped = new.flipped }

-- of these conditions, all whose truth the handlers changed are in `flipped`, and so are all that
-- were before
pub record AreMarkedChanged (places : List ℕ) (old new : Conditions) : Type 0 where
  pub count : new.flipped.count ≡ old.flipped.count
  pub own : (place : ℕ) → is_listed places place ≡ true → is_listed new.flipped.places place ≡ false → flag_at new.at_arrival.items place ≡ flag_at new.after_handlers.items place
  pub before : (place : ℕ) → is_listed new.flipped.places place ≡ false → is_listed old.flipped.places place ≡ false

-- the conditions that read one of these variables
abbrev pub readers_of : Machine → List ℕ → List ℕ
readers_of m vars = flat_map (reading_conditions m) vars

-- the conditions that read this variable, or a state whose row reads it
abbrev pub touched_of : Machine → ℕ → List ℕ
touched_of m var = readers_of m (reading_rows m var) ++ reading_conditions m var

-- the conditions that are affected by one of these variables
abbrev pub touched_by : Machine → List ℕ → List ℕ
touched_by m vars = flat_map (touched_of m) vars

-- the conditions that read the value before the tick of one of these discrete variables
abbrev pub readers_before : Machine → List ℕ → List ℕ
readers_before m assigned = flat_map (λ var. reading_conditions m (var + discrete_count m)) assigned

-- the conditions that changed, and those that are affected by a change
abbrev pub touched_after : Machine → List ℕ → List ℕ → List ℕ → List ℕ
touched_after m reinitialized assigned changed = ((changed ++ touched_by m reinitialized) ++ touched_by m assigned) ++ readers_before m assigned

-- whether a condition reads this variable, or a state whose row reads it
abbrev pub depends_on : Machine → Condition → ℕ → Bool
depends_on m condition var = list_any (λ j. condition_reads j condition) (reading_rows m var) || condition_reads var condition

-- whether a condition is settled after handlers: it changed, depends on a reinitialized state or an
-- assigned variable, or reads the value of an assigned variable before the tick
abbrev pub settles_after : Machine → List ℕ → List ℕ → List ℕ → ℕ → Bool
settles_after m reinitialized assigned changed place =
    ((is_listed changed place || list_any (depends_on m (condition_at m place)) reinitialized) || list_any (depends_on m (condition_at m place)) assigned)
    || list_any (λ var. condition_reads (var + discrete_count m) (condition_at m place)) assigned

-- whether one of these conditions reads a state
abbrev pub one_reads : Machine → List ℕ → ℕ → Bool
one_reads m places j = list_any (λ place. condition_reads j (condition_at m place)) places

-- these conditions are settled at a tick and nothing else of them changes; of these values only the
-- states that they read are written, and all states are within the limit
pub record AreSettledAlong (at : ConditionContext) (places : List ℕ) (old new : Conditions) (old_dues new_dues : List (Option ℕ)) (before after : Values) : Type 0 where
  pub after_handlers : AreSettled at.machine.now at.tick (states_at at.lines.now at.tick) before.d at.slopes.now places (detector_states_of old old_dues) (detector_states_of new new_dues)
  pub noted : AreMarkedChanged places old new
  pub rest : AreAlikeButSettled old new
  pub at_arrival : AreArrived (one_reads at.machine.now places) (states_at at.lines.now at.tick) before.x after.x
  pub small : AreStates after.x
  pub work : after ≡ record before { x = after.x }

-- a condition that is not settled after handlers, and already has its speed at these slopes, does
-- not change
abbrev pub OthersAreKept : Machine → List ℕ → List ℕ → List ℕ → List ℤ → DetectorStates → DetectorStates → Type 0
OthersAreKept m reinitialized assigned changed slopes old new =
    (place : ℕ) → place < length (conditions m) → settles_after m reinitialized assigned changed place ≡ false →
    (detector_at old.detectors place).speed ≡ speed_of m (condition_at m place).form slopes → IsKept m place old new

-- a state that is read by no condition that is settled after handlers does not change
abbrev pub OthersAreUnread : Machine → List ℕ → List ℕ → List ℕ → List ℤ → List ℤ → Type 0
OthersAreUnread m reinitialized assigned changed x y =
    (j : ℕ) →
    ((place : ℕ) → place < length (conditions m) → settles_after m reinitialized assigned changed place ≡ true → condition_reads j (condition_at m place) ≡ false) →
    int_at y j ≡ int_at x j
