-- Defines the contexts in which conditions and handlers are evaluated, and their preconditions.
use Rattle.std.specs.Prelude.{◌≡◌, ℕ, ◌+◌, ◌<◌, ◌≤◌, ◌^◌, List, length, ℤ, Option, false}
use Rattle.qss_machine.specs.declared.compiled_machine.Machine.{Machine}
use Rattle.qss_machine.specs.Machines.{state_count, truth}
use Rattle.qss_machine.specs.Readers.{uses_of}
use Rattle.qss_cross.specs.Crossing.{DetectorView, IsSmall, value_at, holds_at}
use Rattle.qss_run.specs.declared.run_conditions.Conditions.{Conditions}
use Rattle.qss_run.specs.declared.run_conditions.ConditionContext.{ConditionContext}
use Rattle.qss_run.specs.declared.run_conditions.ConditionValues.{ConditionValues}
use Rattle.qss_states.specs.StateLines.{states_at, AreLinesAt, AreLinesWithDue}
use Rattle.qss_run.specs.ConditionPlaces.{detector_at, AreConditionsOf, HasPlaces, KnowsApart}
use Rattle.qss_run.specs.ConditionPlaces.{ListsFlipped}
use Rattle.qss_states.specs.Variables.{AreSlopesOf, AreWithin}
use Rattle.mu_num.specs.ListedPlaces.{flag_at, is_listed, AreRisingBelow}
use Rattle.mu_num.specs.Limits.{tick_limit, AreStates}
use Rattle.qss_machine.specs.Handlers.{conditions}
use Rattle.qss_hand.specs.Values.{Values}
use Rattle.qss_events.specs.Schedules.{condition_at, became_true}
use Rattle.qss_run.specs.declared.moment.Moment.{Moment}
use Rattle.qss_run.specs.declared.run_conditions.StatesAt.{StatesAt}
use Rattle.qss_run.specs.DueLists.{IsTakenFrom}

-- detectors that are not later than a tick, with values within the limit there
pub record AreSmallAt (tick : ℕ) (detectors : List DetectorView) : Type 0 where
  pub later : (place : ℕ) → place < length detectors → (detector_at detectors place).tick ≤ tick
  pub small : (place : ℕ) → place < length detectors → IsSmall (value_at (detector_at detectors place) tick)

-- the truths of these conditions may be computed from their detectors at a tick up to 2^32; there
-- is one detector for each settled truth
pub record MayBeRead (tick : ℕ) (all : Conditions) (changed : List ℕ) : Type 0 where
  pub as_many : length all.detectors.items ≡ length all.after_handlers.items
  pub numbers : AreRisingBelow (length all.after_handlers.items) changed
  pub small : AreSmallAt tick all.detectors.items
  pub in_time : tick ≤ tick_limit

-- the readers of a machine, and its lines and slopes at a tick, within the limits
pub record IsConditionContext (at : ConditionContext) : Type 0 where
  pub uses : at.uses.now ≡ uses_of at.machine.now
  pub lines : AreLinesAt at.machine.now at.tick at.lines.now
  pub slopes : AreSlopesOf at.machine.now at.slopes.now

-- values and slopes of a machine at a tick, within the limits
pub record AreConditionValues (m : Machine) (at : ConditionValues) : Type 0 where
  pub values : AreWithin m at.states.now at.discretes.now
  pub slopes : AreSlopesOf m at.slopes.now
  pub in_time : at.tick < tick_limit

-- the conditions of a machine, with indices in an event queue, may be settled at these values and
-- slopes
pub record CanSetDetectors (m : Machine) (at : ConditionValues) (all : Conditions) (due : List (Option ℕ)) : Type 0 where
  pub fits : AreConditionsOf m all
  pub point : AreConditionValues m at
  pub places : HasPlaces m due

-- the speeds of detectors may be set at a tick: their values are within the limit there
pub record CanUpdateDetectors (at : ConditionContext) (all : Conditions) (due : List (Option ℕ)) : Type 0 where
  pub fits : AreConditionsOf at.machine.now all
  pub places : HasPlaces at.machine.now due
  pub small : AreSmallAt at.tick all.detectors.items
  pub slopes_of : AreSlopesOf at.machine.now at.slopes.now
  pub in_time : at.tick < tick_limit

-- the speeds of the conditions that read a state whose row reads a moved state may be set at a tick
pub record CanUpdateReaderDetectors (at : ConditionContext) (states : List ℕ) (all : Conditions) (due : List (Option ℕ)) : Type 0 where
  pub uses : at.uses.now ≡ uses_of at.machine.now
  pub moved : AreRisingBelow (state_count at.machine.now) states
  pub ready : CanUpdateDetectors at all due

-- conditions may be settled at a tick at these discrete values and the states on the lines; the
-- states that they read are written to these values
pub record CanSettle (at : ConditionContext) (all : Conditions) (due : List (Option ℕ)) (work : Values) : Type 0 where
  pub moment : IsConditionContext at
  pub fits : AreConditionsOf at.machine.now all
  pub places : HasPlaces at.machine.now due
  pub values : AreWithin at.machine.now work.x work.d

-- the conditions on arrival at a tick: detectors have the truths there, and conditions that are not
-- evaluated do not change
pub record KnowsArrival (at : StatesAt) (changed : List ℕ) (all : Conditions) (d : List ℤ) :
    Type 0 where
  pub fits : AreConditionsOf at.machine.now all
  pub numbers : AreRisingBelow (length (conditions at.machine.now)) changed
  pub watched : (place : ℕ) → place < length (conditions at.machine.now) →
      ((detector_at all.detectors.items place).tick ≤ at.tick)
      × (AreStates (states_at at.states.now.lines.items at.tick) → IsSmall (value_at (detector_at all.detectors.items place) at.tick))
      × (holds_at (detector_at all.detectors.items place) at.tick ≡ truth at.machine.now (condition_at at.machine.now place) (states_at at.states.now.lines.items at.tick) d at.tick)
  pub alike : KnowsApart all
  pub others : (place : ℕ) → place < length (conditions at.machine.now) → is_listed changed place ≡ false →
      (truth at.machine.now (condition_at at.machine.now place) (states_at at.states.now.lines.items at.tick) d at.tick ≡ flag_at all.after_handlers.items place)
      × (became_true all.at_arrival.items all.after_handlers.items place ≡ false)

-- conditions that became true may be scheduled: the event queue has indices for n states, all
-- conditions, and one more
pub record CanMakeDue (n : ℕ) (all : Conditions) (due : List (Option ℕ)) : Type 0 where
  pub flipped : ListsFlipped all
  pub places : n + length all.after_handlers.items < length due
  pub few : n + length all.after_handlers.items < 2 ^ 32

-- the handlers of a tick may run: the due states are removed from the event queue, and the others
-- are within the limit on their lines
pub record CanHandle (at : StatesAt) (all : Conditions) (moment : Moment) (work : Values) (dues : List (Option ℕ)) : Type 0 where
  pub known : KnowsArrival at moment.changed.items all work.d
  pub lines : AreLinesWithDue at.machine.now at.tick at.states.now.lines.items moment.moved.items
  pub values : AreWithin at.machine.now work.x work.d
  pub places : state_count at.machine.now ≤ length dues
  pub taken : IsTakenFrom at.tick moment.moved.items dues
