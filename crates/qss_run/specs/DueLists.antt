-- Defines the states and conditions that are due at one tick, and their removal from the queue.
use Rattle.std.specs.Prelude.{◌≡◌, ℕ, ◌+◌, ◌<◌, ◌≤◌, ◌⊎◌, Bool, true, false, not, List, length}
use Rattle.std.specs.Prelude.{Vec, vec_capacity, Option, Some, None}
use Rattle.std.specs.declared.alloc.Global.{Global}
use Rattle.qss_machine.specs.declared.compiled_machine.Machine.{Machine}
use Rattle.qss_machine.specs.Machines.{state_count}
use Rattle.qss_machine.specs.Handlers.{conditions}
use Rattle.qss_hand.specs.Works.{row_room}
use Rattle.qss_run.specs.declared.moment.Moment.{Moment}
use Rattle.qss_run.specs.declared.run_conditions.Conditions.{Conditions}
use Rattle.mu_num.specs.ListedPlaces.{flag_at, is_listed, AreRisingBelow}
use Rattle.qss_machine.specs.Ticks.{Snapshot}
use Rattle.qss_sched.specs.Ranks.{due_at}
use Rattle.qss_events.specs.Schedules.{became_true}

-- capacity for the states and conditions of a machine, and for all assignments of its handlers
pub record HasRoom (m : Machine) (moment : Moment) : Type 0 where
  pub moved : state_count m ≤ vec_capacity moment.moved
  pub changed : length (conditions m) ≤ vec_capacity moment.changed
  pub fired : length (conditions m) ≤ vec_capacity moment.fired
  pub assigned : row_room m.clauses ≤ vec_capacity moment.assigned

-- capacity for the indices of n states, and an index of each in an event queue
pub record HasRoomFor (n capacity : ℕ) (due : List (Option ℕ)) : Type 0 where
  pub room : n ≤ capacity
  pub places : n ≤ length due

-- of n states, those that are due at a tick, in increasing order
pub record AreDue (n tick : ℕ) (due : List (Option ℕ)) (moved : List ℕ) : Type 0 where
  pub numbers : AreRisingBelow n moved
  pub own : (j : ℕ) → is_listed moved j ≡ true → due_at due j ≡ Some tick
  pub all : (j : ℕ) → j < n → due_at due j ≡ Some tick → is_listed moved j ≡ true

-- the same event queue without the due ticks of the moved states
pub record IsWithout (moved : List ℕ) (old new : List (Option ℕ)) : Type 0 where
  pub as_many : length new ≡ length old
  pub none : (j : ℕ) → is_listed moved j ≡ true → due_at new j ≡ None
  pub others : (place : ℕ) → is_listed moved place ≡ false → due_at new place ≡ due_at old place

-- event queues that differ at most at this index
pub record IsSameBut (place : ℕ) (old new : List (Option ℕ)) : Type 0 where
  pub as_many : length new ≡ length old
  pub others : (other : ℕ) → (other ≡ place → ⊥) → due_at new other ≡ due_at old other

-- moved states that were removed from an event queue, in a list with the same capacity
pub record AreMovedOut (old moved : Vec ℕ Global) (due next : List (Option ℕ)) : Type 0 where
  pub without : IsWithout moved.items due next
  pub room : vec_capacity moved ≡ vec_capacity old

-- an event queue in which nothing is due up to a tick, and the moved states are not scheduled
pub record IsTakenFrom (tick : ℕ) (moved : List ℕ) (due : List (Option ℕ)) : Type 0 where
  pub later : (place at : ℕ) → due_at due place ≡ Some at → tick < at
  pub none : (j : ℕ) → is_listed moved j ≡ true → due_at due j ≡ None

-- of the conditions, those that are due at a tick, in increasing order; their indices in the event
-- queue follow those of n states
pub record AreChanging (n conditions tick : ℕ) (due : List (Option ℕ)) (changed : List ℕ) : Type 0 where
  pub numbers : AreRisingBelow conditions changed
  pub own : (place : ℕ) → is_listed changed place ≡ true → due_at due (n + place) ≡ Some tick
  pub all : (place : ℕ) → place < conditions → due_at due (n + place) ≡ Some tick → is_listed changed place ≡ true

-- flags that differ at most at these indices
abbrev pub AreAlikeBut : List ℕ → List Bool → List Bool → Type 0
AreAlikeBut places one other = (place : ℕ) → is_listed places place ≡ false → flag_at one place ≡ flag_at other place

-- whether two flags differ
abbrev pub differ : Bool → Bool → Bool
differ true other = not other
differ false other = other

-- the conditions to be evaluated at a tick, in increasing order: those that are due there, and
-- those that became true during the last handlers
pub record AreConditionsToEvaluate (n conditions tick : ℕ) (due : List (Option ℕ)) (w : Snapshot) (changed : List ℕ) : Type 0 where
  pub numbers : AreRisingBelow conditions changed
  pub own : (place : ℕ) → is_listed changed place ≡ true → (due_at due (n + place) ≡ Some tick) ⊎ (became_true w.at_arrival w.after_handlers place ≡ true)
  pub changing : (place : ℕ) → place < conditions → due_at due (n + place) ≡ Some tick → is_listed changed place ≡ true
  pub risen : (place : ℕ) → place < conditions → became_true w.at_arrival w.after_handlers place ≡ true → is_listed changed place ≡ true

-- the same due ticks, but conditions that became true during the handlers are due at a tick, and
-- the last index is cleared
pub record AreRisenDue (n tick : ℕ) (all : Conditions) (old new : List (Option ℕ)) : Type 0 where
  pub as_many : length new ≡ length old
  pub states : (j : ℕ) → j < n → due_at new j ≡ due_at old j
  pub risen : (place : ℕ) → place < length all.after_handlers.items → became_true all.at_arrival.items all.after_handlers.items place ≡ true → due_at new (n + place) ≡ Some tick
  pub others : (place : ℕ) → place < length all.after_handlers.items → became_true all.at_arrival.items all.after_handlers.items place ≡ false → due_at new (n + place) ≡ due_at old (n + place)
  pub behind : due_at new (n + length all.after_handlers.items) ≡ None

-- the same event queue without the due ticks at these indices, counted after the first ones
pub record IsTakenAfter (first : ℕ) (found : List ℕ) (old new : List (Option ℕ)) : Type 0 where
  pub as_many : length new ≡ length old
  pub before : (j : ℕ) → j < first → due_at new j ≡ due_at old j
  pub none : (place : ℕ) → is_listed found place ≡ true → due_at new (first + place) ≡ None
  pub others : (place : ℕ) → is_listed found place ≡ false → due_at new (first + place) ≡ due_at old (first + place)

-- the same due ticks without those of these states, of these conditions and of the last index
pub record AreDueRemoved (n count : ℕ) (moved changed : List ℕ) (old new : List (Option ℕ)) : Type 0 where
  pub as_many : length new ≡ length old
  pub states : (j : ℕ) → is_listed moved j ≡ true → due_at new j ≡ None
  pub conditions : (place : ℕ) → is_listed changed place ≡ true → due_at new (n + place) ≡ None
  pub other_states : (j : ℕ) → j < n → is_listed moved j ≡ false → due_at new j ≡ due_at old j
  pub other_conditions : (place : ℕ) → place < count → is_listed changed place ≡ false → due_at new (n + place) ≡ due_at old (n + place)
  pub behind : due_at new (n + count) ≡ None
