-- Defines the handlers of a tick at which few conditions change, and their results.
use Rattle.std.specs.Prelude.{◌≡◌, ℕ, ◌<◌, Bool, true, false, ◌&&◌, ◌||◌, List, [], length, ℤ}
use Rattle.std.specs.Prelude.{Option, None, ◌==◌}
use Rattle.std.specs.List.{list_any}
use Rattle.qss_machine.specs.declared.machine_parts.Row.{Row}
use Rattle.qss_machine.specs.declared.compiled_machine.Machine.{Machine}
use Rattle.qss_machine.specs.EventCounts.{is_reinit}
use Rattle.mu_num.specs.IndexedSums.{int_at, tabulate, first_exceeding}
use Rattle.qss_machine.specs.Machines.{state_count, discrete_count}
use Rattle.qss_machine.specs.Handlers.{HandlerState, conditions, run_clauses, truths, firing_flags}
use Rattle.qss_quant.specs.IntegratorLines.{Line, state_at}
use Rattle.qss_hand.specs.Values.{Values}
use Rattle.qss_hand.specs.Works.{AreValuesOf}
use Rattle.mu_num.specs.ListedPlaces.{is_listed, AreRisingBelow}
use Rattle.mu_num.specs.Limits.{bits_of_state, AreStates}
use Rattle.qss_run.specs.declared.run_conditions.StatesAt.{StatesAt}
use Rattle.qss_run.specs.declared.run_conditions.Conditions.{Conditions}
use Rattle.qss_run.specs.DueLists.{AreAlikeBut}
use Rattle.qss_run.specs.DetectorUpdates.{DetectorStates, detector_states_of, IsSettled}
use Rattle.qss_states.specs.Variables.{reads_moved, AreAssigned, AreAssignedFrom}
use Rattle.qss_states.specs.StateLines.{states_at, states_with, line_at}

-- flags that are set exactly at these indices
abbrev pub flags_of : ℕ → List ℕ → List Bool
flags_of count places = tabulate count (is_listed places)

-- the handlers of a tick at which these branches are due, from these values on arrival, all within
-- their limits
abbrev pub handling_of_fired : Machine → ℕ → List ℤ → List ℤ → List ℕ → HandlerState
handling_of_fired m tick states discretes fired =
    run_clauses m tick discretes 0
    (record { states = states; discretes = discretes; rows = []; overflow = None })
    m.clauses
    (flags_of (length (conditions m)) fired)

-- the handlers of a tick at which these branches are due, from these discrete values and the states
-- on the lines
abbrev pub handling_at : StatesAt → List ℤ → List ℕ → HandlerState
handling_at at discretes fired = handling_of_fired at.machine.now at.tick (states_at at.states.now.lines.items at.tick) discretes fired

-- whether rows reinitialize a state
abbrev pub is_reinitialized : List Row → ℕ → Bool
is_reinitialized rows j = list_any (λ row. is_reinit row.kind && row.var == j) rows

-- the result of the handlers of a tick at which these states are due; the moved states are the due
-- and the reinitialized ones
pub record IsHandlerEffect (m : Machine) (tick : ℕ) (lines : List Line) (due moved assigned : List ℕ) (old new : Values) (h : HandlerState) : Type 0 where
  pub values : new ≡ record { x = new.x; d = h.discretes; pre = old.d; tick = tick; log = h.rows; room = old.room }
  pub fits : AreValuesOf m new
  pub own_states : h.states ≡ states_with lines tick moved new.x
  pub small : AreStates h.states
  pub numbers : AreRisingBelow (state_count m) moved
  pub moves : (j : ℕ) → is_listed moved j ≡ (is_listed due j || is_reinitialized h.rows j)
  pub assigns : AreAssignedFrom m assigned new.pre new.d

-- states after handlers, within the limit; those that were not reinitialized are on their lines
pub record AreStatesLeft (m : Machine) (tick : ℕ) (lines : List Line) (moved : List ℕ) (left : Values) : Type 0 where
  pub numbers : AreRisingBelow (state_count m) moved
  pub reinitialized : (j : ℕ) → is_reinitialized left.log j ≡ true → j < state_count m
  pub still : (j : ℕ) → j < state_count m → is_reinitialized left.log j ≡ false →
      int_at (states_with lines tick moved left.x) j ≡ state_at (line_at lines j) tick
  pub small : AreStates (states_with lines tick moved left.x)

-- all conditions but the evaluated ones are settled at these values and slopes, with equal truths
-- on arrival
pub record AreSettledBut (m : Machine) (tick : ℕ) (x d slopes : List ℤ) (looked : List ℕ) (all : Conditions) (dues : List (Option ℕ)) : Type 0 where
  pub numbers : AreRisingBelow (length (conditions m)) looked
  pub alike : AreAlikeBut looked all.at_arrival.items all.after_handlers.items
  pub others : (place : ℕ) → place < length (conditions m) → is_listed looked place ≡ false → IsSettled m tick x d slopes place (detector_states_of all dues)

-- conditions that were settled up to a tick, with the states, discrete variables and conditions
-- that changed there
pub record AreDetectorsUpTo (m : Machine) (tick : ℕ) (moved reinitialized assigned changed : List ℕ) (x states pre d before slopes : List ℤ) (now : DetectorStates) : Type 0 where
  pub unchanged : (place : ℕ) → place < length (conditions m) → is_listed changed place ≡ false → IsSettled m tick x pre before place now
  pub other_states : (j : ℕ) → j < state_count m → is_listed reinitialized j ≡ false → int_at states j ≡ int_at x j
  pub other_discretes : AreAssigned m assigned pre d
  pub other_slopes : (j : ℕ) → j < state_count m → reads_moved m moved j ≡ false → reads_moved m assigned j ≡ false → int_at slopes j ≡ int_at before j
  pub many_states : (length x ≡ state_count m) × (length states ≡ state_count m)
  pub many_discretes : (length pre ≡ discrete_count m) × (length d ≡ discrete_count m)
  pub many_slopes : (length before ≡ state_count m) × (length slopes ≡ state_count m)

-- the handlers of a tick, from these values on arrival and these truths of the tick before
abbrev pub handling_from : Machine → ℕ → List ℤ → List ℤ → List Bool → List Bool → HandlerState
handling_from m tick states discretes at_arrival after_handlers =
    run_clauses m tick discretes 0
    (record { states = states; discretes = discretes; rows = []; overflow = first_exceeding bits_of_state states })
    m.clauses
    (firing_flags (truths m states discretes tick) at_arrival after_handlers)
