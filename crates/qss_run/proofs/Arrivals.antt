-- Conditions on arrival, and what the handlers of the branches do that are then due.
use Rattle.qss_run.proofs.Common
use Common.{[], ℕ, ℤ, ◌&&◌, ◌+◌, ◌<◌, ◌^◌, ◌||◌, ◌∙◌, ◌∷◌, ◌≡◌, ◌≤◌, ◌⊎◌, All, all_within, among_at}
use Common.{ap, AreRisingBelow, AreValuesOf, arith, assigned_of, became_true, Bool, cases_Bool}
use Common.{condition_at, Conditions, conditions, detector_at, discrete_count, eqb, eqb-true, false}
use Common.{filter, firing_flags, first_exceeding, flag_at, flags_of, get_or}
use Common.{get_or-map-range_with_len, get_or_default, HandlerState, handling_from}
use Common.{handling_of_fired, holds_at, if◌then◌else◌, inl, inr, int_at, int_at-states_at}
use Common.{int_at-tabulate, is_listed, is_reinit, is_reinitialized, IsHandlerEffect, IsWithin}
use Common.{IsWritten, length, length-map-range_with_len, length-states_at, Line, line_at, List}
use Common.{list_any, ListsFlipped, Machine, map, None, not, Option, or_cases, or_parts, pos}
use Common.{range_with_len, refl, Row, row_room, rows_clauses, run_clauses, same_lists, state_at}
use Common.{state_count, states_at, states_with, StatesAt, subst, sym, true, truth, truths}
use Common.{truths_are, Values}
use Rattle.std.proofs.lemmas.List.Elements.{All-filter}
use Rattle.std.proofs.lemmas.List.Kept.{IsStrictlyIncreasing-filter}
use Rattle.std.proofs.lemmas.Map.Views.{any-filter_same}
use Rattle.qss_run.specs.ConditionContexts.{AreSmallAt, MayBeRead, KnowsArrival}
use Rattle.qss_run.proofs.Reported.{AreLogged, among_assigned, logged, small_after}
use Rattle.qss_events.proofs.Flags.{due_flags_are}
use Rattle.qss_run.proofs.Reinitialized.{joins_nothing}
use Rattle.qss_events.proofs.Quiet.{clauses-idle}

-- a flag that is known at once
known_flag : (looked holds after_handlers : Bool) → (looked ≡ false → holds ≡ after_handlers) → (if looked then holds else after_handlers) ≡ holds
known_flag true holds after_handlers same = refl
known_flag false holds after_handlers same = sym (same refl)

-- a condition that stays true is not due
not_due : (after_handlers at_arrival : Bool) → (after_handlers && not at_arrival) ≡ false → (after_handlers && not (at_arrival && after_handlers)) ≡ false
not_due true true e = refl
not_due true false e = e
not_due false at_arrival e = refl

only_looked : (fires looked : Bool) → (looked ≡ false → fires ≡ false) → (fires && looked) ≡ fires
only_looked true true e = refl
only_looked true false e = sym (e refl)
only_looked false looked e = refl

-- those of these conditions that hold and did not both on the last arrival and after the last handlers
abbrev pub fired_of : (ℕ → Bool) → List Bool → List Bool → List ℕ → List ℕ
fired_of holds at_arrival after_handlers looked = filter (λ place. holds place && not (flag_at at_arrival place && flag_at after_handlers place)) looked

module _ (after_handlers at_arrival : List Bool) (looked : List ℕ) (holds : ℕ → Bool) where
  abbrev fires : ℕ → Bool
  fires place = holds place && not (flag_at at_arrival place && flag_at after_handlers place)

  among_fired : (place : ℕ) → is_listed (fired_of holds at_arrival after_handlers looked) place ≡ (fires place && is_listed looked place)
  among_fired place = any-filter_same (λ k. eqb k place) fires (fires place) (λ k e. ap fires (eqb-true k place e)) looked

  pub fired_numbers : (n : ℕ) → AreRisingBelow n looked → AreRisingBelow n (fired_of holds at_arrival after_handlers looked)
  fired_numbers n numbers = record {
    rising = IsStrictlyIncreasing-filter fires looked numbers.rising;
    below = All-filter fires (λ j. j < n) looked numbers.below;
  }

  module _ (now : List Bool) (many : length at_arrival ≡ length after_handlers) (read : IsWritten false (λ place flag. flag ≡ holds place) looked after_handlers now) where
    on_arrival : (place : ℕ) → flag_at now place ≡ (if is_listed looked place then holds place else flag_at after_handlers place)
    on_arrival place = by_among (cases_Bool (is_listed looked place))
      where
        by_among : (is_listed looked place ≡ true) ⊎ (is_listed looked place ≡ false) → flag_at now place ≡ (if is_listed looked place then holds place else flag_at after_handlers place)
        by_among (inl e) = read.each place e ∙ sym (ap (λ b. if b then holds place else flag_at after_handlers place) e)
        by_among (inr e) = read.others place e ∙ sym (ap (λ b. if b then holds place else flag_at after_handlers place) e)

    module _ (m : Machine) (tick : ℕ) (x d : List ℤ) (all : length after_handlers ≡ length (conditions m))
        (own : (place : ℕ) → place < length after_handlers → holds place ≡ truth m (condition_at m place) x d tick)
        (others : (place : ℕ) → place < length after_handlers → is_listed looked place ≡ false →
        (truth m (condition_at m place) x d tick ≡ flag_at after_handlers place) × ((flag_at after_handlers place && not (flag_at at_arrival place)) ≡ false)) where
      now_holds : (k : ℕ) → k < length after_handlers → flag_at now k ≡ holds k
      now_holds k h = on_arrival k ∙ known_flag (is_listed looked k) (holds k) (flag_at after_handlers k) (λ e. own k h ∙ (others k h e).0)

      pub truths_on_arrival : now ≡ truths m x d tick
      truths_on_arrival = truths_are m x d tick now (read.as_many ∙ all) (λ k h. let inside : k < length after_handlers = omega (arith, h, all) in now_holds k inside ∙ own k inside)

      -- the branches that are due are those of these conditions
      fired_flags : flags_of (length after_handlers) (fired_of holds at_arrival after_handlers looked) ≡ firing_flags now at_arrival after_handlers
      fired_flags =
          let same : length after_handlers ≡ length now = sym read.as_many in
          let table = length-map-range_with_len (is_listed (fired_of holds at_arrival after_handlers looked)) 0 (length after_handlers) in
          due_flags_are now at_arrival after_handlers (flags_of (length after_handlers) (fired_of holds at_arrival after_handlers looked)) (many ∙ same) same (table ∙ same)
          (λ k h.
          let inside : k < length after_handlers = omega (arith, h, same) in
          let due : Bool → Bool = λ b. b && not (flag_at at_arrival k && flag_at after_handlers k) in
          get_or-map-range_with_len (is_listed (fired_of holds at_arrival after_handlers looked)) 0 (length after_handlers) k k false inside (omega arith)
          ∙ among_fired k
          ∙ only_looked (fires k) (is_listed looked k)
          (λ e. ap due (own k inside ∙ (others k inside e).0) ∙ not_due (flag_at after_handlers k) (flag_at at_arrival k) (others k inside e).1)
          ∙ sym (ap due (now_holds k inside)))

      -- the handlers of these branches are those of the tick
      pub fired_handling : (begun : List ℤ) (fired : List ℕ) → first_exceeding 88 x ≡ None → begun ≡ d → fired ≡ fired_of holds at_arrival after_handlers looked →
          handling_of_fired m tick x begun fired ≡ handling_from m tick x d at_arrival after_handlers
      fired_handling begun fired calm same are =
          let start : Option ℕ → HandlerState = λ o. record { states = x; discretes = d; rows = []; overflow = o } in
          ap (λ e. handling_of_fired m tick x e fired) same
          ∙ ap (handling_of_fired m tick x d) are
          ∙ ap (λ n. run_clauses m tick d 0 (start None) m.clauses (flags_of n (fired_of holds at_arrival after_handlers looked))) (sym all)
          ∙ ap (run_clauses m tick d 0 (start None) m.clauses) fired_flags
          ∙ ap (λ (flags : List Bool). run_clauses m tick d 0 (start None) m.clauses (firing_flags flags at_arrival after_handlers)) truths_on_arrival
          ∙ ap (λ (o : Option ℕ). run_clauses m tick d 0 (start o) m.clauses (firing_flags (truths m x d tick) at_arrival after_handlers)) (sym calm)

-- where no state exceeds its limit on arrival, detectors that are valid there have values within
-- the limit
small_then : (at : StatesAt) (changed : List ℕ) (all : Conditions) (d : List ℤ) → KnowsArrival at changed all d → All (IsWithin 88) (states_at at.states.now.lines.items at.tick) → AreSmallAt at.tick all.detectors.items
small_then at changed all d known small = record {
  later = λ place h. (known.watched place (omega (arith, h, known.fits.detectors))).0;
  small = λ place h. (known.watched place (omega (arith, h, known.fits.detectors))).1 small;
}

-- and truths may be read from what conditions keep
pub may_be_read : (at : StatesAt) (changed : List ℕ) (all : Conditions) (d : List ℤ) → KnowsArrival at changed all d → first_exceeding 88 (states_at at.states.now.lines.items at.tick) ≡ None → at.tick < 2 ^ 32 → MayBeRead at.tick all changed
may_be_read at changed all d known calm in_time = record {
  as_many = known.fits.detectors ∙ sym known.fits.after_handlers;
  numbers = subst (λ n. AreRisingBelow n changed) (sym known.fits.after_handlers) known.numbers;
  small = small_then at changed all d known (all_within 88 (states_at at.states.now.lines.items at.tick) calm);
  in_time = omega (arith, in_time);
}

-- conditions on arrival have one of each truth
pub lists_flipped : (at : StatesAt) (changed : List ℕ) (all : Conditions) (d : List ℤ) → KnowsArrival at changed all d → ListsFlipped all
lists_flipped at changed all d known = record {
  as_many = known.fits.at_arrival ∙ sym known.fits.after_handlers;
  count = known.fits.flipped ∙ sym known.fits.after_handlers;
  alike = known.alike;
}

-- the truths on arrival, where the detectors are valid there
module _ (at : StatesAt) (changed : List ℕ) (all : Conditions) (d : List ℤ) (known : KnowsArrival at changed all d) (now : List Bool)
    (read : IsWritten false (λ place flag. flag ≡ holds_at (detector_at all.detectors.items place) at.tick) changed all.after_handlers.items now) where
  abbrev holds_there : ℕ → Bool
  holds_there place = holds_at (detector_at all.detectors.items place) at.tick

  many_arrived : length all.at_arrival.items ≡ length all.after_handlers.items
  many_arrived = known.fits.at_arrival ∙ sym known.fits.after_handlers

  own_truth : (place : ℕ) → place < length all.after_handlers.items → holds_there place ≡ truth at.machine.now (condition_at at.machine.now place) (states_at at.states.now.lines.items at.tick) d at.tick
  own_truth place h = (known.watched place (omega (arith, h, known.fits.after_handlers))).2

  other_truth : (place : ℕ) → place < length all.after_handlers.items → is_listed changed place ≡ false →
      (truth at.machine.now (condition_at at.machine.now place) (states_at at.states.now.lines.items at.tick) d at.tick ≡ flag_at all.after_handlers.items place) × (became_true all.at_arrival.items all.after_handlers.items place ≡ false)
  other_truth place h none = known.others place (omega (arith, h, known.fits.after_handlers)) none

  pub read_on_arrival : now ≡ truths at.machine.now (states_at at.states.now.lines.items at.tick) d at.tick
  read_on_arrival =
      truths_on_arrival all.after_handlers.items all.at_arrival.items changed holds_there now many_arrived read at.machine.now at.tick (states_at at.states.now.lines.items at.tick) d known.fits.after_handlers own_truth other_truth

  pub read_handling : (begun : List ℤ) (fired : List ℕ) → first_exceeding 88 (states_at at.states.now.lines.items at.tick) ≡ None → begun ≡ d → fired ≡ fired_of holds_there all.at_arrival.items all.after_handlers.items changed →
      handling_of_fired at.machine.now at.tick (states_at at.states.now.lines.items at.tick) begun fired
      ≡ handling_from at.machine.now at.tick (states_at at.states.now.lines.items at.tick) d all.at_arrival.items all.after_handlers.items
  read_handling begun fired calm same are =
      fired_handling all.after_handlers.items all.at_arrival.items changed holds_there now many_arrived read at.machine.now at.tick (states_at at.states.now.lines.items at.tick) d known.fits.after_handlers own_truth other_truth begun fired calm same are

-- where no branch is due, the handlers do nothing
none_flagged : (places : List ℕ) → list_any (λ flag. flag) (map (is_listed []) places) ≡ false
none_flagged [] = refl
none_flagged (place ∷ places) = none_flagged places

pub idle : (m : Machine) (tick : ℕ) (x d : List ℤ) (fired : List ℕ) → fired ≡ [] →
    handling_of_fired m tick x d fired ≡ record { states = x; discretes = d; rows = []; overflow = None }
idle m tick x d fired none =
    let start : HandlerState = record { states = x; discretes = d; rows = []; overflow = None } in
    ap (handling_of_fired m tick x d) none
    ∙ clauses-idle m tick d 0 start m.clauses _ (none_flagged (range_with_len 0 (length (conditions m))))

-- the branches that fired have room for their rows
pub rows_fired : (m : Machine) (tick : ℕ) (x d : List ℤ) (fired : List ℕ) → length (handling_of_fired m tick x d fired).rows ≤ row_room m.clauses
rows_fired m tick x d fired =
    omega (arith, rows_clauses m tick d 0 (record { states = x; discretes = d; rows = []; overflow = None }) m.clauses (flags_of (length (conditions m)) fired))

module _ (m : Machine) (tick : ℕ) (lines : List Line) (due fired : List ℕ) (old begun new : Values) (many : length lines ≡ state_count m) (calm : first_exceeding 88 (states_at lines tick) ≡ None)
    (at_arrival : IsWritten (pos 0) (λ j z. z ≡ state_at (line_at lines j) tick) due old.x begun.x) where
  abbrev done : HandlerState
  done = handling_of_fired m tick (states_at lines tick) begun.d fired

  says : AreLogged m (states_at lines tick) begun.d done
  says = logged m tick (states_at lines tick) begun.d None (flags_of (length (conditions m)) fired)

  -- only states are reinitialized
  pub known_states : (j : ℕ) → is_reinitialized done.rows j ≡ true → j < state_count m
  known_states = says.reinits

  module _ (begins : begun ≡ record old { x = begun.x }) (work : new ≡ record { x = new.x; d = done.discretes; pre = begun.d; tick = tick; log = done.rows; room = begun.room })
      (all : length done.states ≡ state_count m)
      (still : (j : ℕ) → int_at begun.x j ≡ int_at (states_at lines tick) j → int_at new.x j ≡ int_at done.states j)
      (anew : (j : ℕ) → is_reinitialized done.rows j ≡ true → int_at new.x j ≡ int_at done.states j)
      (moved : List ℕ) (each : (j : ℕ) → is_listed moved j ≡ (is_listed due j || is_reinitialized done.rows j)) where
    -- a moved state is as in the values, and another one where its line leads
    moved_state : (j : ℕ) → j < length lines → is_listed moved j ≡ true → int_at done.states j ≡ int_at new.x j
    moved_state j inside e = by_parts (or_cases (is_listed due j) (is_reinitialized done.rows j) (sym (each j) ∙ e))
      where
        by_parts : (is_listed due j ≡ true) ⊎ (is_reinitialized done.rows j ≡ true) → int_at done.states j ≡ int_at new.x j
        by_parts (inl here) = sym (still j (at_arrival.each j here ∙ sym (int_at-states_at lines tick j inside)))
        by_parts (inr here) = sym (anew j here)

    other_state : (j : ℕ) → j < length lines → is_listed moved j ≡ false → int_at done.states j ≡ state_at (line_at lines j) tick
    other_state j inside e =
        let both = or_parts (is_listed due j) (is_reinitialized done.rows j) (sym (each j) ∙ e) in
        says.states j both.1 ∙ int_at-states_at lines tick j inside

    own_states : done.states ≡ states_with lines tick moved new.x
    own_states =
        let one : ℕ → ℤ = λ j. if is_listed moved j then int_at new.x j else state_at (line_at lines j) tick in
        let table : length (states_with lines tick moved new.x) ≡ length lines = length-map-range_with_len one 0 (length lines) in
        same_lists (pos 0) done.states (states_with lines tick moved new.x) (all ∙ sym many ∙ sym table)
        (λ j h. let inside : j < length lines = omega (arith, h, table) in by_among j inside (cases_Bool (is_listed moved j)) ∙ sym (int_at-tabulate (length lines) one j inside))
      where
        by_among : (j : ℕ) → j < length lines → (is_listed moved j ≡ true) ⊎ (is_listed moved j ≡ false) →
            int_at done.states j ≡ (if is_listed moved j then int_at new.x j else state_at (line_at lines j) tick)
        by_among j inside (inl e) = moved_state j inside e ∙ sym (ap (λ b. if b then int_at new.x j else state_at (line_at lines j) tick) e)
        by_among j inside (inr e) = other_state j inside e ∙ sym (ap (λ b. if b then int_at new.x j else state_at (line_at lines j) tick) e)

    pub is_handled : AreValuesOf m new → AreRisingBelow (state_count m) moved → IsHandlerEffect m tick lines due moved (assigned_of done.rows) old new done
    is_handled fits numbers = record {
      values = work ∙ ap (λ (v : Values). record { x = new.x; d = done.discretes; pre = v.d; tick = tick; log = done.rows; room = v.room }) begins;
      fits = fits;
      own_states = own_states;
      small = small_after m tick (states_at lines tick) begun.d None (flags_of (length (conditions m)) fired) (all_within 88 (states_at lines tick) calm);
      numbers = numbers;
      moves = each;
      assigns = record {
        known = λ k d h.
            subst (λ var. (state_count m ≤ var) × (var < state_count m + discrete_count m)) (get_or_default (assigned_of done.rows) k 0 d h)
            (says.sets (get_or (assigned_of done.rows) k 0) (sym (among_assigned done.rows (get_or (assigned_of done.rows) k 0)) ∙ among_at (assigned_of done.rows) k h));
        others = λ g inside e.
            ap (λ (v : Values). int_at v.d g) work
            ∙ says.discretes g (sym (among_assigned done.rows (state_count m + g)) ∙ e)
            ∙ sym (ap (λ (v : Values). int_at v.pre g) work);
        small_before = fits.small_before;
      };
    }

  -- where no branch is due, the due states have moved, and nothing else happened
  pub idle_effect : fired ≡ [] → begun ≡ record old { x = begun.x } → new ≡ record begun { tick = tick; pre = begun.d; log = [] } → AreValuesOf m new →
      AreRisingBelow (state_count m) due → IsHandlerEffect m tick lines due due (assigned_of done.rows) old new done
  idle_effect none begins began fits numbers =
      let is = idle m tick (states_at lines tick) begun.d fired none in
      let moved_x : new.x ≡ begun.x = ap (λ (v : Values). v.x) began in
      let left : List ℤ → HandlerState → Values = λ x h. record { x = x; d = h.discretes; pre = begun.d; tick = tick; log = h.rows; room = begun.room } in
      let start : HandlerState = record { states = states_at lines tick; discretes = begun.d; rows = []; overflow = None } in
      is_handled begins (began ∙ ap (λ x. left x start) (sym moved_x) ∙ ap (left new.x) (sym is))
      (ap (λ (h : HandlerState). length h.states) is ∙ length-states_at lines tick ∙ many)
      (λ j e. ap (λ x. int_at x j) moved_x ∙ e ∙ ap (λ (h : HandlerState). int_at h.states j) (sym is))
      (λ j e. let both : true ≡ false = sym e ∙ ap (λ (h : HandlerState). is_reinitialized h.rows j) is in absurd (cc))
      due (joins_nothing done.rows (ap (λ (h : HandlerState). list_any (λ (row : Row). is_reinit row.kind) h.rows) is) due)
      fits numbers
