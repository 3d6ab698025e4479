-- A state's line at a new slope.
use Rattle.qss_states.proofs.Common
use Common.{ℕ, ℤ, ◌+◌, ◌<◌, ◌∙◌, ◌≡◌, ◌≢◌, All, ap, arith, below_more, Bool, CanSchedule, due_at}
use Common.{exceeds_row_limits, FitsSigned, get_or, get_or-map-range_with_len, get_or-set_other}
use Common.{get_or-set_same, get_or_default, int_at, ints, IsDue, IsLineWithinQuantum}
use Common.{IsRestartedFrom, IsWithin, length, length-map-range_with_len, level_unit, Line, line_at}
use Common.{line_here, List, Machine, NewSlopes, no_line, None, of_z, Option, pos, quantum_of, refl}
use Common.{row_is_light, set, slope_at, state_at, state_count, subst, sym, tabulate, to_z}
use Common.{to_z-of_z, true, w128, w64}
use Rattle.std.specs.Bool.{IsTrue}
use Rattle.std.specs.Prelude.{position}
use Rattle.qss_states.specs.EventContexts.{AreStatesOf, CanScheduleOne}

pub is_true : (b : Bool) → b ≡ true → IsTrue b
is_true b e = search (e)

-- ---- one more line, one more level, one more detector

pub goes_on_more : (m : Machine) (tick : ℕ) (x levels d : List ℤ) (lines : List Line) (agenda next : List (Option ℕ)) (j : ℕ) (line : Line) → j < length lines →
    ((k : ℕ) → k < j → IsRestartedFrom m tick (int_at x k) (int_at levels k) (slope_at m k levels d) k (line_at lines k) (due_at agenda k)) →
    ((place : ℕ) → (place ≡ j → ⊥) → due_at next place ≡ due_at agenda place) →
    IsRestartedFrom m tick (int_at x j) (int_at levels j) (slope_at m j levels d) j line (due_at next j) →
    (k : ℕ) → k < j + 1 → IsRestartedFrom m tick (int_at x k) (int_at levels k) (slope_at m k levels d) k (line_at (set lines j line) k) (due_at next k)
goes_on_more m tick x levels d lines agenda next j line h before others here =
    below_more (λ k. IsRestartedFrom m tick (int_at x k) (int_at levels k) (slope_at m k levels d) k (line_at (set lines j line) k) (due_at next k)) j
    (λ k below.
    let ne : k ≢ j = omega (arith, below) in
    subst (λ l. IsRestartedFrom m tick (int_at x k) (int_at levels k) (slope_at m k levels d) k l (due_at next k)) (sym (get_or-set_other lines j k line no_line ne))
    (subst (IsRestartedFrom m tick (int_at x k) (int_at levels k) (slope_at m k levels d) k (line_at lines k)) (sym (others k ne)) (before k below)))
    (subst (λ l. IsRestartedFrom m tick (int_at x j) (int_at levels j) (slope_at m j levels d) j l (due_at next j)) (sym (get_or-set_same lines j line no_line h)) here)

pub slopes_small : (m : Machine) (levels d e slopes : List ℤ) → position (exceeds_row_limits m levels d) m.rows ≡ None → e ≡ d →
    slopes ≡ tabulate (state_count m) (λ j. slope_at m j levels e) → All (IsWithin 88) slopes
slopes_small m levels d e slopes light same is k z h =
    let many : length slopes ≡ state_count m = ap length is ∙ length-map-range_with_len (λ j. slope_at m j levels e) 0 (state_count m) in
    let inside : k < state_count m = omega (arith, h, many) in
    let here : get_or slopes k z ≡ slope_at m k levels d =
    ap (λ xs. get_or xs k z) is ∙ get_or-map-range_with_len (λ j. slope_at m j levels e) 0 (state_count m) k k z inside (omega arith) ∙ ap (slope_at m k levels) same in
    subst (IsWithin 88) (sym here) (row_is_light m levels d light k inside).slope

-- states that may go on still may where lines and event queue are as long as before
pub still_on : (at : NewSlopes) (lines next : List Line) (dues after : List (Option ℕ)) → CanSchedule at lines dues → length next ≡ length lines → length after ≡ length dues → CanSchedule at next after
still_on at lines next dues after on many places = record {
  new = on.new;
  one_each = record { slopes = on.one_each.slopes; lines = many ∙ on.one_each.lines; places = omega (arith, places, on.one_each.places) };
  small_slopes = on.small_slopes;
  in_time = on.in_time;
}

-- a state that may go on has a line and a place, and its level and slope are read as they are
module _ {at : NewSlopes} {j : ℕ} {lines : List Line} {dues : List (Option ℕ)} (can : CanScheduleOne at j lines dues) where
  pub has_line : j < length lines
  has_line = omega (arith, can.all.one_each.lines, can.known)

  pub has_place : j < length dues
  has_place = omega (arith, can.all.one_each.places, can.known)

  pub line_read : (line : Line) → get_or lines j line ≡ line_at lines j
  line_read line = get_or_default lines j line no_line has_line

  -- once it has moved to a tick too
  pub moved_read : (tick : ℕ) (line new : Line) → new ≡ record (get_or lines j line) { tick = tick; x = state_at (get_or lines j line) tick } →
      line_at (set lines j new) j ≡ record (line_at lines j) { tick = tick; x = state_at (line_at lines j) tick }
  moved_read tick line new is = get_or-set_same lines j new no_line has_line ∙ is ∙ ap (λ (l : Line). record l { tick = tick; x = state_at l tick }) (line_read line)

  pub small_level : IsWithin 43 (int_at at.event.levels.now j)
  small_level = can.all.new.small_levels j (pos 0) (omega (arith, can.all.new.levels, can.known))

  pub small_slope : IsWithin 88 (int_at at.slopes.now j)
  small_slope = can.all.small_slopes j (pos 0) (omega (arith, can.all.one_each.slopes, can.known))

  pub level_read : to_z w64 (of_z w64 (int_at at.event.levels.now j)) ≡ int_at at.event.levels.now j
  level_read = let fits : FitsSigned w64 (int_at at.event.levels.now j) = omega (arith, ints, small_level) in to_z-of_z w64 (int_at at.event.levels.now j) fits

  pub slope_read : to_z w128 (of_z w128 (int_at at.slopes.now j)) ≡ int_at at.slopes.now j
  slope_read = let fits : FitsSigned w128 (int_at at.slopes.now j) = omega (arith, ints, small_slope) in to_z-of_z w128 (int_at at.slopes.now j) fits

  pub state_read : (x : List ℤ) → AreStatesOf at.event.machine.now x → to_z w128 (of_z w128 (int_at x j)) ≡ int_at x j
  state_read x states =
      let small : IsWithin 88 (int_at x j) = states.small j (pos 0) (omega (arith, states.as_many, can.known)) in
      let fits : FitsSigned w128 (int_at x j) = omega (arith, ints, small) in
      to_z-of_z w128 (int_at x j) fits

-- a state near its level, in other words
pub near_along : (m : Machine) (j : ℕ) (x y l k : ℤ) → x ≡ y → l ≡ k → IsLineWithinQuantum (level_unit m) y k (quantum_of m j k) → IsLineWithinQuantum (level_unit m) x l (quantum_of m j l)
near_along m j x y l k same own near =
    subst (λ z. IsLineWithinQuantum (level_unit m) z l (quantum_of m j l)) (sym same) (subst (λ v. IsLineWithinQuantum (level_unit m) y v (quantum_of m j v)) (sym own) near)

-- ---- one state goes on

-- a line at its tick
own_state : (tick : ℕ) (line : Line) → line.tick ≡ tick → state_at line tick ≡ line.x
own_state tick line here = subst (λ (t : ℕ). state_at line t ≡ line.x) here (line_here line.tick line.x line.slope line.level)

-- a line at a slope and a level, which are these
pub line_with : (line old new : Line) (slope level s l : ℤ) → old ≡ line → s ≡ slope → l ≡ level → new ≡ record old { slope = s; level = l } → new ≡ record line { slope = slope; level = level }
line_with line old new slope level s l of_line of_slope of_level is =
    is ∙ ap (λ (i : Line). record i { slope = s; level = l }) of_line ∙ ap (λ (z : ℤ). record line { slope = z; level = l }) of_slope
    ∙ ap (λ (z : ℤ). record line { slope = slope; level = z }) of_level

module _ (m : Machine) (tick j : ℕ) (slope level : ℤ) (line new : Line) (here : line.tick ≡ tick) (is : new ≡ record line { slope = slope; level = level }) where
  -- it is near its level
  pub near_on : IsLineWithinQuantum (level_unit m) (state_at line tick) level (quantum_of m j level) → IsLineWithinQuantum (level_unit m) new.x new.level (quantum_of m j new.level)
  near_on near =
      subst (λ (l : Line). IsLineWithinQuantum (level_unit m) l.x l.level (quantum_of m j l.level)) (sym is)
      (subst (λ (x : ℤ). IsLineWithinQuantum (level_unit m) x level (quantum_of m j level)) (own_state tick line here) near)

  -- and goes on with its due tick
  pub goes_on_from : (due : Option ℕ) → IsDue m new.tick j new due → IsRestartedFrom m tick (state_at line tick) level slope j new due
  goes_on_from due found =
      let after : Line = record line { slope = slope; level = level } in
      let from_own : IsDue m line.tick j after due = subst (λ (l : Line). IsDue m l.tick j l due) is found in
      subst (λ (l : Line). IsRestartedFrom m tick (state_at line tick) level slope j l due) (sym is)
      (record {
        not_later = omega (arith, here);
        here = own_state tick after here ∙ sym (own_state tick line here);
        own_slope = refl;
        own_level = refl;
        is_due = subst (λ (t : ℕ). IsDue m t j after due) here from_own;
      })
