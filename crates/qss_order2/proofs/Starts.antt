-- The world at tick 0.
use Rattle.qss_order2.proofs.Common
use Common.{[], ℕ, ℤ, ◌*ℤ◌, ◌+◌, ◌-ℤ◌, ◌<ℤ◌, ◌<◌, ◌∙◌, ◌∷◌, ◌≡◌, among_at, ap, AreChanges}
use Common.{AreRisingBelow, arith, Bool, fine_levels, fine_states, flat_map, floor_of, get_or}
use Common.{get_or-map, get_or-map-range_with_len, if-true, int_at, ints, is_listed, IsNear2}
use Common.{IsRuled2, IsWithin, length, length-map, level_row, level_unit, levels_on, List, Machine}
use Common.{MatchBool, no_place, Place, place_in, pos, range_with_len, reach_of, rise_at, rises_on}
use Common.{rows_of_left, SecondSnapshot, slope_row, start_place, start_states, state_count}
use Common.{StateInfo, states_on, subst, sym, tabulate, true}
use Rattle.std.proofs.lemmas.List.FromFn.{get_or-range_with_len, length-range_with_len}
use Rattle.std.specs.Int.RustNames.{unsigned_abs}
use Rattle.qss_order2.proofs.Settlings.{held_after}
use Rattle.mu_num.proofs.Tables.{tabulate-int_at}
use Rattle.qss_order2.proofs.Motions.{here_state, here_level, here_line, states_are, levels_are}
use Rattle.qss_order2.proofs.Motions.{rises_are}
use Rattle.qss_order2.proofs.RowLists.{left_rows}
use Rattle.qss_order2.proofs.Visits.{floor_inside, flat_same}
use Rattle.qss_order2.specs.declared.order2_rows.Kind2.TheVariants as kind

pub fine_count : (m : Machine) → length (fine_states m) ≡ state_count m
fine_count m = length-map (start_states m) (λ (x : ℤ). pos 64 *ℤ x)
    ∙ length-map m.states (λ (state : StateInfo). state.x0)

pub start_near : (m : Machine) (w : SecondSnapshot) → w.states ≡ fine_states m →
    w.levels ≡ fine_levels m → IsNear2 m w
start_near m w states levels j h =
    let many = fine_count m in
    let level : int_at w.levels j ≡ floor_of (int_at w.states j) (level_unit m) =
    ap (λ (xs : List ℤ). int_at xs j) levels ∙ get_or-map (λ (x : ℤ). floor_of x (level_unit m))
    (fine_states m) j (pos 0) (pos 0) (omega (arith, h, many))
    ∙ ap (λ (xs : List ℤ). floor_of (int_at xs j) (level_unit m)) (sym states) in
    subst (λ z. pos (unsigned_abs (int_at w.states j -ℤ level_unit m *ℤ z)) <ℤ reach_of m j)
    (sym level) (floor_inside m j (int_at w.states j) h)

-- the places of the start
module _ (m : Machine) (ps : List Place) (is : ps ≡ tabulate (state_count m) (start_place m)) where
  pub start_place_is : (j : ℕ) → j < state_count m → place_in ps j ≡ start_place m j
  start_place_is j h = ap (λ (l : List Place). place_in l j) is ∙ get_or-map-range_with_len
      (start_place m) 0 (state_count m) j j no_place h (omega arith)

  pub start_since : (j : ℕ) → j < state_count m → (place_in ps j).since ≡ 0
  start_since j h = ap (λ (p : Place). p.since) (start_place_is j h)

  pub start_states_are : (rs bs : List ℤ) → states_on (state_count m) ps rs bs 0 ≡ fine_states m
  start_states_are rs bs =
      states_are (state_count m) ps rs bs 0 (int_at (fine_states m)) (λ j h.
      here_state (place_in ps j) (int_at rs j) (int_at bs j) 0 (start_since j h)
      ∙ ap (λ (p : Place). p.state) (start_place_is j h))
      ∙ sym (tabulate-int_at (fine_states m) (state_count m) (fine_count m))

  pub start_levels_are : (vs : List ℤ) → levels_on (state_count m) ps vs 0 ≡ fine_levels m
  start_levels_are vs =
      levels_are (state_count m) ps vs 0 (int_at (fine_levels m)) (λ j h. here_level (place_in ps j)
      (int_at vs j) 0 (start_since j h) ∙ ap (λ (p : Place). p.level) (start_place_is j h))
      ∙ sym (tabulate-int_at (fine_levels m) (state_count m) (length-map (fine_states m) (λ (x : ℤ).
      floor_of x (level_unit m)) ∙ fine_count m))

  pub start_rises_are : (rs bs : List ℤ) → length rs ≡ state_count m →
      rises_on (state_count m) ps rs bs 0 ≡ rs
  start_rises_are rs bs many =
      rises_are (state_count m) ps rs bs 0 (int_at rs) (λ j h. here_line (int_at rs j) (int_at bs j)
      (place_in ps j).since 0 (start_since j h))
      ∙ sym (tabulate-int_at rs (state_count m) many)

-- all numbers below n are listed
pub all_listed : (n j : ℕ) → j < n → is_listed (range_with_len 0 n) j ≡ true
all_listed n j h =
    let e : 0 + j ≡ j = omega arith in
    let at : get_or (range_with_len 0 n) j 0 ≡ j = get_or-range_with_len 0 n j 0 h ∙ e in
    let there = among_at (range_with_len 0 n) j (omega (arith, h, length-range_with_len 0 n)) in
    ap (is_listed (range_with_len 0 n)) (sym at) ∙ there

-- they rise
pub all_rising : (n : ℕ) → AreRisingBelow n (range_with_len 0 n)
all_rising n = record {
  rising = λ k h. let many = length-range_with_len 0 n in omega (
    arith,
    get_or-range_with_len 0 n k 0 (omega (arith, h, many)),
    get_or-range_with_len 0 n (k + 1) 0 (omega (arith, h, many)),
  );
  below = λ k d h. let many = length-range_with_len 0 n in omega (
    arith,
    get_or-range_with_len 0 n k d (omega (arith, h, many)),
    h,
    many,
  );
}

-- the rows of all states
pub rows_of_all : (m : Machine) (w : SecondSnapshot) (left : ℕ → Bool) →
    ((j : ℕ) → j < state_count m → left j ≡ true) →
    rows_of_left kind.Start 0 w left (state_count m) ≡ flat_map (λ j. level_row kind.Start 0 w j ∷
    slope_row 0 w j ∷ []) (range_with_len 0 (state_count m))
rows_of_all m w left all =
    flat_same (left_rows kind.Start 0 w left) (λ j. level_row kind.Start 0 w j ∷ slope_row 0 w j ∷
    []) 0 (state_count m)
    (λ j low high. if-true (left j) (level_row kind.Start 0 w j ∷ slope_row 0 w j ∷ []) []
    (all j (omega (arith, high))))

-- each state was asked for
pub asked_all : (Rule : ℤ → ℤ → ℤ → Type 0) (m : Machine) (asked : ℕ →
    Bool) (levels old new : List ℤ) → ((j : ℕ) → j < state_count m → asked j ≡ true) →
    AreChanges Rule m asked levels old new →
    AreChanges Rule m (λ j. true) levels [] new
asked_all Rule m asked levels old new all are = record {
  one_each = are.one_each;
  each = λ j h. subst (λ b. MatchBool b (Rule (level_unit m) (rise_at m j levels) (int_at new j))
      (int_at new j ≡ int_at old j)) (all j h) (are.each j h);
}

zero_within : (u : ℤ) → IsWithin 95 (u *ℤ pos 0)
zero_within u = let e : u *ℤ pos 0 ≡ pos 0 = omega (arith, ints) in subst (IsWithin 95) (sym e)
    (omega (arith, ints))

-- the changes that were asked for first are small
pub held_first : (nearest : Bool) (m : Machine) (levels new : List ℤ) →
    AreChanges (IsRuled2 nearest) m (λ j. true) levels [] new → ((j : ℕ) → j < state_count m →
    IsWithin 94 (rise_at m j levels)) →
    (j : ℕ) → j < state_count m → IsWithin 95 (level_unit m *ℤ int_at new j)
held_first nearest m levels new are small = held_after nearest m (λ j. true) levels [] new are small
    (λ j h. zero_within (level_unit m))
