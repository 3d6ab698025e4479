-- Where only moved states arrive and take new levels, all states have the levels of a tick.
use Rattle.qss_states.proofs.Common
use Common.{[], ℕ, ℤ, ◌++◌, ◌<◌, ◌∙◌, ◌∷◌, ◌≡◌, ◌⊎◌, All, all_within, ap, AreRisingBelow, arith}
use Common.{cases_Bool, Decides-int_eq, DiffersOnlyAt, exceeds, false, first_exceeding}
use Common.{get_or_default, if◌then◌else◌, index_of, inl, inr, int_at, int_at-tabulate, int_eq}
use Common.{is_listed, IsFirstOf, IsNextLevel, IsWithin, IsWritten, length}
use Common.{length-map-range_with_len, level_rows, Line, line_at, List, Machine, None, Option, pos}
use Common.{refl, row_of, state_at, state_count, states_at, subst, sym, true}
use Rattle.qss_states.specs.EventContexts.{AreMovedTo}
use Rattle.qss_machine.specs.Ticks.{AreNextLevels, is_within_quantum}
use Rattle.qss_states.specs.StateLines.{MayArrive, AreLinesUpTo, AreLinesAt, MayMove}
use Rattle.std.specs.List.{flat_map}
use Rattle.mu_num.proofs.SizeTests.{within-passes}
use Rattle.qss_events.proofs.LevelRows.{level_row}
use Rattle.qss_events.proofs.DueFirsts.{first_of_all}
use Rattle.mu_num.proofs.RisingNumbers.{rows_among}
use Rattle.mu_num.proofs.Writes.{among_head, among_rest}
use Rattle.qss_events.proofs.Forced.{near_holds}
use Rattle.qss_machine.specs.declared.machine_parts.RowKind.TheVariants as kind

-- the states at a tick by number
pub length-states_at : (lines : List Line) (tick : ℕ) → length (states_at lines tick) ≡ length lines
length-states_at lines tick = length-map-range_with_len (λ j. state_at (line_at lines j) tick) 0 (length lines)

pub int_at-states_at : (lines : List Line) (tick j : ℕ) → j < length lines → int_at (states_at lines tick) j ≡ state_at (line_at lines j) tick
int_at-states_at lines tick j h = int_at-tabulate (length lines) (λ j. state_at (line_at lines j) tick) j h

-- a state to which a line leads is within the limit of states, and so within that of lines
pub state_within : (lines : List Line) (tick j : ℕ) → j < length lines → All (IsWithin 88) (states_at lines tick) → IsWithin 88 (state_at (line_at lines j) tick)
state_within lines tick j h small = subst (IsWithin 88) (int_at-states_at lines tick j h) (small j (pos 0) (omega (arith, h, length-states_at lines tick)))

pub state_small : (lines : List Line) (tick j : ℕ) → j < length lines → All (IsWithin 88) (states_at lines tick) → IsWithin 89 (state_at (line_at lines j) tick)
state_small lines tick j h small = omega (arith, state_within lines tick j h small)

-- lines at a tick may move to it
pub may_move : {m : Machine} {tick : ℕ} {lines : List Line} → AreLinesAt m tick lines → MayMove tick lines
may_move {tick = tick} {lines = lines} at = record {
  later = at.up_to.later;
  small = λ j h. state_small lines tick j h at.small;
  in_time = omega (arith, at.up_to.in_time);
}

-- and numbers of the states may arrive along lines up to a tick
pub may_arrive : {m : Machine} {tick : ℕ} {lines : List Line} {x : List ℤ} → length x ≡ state_count m → AreLinesUpTo m tick lines → MayArrive tick lines x
may_arrive many up_to = record { as_many = many ∙ sym up_to.as_many; later = up_to.later; in_time = omega (arith, up_to.in_time) }

-- rows that are the same at each of some states
pub same_rows : {R : Type 0} (f g : ℕ → List R) (moved : List ℕ) → ((j : ℕ) → is_listed moved j ≡ true → f j ≡ g j) → flat_map f moved ≡ flat_map g moved
same_rows f g [] same = refl
same_rows f g (first ∷ moved) same =
    ap (λ rows. rows ++ flat_map f moved) (same first (among_head first moved)) ∙ ap (λ rows. g first ++ rows) (same_rows f g moved (λ j e. same j (among_rest first moved j e)))

-- a level that is kept has no row
no_row : (tick j : ℕ) (old new state : ℤ) → new ≡ old → row_of tick j old new state ≡ []
no_row tick j old new state kept =
    let test : int_eq old new ≡ true = (Decides-int_eq old new).1 (sym kept) in
    ap (λ b. if b then [] else record { tick = tick; kind = kind.Level; var = j; level = new; state = state } ∷ []) test

pub moved_inside : (n : ℕ) (moved : List ℕ) → AreRisingBelow n moved → (j : ℕ) → is_listed moved j ≡ true → j < n
moved_inside n moved numbers j e = let at = index_of moved j e in omega (arith, at.2, numbers.below at.0 0 at.1)

module _ (tick : ℕ) (lines : List Line) (moved : List ℕ) (numbers : AreRisingBelow (length lines) moved) where
  -- the first moved state past a limit on arrival is the first of all
  pub past_on_arrival : (first : Option ℕ) → ((j : ℕ) → j < length lines → is_listed moved j ≡ false → IsWithin 88 (state_at (line_at lines j) tick)) →
      IsFirstOf (λ j. exceeds 88 (state_at (line_at lines j) tick)) moved first → first ≡ first_exceeding 88 (states_at lines tick)
  past_on_arrival first small found =
      first_of_all (pos 0) (exceeds 88) (λ j. exceeds 88 (state_at (line_at lines j) tick)) (states_at lines tick) moved first
      (subst (λ n. AreRisingBelow n moved) (sym (length-states_at lines tick)) numbers)
      (λ j e. ap (exceeds 88) (int_at-states_at lines tick j (moved_inside (length lines) moved numbers j e)))
      (λ j h e.
      let inside : j < length lines = omega (arith, h, length-states_at lines tick) in
      ap (exceeds 88) (int_at-states_at lines tick j inside) ∙ within-passes 88 (state_at (line_at lines j) tick) (small j inside e))
      found

  -- where no state exceeded its limit on arrival, and no number before did, none does
  pub arrived_within : (before x : List ℤ) → IsWritten (pos 0) (λ j z. z ≡ state_at (line_at lines j) tick) moved before x → All (IsWithin 88) before → first_exceeding 88 (states_at lines tick) ≡ None →
      All (IsWithin 88) x
  arrived_within before x at_arrival small none = λ j z h. subst (IsWithin 88) (get_or_default x j (pos 0) z h) (by_among j h (cases_Bool (is_listed moved j)))
    where
      by_among : (j : ℕ) → j < length x → (is_listed moved j ≡ true) ⊎ (is_listed moved j ≡ false) → IsWithin 88 (int_at x j)
      by_among j h (inl e) =
          let inside : j < length lines = moved_inside (length lines) moved numbers j e in
          let known : j < length (states_at lines tick) = omega (arith, inside, length-states_at lines tick) in
          subst (IsWithin 88) (int_at-states_at lines tick j inside ∙ sym (at_arrival.each j e)) (all_within 88 (states_at lines tick) none j (pos 0) known)
      by_among j h (inr e) = subst (IsWithin 88) (sym (at_arrival.others j e)) (small j (pos 0) (omega (arith, h, at_arrival.as_many)))

module _ (m : Machine) (moved : List ℕ) (x old fresh : List ℤ) (numbers : AreRisingBelow (state_count m) moved) (many : length old ≡ state_count m) (off : DiffersOnlyAt moved old fresh) where
  -- the first moved state whose level passes a limit is the first of all
  pub levels_over : (first : Option ℕ) → All (IsWithin 43) old → IsFirstOf (λ j. exceeds 43 (int_at fresh j)) moved first → first ≡ first_exceeding 43 fresh
  levels_over first small found =
      let all : state_count m ≡ length fresh = sym (off.as_many ∙ many) in
      first_of_all (pos 0) (exceeds 43) (λ j. exceeds 43 (int_at fresh j)) fresh moved first (subst (λ n. AreRisingBelow n moved) all numbers) (λ j e. refl)
      (λ j h e. ap (exceeds 43) (off.others j e) ∙ within-passes 43 (int_at old j) (small j (pos 0) (omega (arith, h, off.as_many))))
      found

  module _ (states : List ℤ) (are : AreMovedTo m moved x old states) where
    -- all new levels are allowed
    pub levels_allowed : (Rule : ℤ → ℤ → ℤ → ℤ → Type 0) → ((j : ℕ) → is_listed moved j ≡ true → IsNextLevel Rule m j (int_at x j) (int_at old j) (int_at fresh j)) → AreNextLevels Rule m states old fresh
    levels_allowed Rule next = record { one_each = off.as_many ∙ many; each = λ j h. by_among j h (cases_Bool (is_listed moved j)) }
      where
        by_among : (j : ℕ) → j < state_count m → (is_listed moved j ≡ true) ⊎ (is_listed moved j ≡ false) → IsNextLevel Rule m j (int_at states j) (int_at old j) (int_at fresh j)
        by_among j h (inl e) = subst (λ z. IsNextLevel Rule m j z (int_at old j) (int_at fresh j)) (sym (are.own j e)) (next j e)
        by_among j h (inr e) = near_holds (is_within_quantum m j (int_at states j) (int_at old j)) (int_at fresh j ≡ int_at old j) (Rule _ (int_at states j) (int_at old j) (int_at fresh j)) (are.near j h e) (off.others j e)

    -- the rows of the moved states are those of all
    pub rows_of_moved : (tick : ℕ) → flat_map (level_row tick old fresh x) moved ≡ level_rows tick old fresh states
    rows_of_moved tick =
        let row = level_row tick old fresh states in
        same_rows (level_row tick old fresh x) row moved (λ j e. ap (row_of tick j (int_at old j) (int_at fresh j)) (sym (are.own j e)))
        ∙ sym (rows_among row (length states) 0 moved numbers.rising
        (λ j e. (omega arith, omega (arith, moved_inside (state_count m) moved numbers j e, are.as_many)))
        (λ j h e. no_row tick j (int_at old j) (int_at fresh j) (int_at states j) (off.others j e)))

-- levels of which only those of moved states are written
pub written_off : (moved : List ℕ) (Has : ℕ → ℤ → Type 0) (old before fresh : List ℤ) → before ≡ old → IsWritten (pos 0) Has moved before fresh → DiffersOnlyAt moved old fresh
written_off moved Has old before fresh same written = record {
  as_many = written.as_many ∙ ap length same;
  others = λ j e. written.others j e ∙ ap (λ (xs : List ℤ). int_at xs j) same;
}
