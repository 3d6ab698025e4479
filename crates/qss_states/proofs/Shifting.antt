-- Sums of rows where states take their levels one after another.
use Rattle.qss_states.proofs.Common
use Common.{[], ℕ, ℤ, ◌*ℤ◌, ◌+ℤ◌, ◌+◌, ◌-ℤ◌, ◌<◌, ◌==◌, ◌^◌, ◌∙◌, ◌∷◌, ◌≡◌, ◌≢◌, ◌≤◌, abs_of, ap}
use Common.{AreRisingBelow, arith, cases_Bool, DiffersOnlyAt, eqb-true, exceeds_row_limits, false}
use Common.{get_or, get_or-set_other, get_or-set_same, HandlerArrival, HandlerResult, inl, inr}
use Common.{int_at, int_at-tabulate, is_listed, IsResultOf, IsSumAfterLevelChange, IsWithin}
use Common.{IsWritten, length, length-map, length-set, Line, List, Machine, mode_coefficient}
use Common.{mode_coefficient_at, NewLevels, None, or_cases, or_parts, pos, reading_coefficients}
use Common.{reading_rows, refl, row_at, row_coefficient, row_is_light, row_reads, set, Slope}
use Common.{slope_at, SlopeRow, state_count, subst, sum_at, sym, tabulate, take, take_more}
use Common.{taken_by, true, unread_slope, weight_at}
use Rattle.std.proofs.Common.{fold}
use Rattle.std.proofs.lemmas.List.{get_or-map}
use Rattle.std.proofs.lemmas.List.Sums.{fold-append}
use Rattle.std.specs.Prelude.{unsigned_abs, position}
use Rattle.mu_num.proofs.Tests.{eqb-false}
use Rattle.qss_machine.proofs.Distinct.{coefficient_small}
use Rattle.qss_states.specs.declared.row_sum_changes.RowSum.{RowSum}
use Rattle.qss_states.specs.declared.row_sum_changes.RowSum.TheVariants.{Weight}
use Rattle.qss_states.specs.Variables.{AreLevelsOf}
use Rattle.qss_states.specs.EventContexts.{AreNewLevelsAt, CanUpdateAfterHandlers, IsHandlerArrival}
use Rattle.qss_states.specs.EventContexts.{IsHandlerResult}
use Rattle.qss_machine.proofs.Among.{among_rows}
use Rattle.qss_events.proofs.Changes.{slopes_follow_levels}
use Rattle.qss_events.proofs.Firsts.{same_lists}
use Rattle.qss_machine.proofs.Unread.{unread_weight}
use Rattle.qss_machine.proofs.KeptReaders.{reading_numbers}

-- ---- the coefficients of a state in the rows that read it

module _ (m : Machine) (state : ℕ) (rows : List ℕ) where
  pub reader_numbers : rows ≡ reading_rows m state → AreRisingBelow (state_count m) rows
  reader_numbers are = subst (AreRisingBelow (state_count m)) (sym are) (reading_numbers m state (state_count m) refl)

  module _ (coefficients : List ℤ) (rows_are : rows ≡ reading_rows m state) (coefficients_are : coefficients ≡ reading_coefficients m state) where
    abbrev own : ℕ → ℤ
    own row = row_coefficient m row state

    pub readers_as_many : length coefficients ≡ length rows
    readers_as_many = ap length coefficients_are ∙ length-map (reading_rows m state) own ∙ sym (ap length rows_are)

    -- a reader's coefficient is at its index
    pub own_coefficient : (place : ℕ) → place < length rows → int_at coefficients place ≡ row_coefficient m (get_or rows place 0) state
    own_coefficient place inside =
        ap (λ (zs : List ℤ). int_at zs place) coefficients_are
        ∙ get_or-map own (reading_rows m state) place 0 (pos 0) (subst (λ (ks : List ℕ). place < length ks) rows_are inside)
        ∙ ap (λ (ks : List ℕ). row_coefficient m (get_or ks place 0) state) (sym rows_are)

pub small_coefficient : (m : Machine) (row var : ℕ) → row < state_count m → IsWithin 44 (row_coefficient m row var)
small_coefficient m row var h =
    let none : SlopeRow = record { entries = []; products = []; beta = pos 0 } in
    let here = m.has_rows.each row none (omega (arith, h, m.has_rows.one_each)) in
    coefficient_small (row_at m row).entries var here.entries.rising here.coefficients

-- ---- levels that are taken one after another

-- these states have their levels, and the others those from before
abbrev pub levels_along : List ℕ → List ℤ → List ℤ → List ℤ
levels_along moved levels old = fold (λ at j. set at j (int_at levels j)) old moved

pub along_more : (moved : List ℕ) (levels old : List ℤ) (i : ℕ) → i < length moved →
    levels_along (take (i + 1) moved) levels old ≡ set (levels_along (take i moved) levels old) (get_or moved i 0) (int_at levels (get_or moved i 0))
along_more moved levels old i h =
    ap (λ (js : List ℕ). levels_along js levels old) (take_more moved i 0 h)
    ∙ fold-append (λ (at : List ℤ) (j : ℕ). set at j (int_at levels j)) old (take i moved) (get_or moved i 0 ∷ [])

pub length-along : (moved : List ℕ) (levels old : List ℤ) → length (levels_along moved levels old) ≡ length old
length-along [] levels old = refl
length-along (j ∷ moved) levels old = length-along moved levels (set old j (int_at levels j)) ∙ length-set old j (int_at levels j)

pub along_other : (moved : List ℕ) (levels old : List ℤ) (j : ℕ) → is_listed moved j ≡ false → int_at (levels_along moved levels old) j ≡ int_at old j
along_other [] levels old j none = refl
along_other (i ∷ moved) levels old j none =
    let parts = or_parts (i == j) (is_listed moved j) none in
    let other : j ≢ i = λ e. eqb-false i j parts.0 (sym e) in
    along_other moved levels (set old i (int_at levels i)) j parts.1 ∙ get_or-set_other old i j (int_at levels i) (pos 0) other

along_own : (moved : List ℕ) (levels old : List ℤ) (j : ℕ) → j < length old → is_listed moved j ≡ true → int_at (levels_along moved levels old) j ≡ int_at levels j
along_own [] levels old j h among = absurd (cc)
along_own (i ∷ moved) levels old j h among =
    let next : List ℤ = set old i (int_at levels i) in
    let inside : j < length next = omega (arith, h, length-set old i (int_at levels i)) in
    elim (cases_Bool (is_listed moved j)) [
      | inl later ↦ along_own moved levels next j inside later
      | inr last ↦
          along_other moved levels next j last
          ∙ elim (or_cases (i == j) (is_listed moved j) among) [
            | inl same ↦
                let e : i ≡ j = eqb-true i j same in
                subst (λ (k : ℕ). int_at next k ≡ int_at levels k) e (get_or-set_same old i (int_at levels i) (pos 0) (subst (λ (k : ℕ). k < length old) (sym e) h))
            | inr later ↦ absurd (cc)
          ]
    ]

-- where all have taken theirs, the levels are the new ones
pub along_all : (moved : List ℕ) (levels old : List ℤ) → DiffersOnlyAt moved old levels → levels_along moved levels old ≡ levels
along_all moved levels old off =
    let many : length (levels_along moved levels old) ≡ length levels = length-along moved levels old ∙ sym off.as_many in
    same_lists (pos 0) (levels_along moved levels old) levels many
    (λ j h. elim (cases_Bool (is_listed moved j)) [
      | inl among ↦ along_own moved levels old j (omega (arith, h, off.as_many)) among
      | inr none ↦ along_other moved levels old j none ∙ sym (off.others j none)
    ])

-- new levels at the discrete values before handlers
pub at_before : {at : NewLevels} {left : HandlerResult} {lines : List Line} → CanUpdateAfterHandlers at left lines → AreNewLevelsAt at left.before.now
at_before can = record { new = can.new; as_many = can.handled.many_before; small = can.handled.assigned.small_before }

-- and at those after them
pub levels_after : {at : NewLevels} {left : HandlerResult} {lines : List Line} → CanUpdateAfterHandlers at left lines → AreLevelsOf at.machine.now at.levels.now left.discretes.now
levels_after can = record {
  levels = can.new.levels;
  discretes = can.handled.values.discretes;
  small_levels = can.new.small_levels;
  small_discretes = can.handled.values.small_discretes;
}

-- the result of handlers is within the limits of the machine
pub handled_fits : (at : HandlerArrival) (left : HandlerResult) → IsResultOf at left →
    IsHandlerArrival at → IsHandlerResult at.machine.now left
handled_fits at left is ready =
    record {
      assigned = rw (is.assigned, is.before, is.discretes) ready.assigned;
      many_before = ap length is.before ∙ ready.before;
      values = rw (is.states, is.discretes) ready.values;
    }

-- ---- sums that follow

-- where no row is above its limits, no sum is past that of absolute row sums
pub sums_small : (kind : RowSum) (m : Machine) (levels discretes sums : List ℤ) → position (exceeds_row_limits m levels discretes) m.rows ≡ None →
    sums ≡ tabulate (state_count m) (λ j. sum_at kind m j levels discretes) → (j : ℕ) → j < state_count m → IsWithin 88 (int_at sums j)
sums_small kind m levels discretes sums light own j h =
    let is : int_at sums j ≡ sum_at kind m j levels discretes = ap (λ (xs : List ℤ). int_at xs j) own ∙ int_at-tabulate (state_count m) (λ k. sum_at kind m k levels discretes) j h in
    subst (IsWithin 88) (sym is) (by_kind kind)
  where
    by_kind : (k : RowSum) → IsWithin 88 (sum_at k m j levels discretes)
    by_kind Slope = (row_is_light m levels discretes light j h).slope
    by_kind Weight = (row_is_light m levels discretes light j h).weight

-- a sum changes by its coefficient in the current mode times the change of a level, and where it
-- does not read the state not at all
sum_follows : (kind : RowSum) (m : Machine) (j : ℕ) (levels discretes : List ℤ) (i : ℕ) (level : ℤ) → length levels ≡ state_count m → i < length levels →
    sum_at kind m j (set levels i level) discretes
    ≡ sum_at kind m j levels discretes +ℤ taken_by kind (mode_coefficient_at m j i discretes) *ℤ (taken_by kind level -ℤ taken_by kind (int_at levels i))
sum_follows Slope m j levels discretes i level many h =
    slopes_follow_levels.slope m.f (row_at m j) levels discretes i level h
    ∙ ap (λ (n : ℕ). slope_at m j levels discretes +ℤ mode_coefficient m.f n (row_at m j) discretes i *ℤ (level -ℤ int_at levels i)) many
sum_follows Weight m j levels discretes i level many h =
    slopes_follow_levels.weight m.f (row_at m j) levels discretes i level h
    ∙ ap (λ (n : ℕ). weight_at m j levels discretes +ℤ abs_of (mode_coefficient m.f n (row_at m j) discretes i) *ℤ (abs_of level -ℤ abs_of (int_at levels i))) many

unread_sum : (kind : RowSum) (m : Machine) (j : ℕ) (moved : List ℕ) (old new discretes : List ℤ) → ((i : ℕ) → is_listed moved i ≡ true → row_reads i (row_at m j) ≡ false) → DiffersOnlyAt moved old new →
    sum_at kind m j new discretes ≡ sum_at kind m j old discretes
unread_sum Slope m j moved old new discretes unread off = unread_slope m.f (row_at m j) moved old new discretes unread off
unread_sum Weight m j moved old new discretes unread off = unread_weight m.f (row_at m j) moved old new discretes unread off

module _ (kind : RowSum) (m : Machine) (state : ℕ) (at discretes before after : List ℤ) (many : length at ≡ state_count m) (known : state < state_count m) (new : ℤ)
    (written : IsWritten (pos 0) (IsSumAfterLevelChange kind m state (taken_by kind (int_at at state)) (taken_by kind new) discretes before) (reading_rows m state) before after) where
  -- the sums are those where one more state has taken its level
  pub sums_follow : (j : ℕ) → j < state_count m → int_at before j ≡ sum_at kind m j at discretes → int_at after j ≡ sum_at kind m j (set at state new) discretes
  sums_follow j h own = elim (cases_Bool (is_listed (reading_rows m state) j)) [
    | inl reads ↦
        (written.each j reads).0
        ∙ ap (λ z. z +ℤ taken_by kind (mode_coefficient_at m j state discretes) *ℤ (taken_by kind new -ℤ taken_by kind (int_at at state))) own
        ∙ sym (sum_follows kind m j at discretes state new many (omega (arith, known, many)))
    | inr none ↦
        let unread : row_reads state (row_at m j) ≡ false = sym (among_rows m state j h) ∙ none in
        let off : DiffersOnlyAt (state ∷ []) at (set at state new) = record {
          as_many = length-set at state new;
          others = λ i other. get_or-set_other at state i new (pos 0) (λ e. eqb-false state i ((or_parts (state == i) false other).0) (sym e));
        } in
        written.others j none ∙ own
        ∙ sym (unread_sum kind m j (state ∷ []) at (set at state new) discretes
        (λ i among. elim (or_cases (state == i) false among) [
          | inl same ↦ subst (λ (k : ℕ). row_reads k (row_at m j) ≡ false) (eqb-true state i same) unread
          | inr never ↦ absurd (cc)
        ]) off)
  ]

  pub sums_near : (j : ℕ) → unsigned_abs (int_at after j) ≤ unsigned_abs (int_at before j) + 2 ^ 88
  sums_near j = elim (cases_Bool (is_listed (reading_rows m state) j)) [
    | inl reads ↦ (written.each j reads).1
    | inr none ↦ let same : int_at after j ≡ int_at before j = written.others j none in omega (arith, ap unsigned_abs same)
  ]
