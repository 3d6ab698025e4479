-- An event step is the tick after event-free ones.
use Rattle.qss_order2.proofs.Common
use Common.{[], ℕ, ℤ, ◌*ℤ◌, ◌++◌, ◌+◌, ◌-ℤ◌, ◌<ℤ◌, ◌<◌, ◌∙◌, ◌∷◌, ◌≡◌, ◌≤◌, ap, AreChanges, arith}
use Common.{Bool, false, finish_second_tick, first_exceeding_limit, flat_map, floor_meets, floor_of}
use Common.{HasEach, if_cases, if◌then◌else◌, int_at, int_at-tabulate, int_lt, int_lt-true, ints}
use Common.{IsMovedOn, IsNear2, IsSecondStep, IsVisit2, last_second_snapshot, leaves_quantum}
use Common.{level_row, level_unit, List, Machine, MatchBool, moved_level, moved_state, next_levels}
use Common.{next_states, not, Option, pos, range_with_len, reach_of, refl, rise_at, Row2}
use Common.{rows_of_left, second_snapshot_after, second_snapshot_unless, SecondSnapshot, slope_row}
use Common.{state_count, subst, suc, sym, tick_rows2, true, unit_positive, zero}
use Rattle.std.specs.Int.RustNames.{unsigned_abs}
use Rattle.qss_order2.proofs.RowLists.{left_rows}
use Rattle.qss_order2.proofs.Silent.{event_free_snapshots, event_free_length, event_free_last}
use Rattle.qss_order2.proofs.Silent.{event_free_leads}
use Rattle.qss_order2.proofs.Sizes.{reach_unit}
use Rattle.qss_order2.specs.declared.order2_rows.Kind2.TheVariants as kind

pub flat_same : (f g : ℕ → List Row2) (first count : ℕ) → ((j : ℕ) → first ≤ j → j < first + count →
    f j ≡ g j) → flat_map f (range_with_len first count) ≡ flat_map g (range_with_len first count)
flat_same f g first zero same = refl
flat_same f g first (suc count) same =
    ap (λ rows. rows ++ flat_map f (range_with_len (first + 1) count)) (same first (omega arith)
    (omega arith))
    ∙ ap (λ rows. g first ++ rows) (flat_same f g (first + 1) count (λ j low high.
    same j (omega arith) (omega (arith, high))))

-- a state that is rounded down is less than its reach from its level
pub floor_inside : (m : Machine) (j : ℕ) (x : ℤ) → j < state_count m →
    pos (unsigned_abs (x -ℤ level_unit m *ℤ floor_of x (level_unit m))) <ℤ reach_of m j
floor_inside m j x h =
    let f = floor_meets x (level_unit m) (unit_positive m) in
    omega (arith, ints, f.at_most, f.greatest, reach_unit m j h)

-- so is one that stays
kept_inside : (m : Machine) (w : SecondSnapshot) (j : ℕ) → leaves_quantum m w j ≡ false →
    pos (unsigned_abs (moved_state m w j -ℤ level_unit m *ℤ moved_level w j)) <ℤ reach_of m j
kept_inside m w j e =
    let gap = pos (unsigned_abs (moved_state m w j -ℤ level_unit m *ℤ moved_level w j)) in
    int_lt-true gap (reach_of m j) (not_false (int_lt gap (reach_of m j)) e)
  where
    not_false : (b : Bool) → not b ≡ false → b ≡ true
    not_false true e = refl
    not_false false e = absurd (cc)

pub next_inside : (m : Machine) (w : SecondSnapshot) (j : ℕ) → j < state_count m →
    pos (unsigned_abs (int_at (next_states m w) j -ℤ level_unit m *ℤ int_at (next_levels m w) j))
    <ℤ reach_of m j
next_inside m w j h =
    let level = λ (j : ℕ). if leaves_quantum m w j then floor_of (moved_state m w j) (level_unit m)
    else moved_level w j in
    let x : int_at (next_states m w) j ≡ moved_state m w j =
    int_at-tabulate (state_count m) (moved_state m w) j h in
    let l : int_at (next_levels m w) j ≡ level j = int_at-tabulate (state_count m) level j h in
    let own : pos (unsigned_abs (moved_state m w j -ℤ level_unit m *ℤ level j)) <ℤ reach_of m j =
    if_cases (λ z. pos (unsigned_abs (moved_state m w j -ℤ level_unit m *ℤ z)) <ℤ reach_of m j)
    (leaves_quantum m w j) (floor_of (moved_state m w j) (level_unit m)) (moved_level w j)
    (λ e. floor_inside m j (moved_state m w j) h) (λ e. kept_inside m w j e) in
    subst (λ z. pos (unsigned_abs (z -ℤ level_unit m *ℤ int_at (next_levels m w) j)) <ℤ reach_of m
    j) (sym x)
    (subst (λ z. pos (unsigned_abs (moved_state m w j -ℤ level_unit m *ℤ z)) <ℤ reach_of m j)
    (sym l) own)

module _ (Rule : ℤ → ℤ → ℤ → Type 0) (m : Machine) (tick : ℕ) (w : SecondSnapshot) (skipped : ℕ)
    (left : ℕ → Bool) (states levels : List ℤ) (moved : IsMovedOn m tick w skipped left states
    levels)
    (each : HasEach m w)
    (changes : List ℤ) (are : AreChanges Rule m (left) levels w.changes changes) where
  answers : AreChanges Rule m (leaves_quantum m (second_snapshot_after m w skipped))
      (next_levels m (second_snapshot_after m w skipped)) w.changes changes
  answers = record {
    one_each = are.one_each;
    each = λ j h.
        subst (λ b. MatchBool b (Rule (level_unit m)
        (rise_at m j (next_levels m (second_snapshot_after m w skipped))) (int_at changes j))
        (int_at changes j ≡ int_at w.changes j)) (moved.flags j h)
        (subst (λ ls. MatchBool (left j) (Rule (level_unit m) (rise_at m j ls) (int_at changes j))
        (int_at changes j ≡ int_at w.changes j)) moved.levels_there (are.each j h));
  }

  module _ (over : Option ℕ) (is_over : over ≡ first_exceeding_limit m levels changes) where
    after_handlers : second_snapshot_unless over (record {
      states = states;
      levels =
          levels;
      changes = changes;
    }) ≡ finish_second_tick m (tick + skipped + 1) (second_snapshot_after m w skipped) changes
    after_handlers =
        let v = second_snapshot_after m w skipped in
        rw (is_over, moved.levels_there, moved.states_there, moved.looks)

    pub visit : IsVisit2 Rule m tick w (event_free_snapshots m w skipped) (tick + skipped + 1)
        (second_snapshot_unless over (record {
          states = states;
          levels = levels;
          changes =
              changes;
        }))
    visit = record {
      leads = event_free_leads Rule m tick w each skipped moved.are_event_free;
      is_next = omega (arith, event_free_length Rule m tick w each skipped);
      is_step = subst (λ v. IsSecondStep Rule m (tick + skipped + 1) v (second_snapshot_unless over
          (record { states = states; levels = levels; changes = changes })))
          (sym (event_free_last Rule m tick w each skipped))
          (changes, answers, after_handlers);
    }

  -- the rows of the requantized states
  pub rows_are : (t : ℕ) (next : SecondSnapshot) → rows_of_left kind.Level t next left
      (state_count m) ≡ tick_rows2 m t (last_second_snapshot w (event_free_snapshots m w skipped))
      next
  rows_are t next =
      flat_same (left_rows kind.Level t next left) (λ j. if leaves_quantum m
      (second_snapshot_after m w skipped) j then level_row kind.Level t next j ∷ slope_row t next j
      ∷
      [] else []) 0 (state_count m)
      (λ j low high. ap (λ (b : Bool). if b then level_row kind.Level t next j ∷ slope_row t next j
      ∷ [] else []) (moved.flags j (omega (arith, high))))
      ∙ ap (λ (v : SecondSnapshot). tick_rows2 m t v next) (sym (event_free_last Rule m tick w each
      skipped))

  -- each state is near its level there
  pub near_there : IsNear2 m (record { states = states; levels = levels; changes = changes })
  near_there j h =
      let v = second_snapshot_after m w skipped in
      subst (λ (xs : List ℤ). pos (unsigned_abs (int_at xs j -ℤ level_unit m *ℤ int_at levels j))
      <ℤ reach_of m j) (sym moved.states_there)
      (subst (λ (ls : List ℤ). pos (unsigned_abs (int_at (next_states m v) j -ℤ level_unit m *ℤ
      int_at ls j)) <ℤ reach_of m j) (sym moved.levels_there) (next_inside m v j h))
