-- From a snapshot to the next event step.
use Rattle.qss_order2.proofs.Common
use Common.{ℕ, ℤ, ◌%◌, ◌*ℤ◌, ◌+ℤ◌, ◌+◌, ◌<◌, ◌==◌, ◌||◌, ◌∙◌, ◌≡◌, ◌≤◌, ap, arith, Bool, cases_eq}
use Common.{cases_lt, eqb-no, eqb-yes, false, floor_of, if◌then◌else◌, inl, inr, int_at}
use Common.{int_at-tabulate, is_due, is_limit_check, is_requantization, IsDue2, IsMovedOn}
use Common.{IsNextEvent, leaves_quantum, level_unit, levels_after, limit_check_period, List}
use Common.{list_any, Machine, moved_level, moved_state, next_levels, next_states, None, Option}
use Common.{or_left, or_right, pos, range_with_len, refl, second_snapshot_after, SecondSnapshot}
use Common.{Some, state_count, subst, suc, sym, true, zero}
use Rattle.qss_order2.proofs.EventFree.{state_later, level_later}
use Rattle.qss_order2.proofs.DueTicks.{dues_event_free, due_leaves, undue_stays}
use Rattle.qss_order2.proofs.Tables.{same_table}

-- a test that one of some numbers passes
any_of : (p : ℕ → Bool) (first count j : ℕ) → first ≤ j → j < first + count → p j ≡ true →
    list_any p (range_with_len first count) ≡ true
any_of p first zero j low high leaving = absurd (omega arith)
any_of p first (suc count) j low high leaving = elim (cases_eq first j) [
  | inl e ↦ or_left (p first) (list_any p (range_with_len (first + 1) count)) (ap p e ∙ leaving)
  | inr other ↦ or_right (p first) (list_any p (range_with_len (first + 1) count)) (any_of p
      (first + 1) count j (omega (arith, low, other)) (omega (arith, high)) leaving)
]

module _ (m : Machine) (tick : ℕ) (w : SecondSnapshot) (due : ℕ → Option ℕ) (left : ℕ →
    Bool) (k : ℕ) (next : IsNextEvent m tick w due left (suc k)) where
  leaves_is : (j : ℕ) → j < state_count m → is_due (due j) (suc k) ≡ leaves_quantum m
      (second_snapshot_after m w k) j
  leaves_is j h = by_due (due j) refl
    where
      stays : (found : Option ℕ) → due j ≡ found → ((d : ℕ) → found ≡ Some d → suc k < d) →
          leaves_quantum m (second_snapshot_after m w k) j ≡ false
      stays found e later = undue_stays m w next.reach k j found h (rw e at (next.each j h)) later
          next.within

      later : (d t : ℕ) → Some d ≡ Some t → suc k < d → suc k < t
      later d t same less = let is : d ≡ t = cc in omega (arith, is, less)

      by_due : (found : Option ℕ) → due j ≡ found → is_due found (suc k) ≡ leaves_quantum m
          (second_snapshot_after m w k) j
      by_due None e = sym (stays None e (λ d f. absurd (cc)))
      by_due (Some d) e = elim (cases_eq d (suc k)) [
        | inl f ↦ eqb-yes d (suc k) f ∙ sym (due_leaves m w next.reach k j h (subst (IsDue2 m w
            next.reach j) (e ∙ ap (λ (n : ℕ). Some n) f) (next.each j h)))
        | inr other ↦ eqb-no d (suc k) other ∙ sym (stays (Some d) e (λ t same. later d t same
            (omega (arith, next.none_before j d h e, other))))
      ]

  flags_are : (j : ℕ) → j < state_count m → left j ≡ leaves_quantum m (second_snapshot_after m w k)
      j
  flags_are j h = next.flags j h ∙ leaves_is j h

  states_are : (second_snapshot_after m w (suc k)).states ≡ next_states m
      (second_snapshot_after m w k)
  states_are = sym (same_table (state_count m) _ _ (state_later m w k))

  levels_are : levels_after m w left (suc k) ≡ next_levels m (second_snapshot_after m w k)
  levels_are =
      let n = state_count m in
      let later = second_snapshot_after m w (suc k) in
      same_table n (λ j. if left j then floor_of (int_at later.states j) (level_unit m)
      else int_at later.levels j)
      (λ j. if leaves_quantum m (second_snapshot_after m w k) j then floor_of
      (moved_state m (second_snapshot_after m w k) j) (level_unit m) else moved_level
      (second_snapshot_after m w k) j)
      (λ j h.
      ap (λ (b : Bool). if b then floor_of (int_at later.states j) (level_unit m)
      else int_at later.levels j) (flags_are j h)
      ∙ ap (λ (x : ℤ). if leaves_quantum m (second_snapshot_after m w k) j then floor_of x
      (level_unit m) else int_at later.levels j)
      (ap (λ (xs : List ℤ). int_at xs j) states_are
      ∙ int_at-tabulate n (moved_state m (second_snapshot_after m w k)) j h)
      ∙ ap (λ (x : ℤ). if leaves_quantum m (second_snapshot_after m w k) j then floor_of
      (moved_state m (second_snapshot_after m w k) j) (level_unit m) else x)
      (int_at-tabulate n (λ i. int_at w.levels i +ℤ pos (suc k) *ℤ int_at w.changes i) j h
      ∙ sym (level_later m w k j h)))

  looks_are : is_limit_check m (tick + k + 1) (is_requantization m (second_snapshot_after m w k))
      ≡ true
  looks_are =
      let check = (tick + k + 1) % limit_check_period == 0 in
      let end = tick + k + 1 == m.last in
      let leaving = is_requantization m (second_snapshot_after m w k) in
      elim (cases_lt (suc k) next.reach) [
        | inl low ↦
            let found = next.reached low in
            let leaves = due_leaves m w next.reach k found.0 found.1 (subst (IsDue2 m w next.reach
            found.0) found.2 (next.each found.0 found.1)) in
            or_right (check || end) leaving (any_of (leaves_quantum m (second_snapshot_after m w k))
            0
            (state_count m) found.0 (omega arith) (omega (arith, found.1)) leaves)
        | inr high ↦
            let here : tick + next.reach ≡ tick + k + 1 = omega (arith, high, next.within) in
            elim next.is_window.ends [
              | inl last ↦ or_left (check || end) leaving (or_right check end (eqb-yes
                  (tick + k + 1) m.last (sym here ∙ last)))
              | inr multiple ↦ or_left (check || end) leaving (or_left check end (eqb-yes
                  ((tick + k + 1) % limit_check_period) 0 (subst (λ t. t % limit_check_period ≡ 0)
                  here multiple)))
            ]
      ]

  moved_from : (states levels : List ℤ) → states ≡ (second_snapshot_after m w (suc k)).states →
      levels ≡ levels_after m w left (suc k) → IsMovedOn m tick w k left states levels
  moved_from states levels of_states of_levels =
      let window = next.is_window in
      record {
        are_event_free = dues_event_free m tick w next.reach k due next.each (λ j d h e. omega (
          arith,
          next.none_before j d h e,
        )) (omega (arith, next.within)) (omega (arith, next.within, window.in_time))
            (omega (arith, next.within, window.no_look));
        in_time = omega (arith, next.within, window.in_time);
        flags = flags_are;
        states_there = of_states ∙ states_are;
        levels_there = of_levels ∙ levels_are;
        looks = looks_are;
      }

-- the next event is later
pub look_later : (m : Machine) (tick : ℕ) (w : SecondSnapshot) (due : ℕ → Option ℕ) (left : ℕ →
    Bool) (ticks : ℕ) → IsNextEvent m tick w due left ticks → 0 < ticks
look_later m tick w due left zero next =
    let found = next.reached (omega (arith, next.is_window.some)) in
    let first = subst (IsDue2 m w next.reach found.0) found.2 (next.each found.0 found.1) in
    absurd (omega (arith, first.later))
look_later m tick w due left (suc k) next = omega arith

pub moved_on : (m : Machine) (tick : ℕ) (w : SecondSnapshot) (due : ℕ → Option ℕ) (left : ℕ →
    Bool) (ticks : ℕ) (states levels : List ℤ) → IsNextEvent m tick w due left ticks →
    states ≡ (second_snapshot_after m w ticks).states → levels ≡ levels_after m w left ticks →
    (k : ℕ) × (ticks ≡ suc k) × IsMovedOn m tick w k left states levels
moved_on m tick w due left zero states levels next of_states of_levels =
    absurd (omega (arith, look_later m tick w due left zero next))
moved_on m tick w due left (suc k) states levels next of_states of_levels =
    (k, refl, moved_from m tick w due left k next states levels of_states of_levels)
