-- What stays of a row that reads none of the requantized states.
use Rattle.qss_order2.proofs.Common
use Common.{ℕ, ℤ, ◌*ℤ◌, ◌+ℤ◌, ◌<◌, ◌∙◌, ◌≡◌, abs_of, ap, arith, bend_at, Bool, cases_Bool, false}
use Common.{floor_of, if-false, if◌then◌else◌, inl, inr, int_at, int_at-tabulate, ints, IsQuiet}
use Common.{level_unit, levels_after, List, Machine, pos, rise_at, rise_change_weight}
use Common.{second_snapshot_after, SecondSnapshot, start_coefficient, state_count, sum_below-same}
use Common.{sym, zero-*ℤ}
use Rattle.qss_order2.proofs.EventFree.{rise_later}

module _ (m : Machine) (left : ℕ → Bool) (j : ℕ) (quiet : IsQuiet m left j) where
  module _ (xs ys : List ℤ) (same : (i : ℕ) → i < state_count m → left i ≡ false →
      int_at xs i ≡ int_at ys i) where
    term_same : (i : ℕ) → i < state_count m → start_coefficient m j i *ℤ int_at xs i ≡
        start_coefficient m j i *ℤ int_at ys i
    term_same i h = elim (cases_Bool (left i)) [
      | inl leaves_quantum ↦
          let none : start_coefficient m j i ≡ pos 0 = quiet.reads_none i h leaves_quantum in
          ap (λ z. z *ℤ int_at xs i) none ∙ zero-*ℤ (int_at xs i) ∙ sym (zero-*ℤ (int_at ys i))
          ∙ sym (ap (λ z. z *ℤ int_at ys i) none)
      | inr stays ↦ ap (λ z. start_coefficient m j i *ℤ z) (same i h stays)
    ]

    pub same_bend : bend_at m j xs ≡ bend_at m j ys
    same_bend = sum_below-same (state_count m) (λ i. start_coefficient m j i *ℤ int_at xs i)
        (λ i. start_coefficient m j i *ℤ int_at ys i) term_same

    pub same_bend_weight : rise_change_weight m xs j ≡ rise_change_weight m ys j
    same_bend_weight =
        sum_below-same (state_count m) (λ i. abs_of (start_coefficient m j i *ℤ int_at xs i))
        (λ i. abs_of (start_coefficient m j i *ℤ int_at ys i)) (λ i h. ap abs_of (term_same i h))

    pub same_rise : rise_at m j xs ≡ rise_at m j ys
    same_rise = omega (arith, ints, same_bend)

  -- levels of states that stayed go on along their lines
  level_stays : (w : SecondSnapshot) (ticks i : ℕ) → i < state_count m → left i ≡ false →
      int_at (levels_after m w left ticks) i ≡ int_at (second_snapshot_after m w ticks).levels i
  level_stays w ticks i h stays =
      let v = second_snapshot_after m w ticks in
      int_at-tabulate (state_count m) (λ i. if left i then floor_of (int_at v.states i)
      (level_unit m) else int_at v.levels i) i h
      ∙ if-false (left i) (floor_of (int_at v.states i) (level_unit m)) (int_at v.levels i) stays

  -- so does the rise
  pub rise_stays : (w : SecondSnapshot) (ticks : ℕ) → rise_at m j (levels_after m w left ticks)
      ≡ rise_at m j w.levels +ℤ pos ticks *ℤ bend_at m j w.changes
  rise_stays w ticks = same_rise (levels_after m w left ticks)
      (second_snapshot_after m w ticks).levels (level_stays w ticks) ∙ rise_later m w ticks j
