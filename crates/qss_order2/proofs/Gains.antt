-- New levels shift the slopes of the rows that read them.
use Rattle.qss_order2.proofs.Common
use Common.{ℕ, ℤ, ◌*ℤ◌, ◌+ℤ◌, ◌+◌, ◌-ℤ◌, ◌-◌, ◌<◌, ◌^◌, ◌∙◌, ◌≡◌, ◌≤◌, ap, arith, Bool, cases_Bool}
use Common.{false, inl, inr, int_at, int_at-tabulate, ints, IsQuiet, IsWithin, level_on}
use Common.{level_shift, levels_on, List, Machine, Motion, motion_at, Moves, Place, place_in, pos}
use Common.{product_bound, rise_at, rise_on, second_snapshot_after, snapshot_of, start_coefficient}
use Common.{state_count, sum_below-same, sum_below-zero, sym, unsigned_abs, zero-*ℤ}
use Rattle.qss_order2.specs.Stores.{FollowsLevels}
use Rattle.qss_order2.proofs.EventFree.{rise_later}
use Rattle.qss_order2.proofs.ColumnSums.{gain, gain_is}
use Rattle.qss_order2.proofs.Motions.{at_levels, levels_are, levels_later, rises_later}

-- the slopes of all states follow the levels along their lines
pub follows_levels : (m : Machine) (q : Motion) (tick : ℕ) → Moves m (motion_at m q tick) →
    ((j : ℕ) → j < state_count m → (place_in q.places.items j).since ≤ tick) → (k : ℕ) →
    FollowsLevels m (tick + k) q
follows_levels m q tick moves past k j h =
    let n = state_count m in
    let v = motion_at m q tick in
    let line = λ (i : ℕ). int_at v.levels i +ℤ pos k *ℤ int_at v.changes i in
    let same : levels_on n q.places.items q.changes.items (tick + k) ≡ (second_snapshot_after m
    (snapshot_of v) k).levels =
    levels_are n q.places.items q.changes.items (tick + k) line (λ i low.
    levels_later m q tick moves k i low (past i low) ∙ int_at-tabulate n line i low) in
    rises_later m q tick moves k j h (past j h) ∙ sym (rise_later m (snapshot_of v) k j)
    ∙ ap (rise_at m j) (sym same)

-- the slope at a tick is small
pub rise_on_small : (p : Place) (rise bend : ℤ) (tick : ℕ) → tick ≤ p.since + 65536 →
    IsWithin 94 rise → IsWithin 94 bend → IsWithin 126 (rise_on p rise bend tick)
rise_on_small p rise bend tick near small flat =
    let few : unsigned_abs (pos (tick - p.since)) ≤ 65536 = omega (arith, near) in
    let product = product_bound (pos (tick - p.since)) bend 65536 (2 ^ 94) few flat in
    omega (arith, ints, product, small)

module _ (m : Machine) (i : ℕ) (ps qs : List Place) where
  -- where the ticks of all places stay, the slope at new levels differs by the shift
  pub risen_by : (cs : List ℤ) (tick : ℕ) → ((k : ℕ) → k < state_count m →
      (place_in qs k).since ≡ (place_in ps k).since) →
      rise_at m i (levels_on (state_count m) qs cs tick) ≡ rise_at m i (levels_on (state_count m)
      ps cs tick) +ℤ level_shift m i ps qs
  risen_by cs tick same =
      let n = state_count m in
      let c : ℕ → ℤ = start_coefficient m i in
      let old : ℕ → ℤ = int_at (levels_on n ps cs tick) in
      let new : ℕ → ℤ = int_at (levels_on n qs cs tick) in
      let each : (k : ℕ) → k < n → c k *ℤ (new k -ℤ old k) ≡ c k *ℤ ((place_in qs k).level -ℤ
      (place_in ps k).level) = λ k h.
      ap (λ z. c k *ℤ z)
      (ap (λ z. z -ℤ old k) (at_levels n qs cs tick k h)
      ∙ ap (λ z. level_on (place_in qs k) (int_at cs k) tick -ℤ z) (at_levels n ps cs tick k h)
      ∙ ap (λ (t : ℕ). ((place_in qs k).level +ℤ pos (tick - t) *ℤ int_at cs k) -ℤ level_on
      (place_in ps k) (int_at cs k) tick) (same k h)
      ∙ apart (place_in qs k).level (place_in ps k).level (pos (tick - (place_in ps k).since)
      *ℤ int_at cs k)) in
      let sums : gain n c old new ≡ level_shift m i ps qs = sum_below-same n _ _ each in
      omega (arith, ints, gain_is n c old new, sums)
    where
      apart : (a b d : ℤ) → (a +ℤ d) -ℤ (b +ℤ d) ≡ a -ℤ b
      apart a b d = omega (arith, ints)

  -- the slope of a quiet row does not shift
  pub quiet_shift : (left : ℕ → Bool) → IsQuiet m left i → ((k : ℕ) → k < state_count m →
      left k ≡ false → (place_in qs k).level ≡ (place_in ps k).level) →
      level_shift m i ps qs ≡ pos 0
  quiet_shift left quiet same =
      sum_below-same (state_count m) (λ k. start_coefficient m i k *ℤ ((place_in qs k).level -ℤ
      (place_in ps k).level)) (λ k. pos 0)
      (λ k h. elim (cases_Bool (left k)) [
        | inl leaves ↦ ap (λ z. z *ℤ ((place_in qs k).level -ℤ (place_in ps k).level))
            (quiet.reads_none k h leaves) ∙ zero-*ℤ ((place_in qs k).level -ℤ (place_in ps k).level)
        | inr stays ↦ ap (λ z. start_coefficient m i k *ℤ (z -ℤ (place_in ps k).level))
            (same k h stays) ∙ nothing (start_coefficient m i k) (place_in ps k).level
      ])
      ∙ sum_below-zero (state_count m)
    where
      nothing : (c x : ℤ) → c *ℤ (x -ℤ x) ≡ pos 0
      nothing c x = let none : x -ℤ x ≡ pos 0 = omega (arith, ints) in ap (λ z. c *ℤ z) none
          ∙ omega (arith, ints)
