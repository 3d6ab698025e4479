-- Levels within a safe bound exceed no limit.
use Rattle.qss_order2.proofs.Common
use Common.{ℕ, ℤ, ◌*ℤ◌, ◌<◌, ◌≡◌, ◌≤ℤ◌, ◌≤◌, abs_of, arith, exceeds, int_at, ints, IsWithin, length}
use Common.{List, Machine, mul-le-mul_left, None, none_past, Option, option_or, option_or-None}
use Common.{past_levels, pos, refl, replicate, rise_weight, Some, start_coefficient, state_count}
use Common.{subst, suc, sym, unsigned_abs, unsigned_abs-mul, within-passes, zero}
use Rattle.qss_order2.proofs.Bounds.{table_within}
use Rattle.qss_order2.proofs.Sizes.{sum_from_zero}
use Rattle.qss_order2.proofs.SizeSums.{size_from_zero}
use Rattle.qss_order2.proofs.Tables.{none_is, none_of_table}
use Rattle.mu_num.proofs.Sums.{sum_below-le}

at_copies : (n i : ℕ) (z : ℤ) → i < n → int_at (replicate n z) i ≡ z
at_copies zero i z h = absurd (omega arith)
at_copies (suc n) zero z h = refl
at_copies (suc n) (suc i) z h = at_copies n i z (omega arith)

size_le : (a x : ℤ) (b : ℕ) → abs_of x ≤ℤ pos b → abs_of (a *ℤ x) ≤ℤ abs_of (a *ℤ pos b)
size_le a x b small =
    let low : unsigned_abs x ≤ b = omega (arith, ints, small) in
    omega (
      arith,
      ints,
      unsigned_abs-mul a x,
      unsigned_abs-mul a (pos b),
      mul-le-mul_left (unsigned_abs a) low,
    )

both : (a b : Option ℕ) → a ≡ None → b ≡ None → option_or a b ≡ None
both None b e f = f
both (Some var) b e f = absurd (cc)

module _ (m : Machine) (b : ℕ) (none : past_levels m (replicate (state_count m) (pos b)) ≡ None)
    (levels : List ℤ) (many : length levels ≡ state_count m)
    (small : (j : ℕ) → j < state_count m → abs_of (int_at levels j) ≤ℤ pos b) where
  abbrev all : List ℤ
  all = replicate (state_count m) (pos b)

  term_le : (j i : ℕ) → i < state_count m → abs_of (start_coefficient m j i *ℤ int_at levels i)
      ≤ℤ abs_of (start_coefficient m j i *ℤ int_at all i)
  term_le j i h =
      subst (λ z. abs_of (start_coefficient m j i *ℤ int_at levels i) ≤ℤ abs_of
      (start_coefficient m j i *ℤ z)) (sym (at_copies (state_count m) i (pos b) h))
      (size_le (start_coefficient m j i) (int_at levels i) b (small i h))

  weight_le : (j : ℕ) → j < state_count m → IsWithin 94 (rise_weight m levels j)
  weight_le j h =
      let n = state_count m in
      let own = table_within 94 n (rise_weight m all) (option_or-None _ _ none).1 j h in
      let le = sum_below-le n (λ i. abs_of (start_coefficient m j i *ℤ int_at levels i))
      (λ i. abs_of (start_coefficient m j i *ℤ int_at all i)) (term_le j) in
      let low = sum_from_zero n (λ i. abs_of (start_coefficient m j i *ℤ int_at levels i))
      (λ i. size_from_zero (start_coefficient m j i *ℤ int_at levels i)) in
      omega (arith, ints, own, le, low)

  level_le : (j : ℕ) → j < state_count m → IsWithin 49 (int_at levels j)
  level_le j h =
      let own : IsWithin 49 (pos b) = subst (IsWithin 49) (at_copies (state_count m) j (pos b) h)
      (none_past 49 all (option_or-None _ _ none).0 j) in
      omega (arith, ints, own, small j h)

  pub bounded : past_levels m levels ≡ None
  bounded =
      both _ _ (none_is (exceeds 49) levels (pos 0) (λ k h. within-passes 49 (int_at levels k)
      (level_le k (omega (arith, h, many)))))
      (none_of_table (exceeds 94) (state_count m) (rise_weight m levels) (λ k h. within-passes 94
      (rise_weight m levels k) (weight_le k h)))
