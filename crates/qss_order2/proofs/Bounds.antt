-- Sizes in a motion from a snapshot that passed its limit check.
use Rattle.qss_order2.proofs.Common
use Common.{ℕ, ℤ, ◌*ℤ◌, ◌*◌, ◌+◌, ◌-ℤ◌, ◌<ℤ◌, ◌<◌, ◌^◌, ◌∙◌, ◌≡◌, ◌≤ℤ◌, ◌≤◌, ap, arith, bend_at}
use Common.{first_exceeding, first_exceeding_limit, get_or, get_or_default, int_at, int_at-tabulate}
use Common.{ints, IsWithin, length, List, Machine, MotionAt, Moves, mul-le, mul-le-mul_right, None}
use Common.{none_past, option_or, option_or-None, pos, reach_of, rise_at, rise_change_weight}
use Common.{rise_weight, start_coefficient, state_count, subst, sym, tabulate, unit_fits}
use Common.{unsigned_abs-mul}
use Rattle.std.specs.Int.RustNames.{unsigned_abs}
use Rattle.qss_order2.proofs.Sizes.{reach_small, sum_within_sizes}

-- a value that was read
pub at_index : (xs : List ℤ) (j n : ℕ) (z : ℤ) → length xs ≡ n → j < n → z ≡ get_or xs j z →
    z ≡ int_at xs j
at_index xs j n z many h is = is ∙ get_or_default xs j z (pos 0) (omega (arith, h, many))

-- no value of a table exceeds its limit
pub table_within : (bits n : ℕ) (f : ℕ → ℤ) → first_exceeding bits (tabulate n f) ≡ None → (j : ℕ) →
    j < n → IsWithin bits (f j)
table_within bits n f none j h = subst (IsWithin bits) (int_at-tabulate n f j h) (none_past bits
    (tabulate n f) none j)

pub rise_by_weight : (m : Machine) (levels : List ℤ) →
    first_exceeding 94 (tabulate (state_count m) (rise_weight m levels)) ≡ None → (j : ℕ) →
    j < state_count m → IsWithin 94 (rise_at m j levels)
rise_by_weight m levels light j h = omega (
  arith,
  ints,
  table_within 94 (state_count m) (rise_weight m levels) light j h,
  sum_within_sizes (state_count m) (λ i. start_coefficient m j i *ℤ int_at levels i),
)

pub bend_by_weight : (m : Machine) (changes : List ℤ) (j : ℕ) →
    IsWithin 94 (rise_change_weight m changes j) → IsWithin 94 (bend_at m j changes)
bend_by_weight m changes j heavy = omega (
  arith,
  ints,
  heavy,
  sum_within_sizes (state_count m)
      (λ i. start_coefficient m j i *ℤ int_at changes i),
)

-- no state is past a limit
module _ (m : Machine) (levels changes : List ℤ) (within : first_exceeding_limit m levels changes ≡
    None) where
  parts : (first_exceeding 49 levels ≡ None) ×
      (option_or (first_exceeding 94 (tabulate (state_count m) (rise_weight m levels)))
      (first_exceeding 94 (tabulate (state_count m) (rise_change_weight m changes))) ≡ None)
  parts = option_or-None _ _ within

  pub level_within : (j : ℕ) → IsWithin 49 (int_at levels j)
  level_within j = none_past 49 levels parts.0 j

  pub rise_within : (j : ℕ) → j < state_count m → IsWithin 94 (rise_at m j levels)
  rise_within j h = rise_by_weight m levels (option_or-None _ _ parts.1).0 j h

  pub bends_flat : (j : ℕ) → j < state_count m → IsWithin 94 (rise_change_weight m changes j)
  bends_flat = table_within 94 (state_count m) (rise_change_weight m changes)
      (option_or-None _ _ parts.1).1

  pub bend_within : (j : ℕ) → j < state_count m → IsWithin 94 (bend_at m j changes)
  bend_within j h = bend_by_weight m changes j (bends_flat j h)

-- a state near a small level is small
near_small : (k : ℕ) (x level reach : ℤ) → k ≤ 2 ^ 44 → unsigned_abs level ≤ 2 ^ 49 →
    pos (unsigned_abs (x -ℤ pos k *ℤ level)) <ℤ reach → reach ≤ℤ pos (2 ^ 82) → IsWithin 94 x
near_small k x level reach few small near limit =
    let product : unsigned_abs (pos k *ℤ level) ≤ 2 ^ 44 * 2 ^ 49 =
    omega (
      arith,
      unsigned_abs-mul (pos k) level,
      mul-le k (unsigned_abs level) (2 ^ 44) (2 ^ 49)
          few small,
    ) in
    omega (arith, ints, product, near, limit)

-- a number of which a multiple is small is small
pub factor_small : (k : ℕ) (z : ℤ) → 1 ≤ k → IsWithin 95 (pos k *ℤ z) → IsWithin 95 z
factor_small k z some small =
    let once : 1 * unsigned_abs z ≤ k * unsigned_abs z = mul-le-mul_right (unsigned_abs z) some in
    omega (arith, unsigned_abs-mul (pos k) z, once, small)

module _ (m : Machine) (q : MotionAt) (moves : Moves m q) where
  pub state_small : (j : ℕ) → j < state_count m → IsWithin 94 (int_at q.states j)
  state_small j h =
      let u = unit_fits m in
      near_small (2 ^ (m.p + m.k)) (int_at q.states j) (int_at q.levels j) (reach_of m j)
      (omega (arith, u.within))
      (level_within m q.levels q.changes moves.within j) (moves.near j h) (reach_small m j h)

  pub rise_is : (j : ℕ) → j < state_count m → int_at q.rises j ≡ rise_at m j q.levels
  rise_is j h = ap (λ xs. int_at xs j) moves.has_rises.rises ∙ int_at-tabulate (state_count m)
      (λ j. rise_at m j q.levels) j h

  pub bend_is : (j : ℕ) → j < state_count m → int_at q.bends j ≡ bend_at m j q.changes
  bend_is j h = ap (λ xs. int_at xs j) moves.has_rises.bends ∙ int_at-tabulate (state_count m)
      (λ j. bend_at m j q.changes) j h

  pub rise_small : (j : ℕ) → j < state_count m → IsWithin 94 (int_at q.rises j)
  rise_small j h = subst (IsWithin 94) (sym (rise_is j h)) (rise_within m q.levels q.changes
      moves.within j h)

  pub bend_small : (j : ℕ) → j < state_count m → IsWithin 94 (int_at q.bends j)
  bend_small j h = subst (IsWithin 94) (sym (bend_is j h)) (bend_within m q.levels q.changes
      moves.within j h)

  pub change_small : (j : ℕ) → j < state_count m → IsWithin 95 (int_at q.changes j)
  change_small j h =
      let u = unit_fits m in
      factor_small (2 ^ (m.p + m.k)) (int_at q.changes j) (omega (arith, ints, u.from_one))
      (moves.has_rises.held j h)
