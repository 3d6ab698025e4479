-- Sizes of a machine's units, quanta, drives, and of its rises at the start.
use Rattle.qss_order2.proofs.Common
use Common.{*ℤ_comm, [], ℕ, ℤ, ◌*ℤ◌, ◌*◌, ◌+ℤ◌, ◌+◌, ◌<ℤ◌, ◌<◌, ◌^◌, ◌∙◌, ◌≡◌, ◌≤ℤ◌, ◌≤◌, abs_of}
use Common.{ap, arith, cases_Bool, coefficient_of, fine_levels, fine_states, floor_meets, floor_of}
use Common.{get_or-map, inl, inr, int_at, int_lt, int_lt-false, int_lt-true, ints, IsPositiveWithin}
use Common.{IsWithin, length, length-map, length-replicate, level_unit, List, Machine, map}
use Common.{mode_coefficient, mode_small, mul-add, mul-le, mul-le-mul_left, mul_assoc, pos}
use Common.{reach_of, refl, replicate, rise_at, row_at, size-mul, SlopeRow, start_coefficient}
use Common.{start_constant_part, start_discretes, start_states, state_count, StateInfo, subst, suc}
use Common.{sum_below, sum_below-same, sum_below-zero, sym, unit_fits, unit_positive}
use Common.{unsigned_abs-mul, zero}
use Rattle.qss_machine.specs.Machines.{quanta}
use Rattle.qss_machine.proofs.Near.{quanta_positive, unit_le}
use Rattle.std.proofs.Math.IntN.{pos-*ℤ-pos}
use Rattle.std.specs.Int.RustNames.{unsigned_abs}
use Rattle.mu_num.proofs.Integers.{mul-above, mul-nonneg}
use Rattle.mu_num.specs.Levels.{level_below}
use Rattle.qss_machine.specs.Slopes.{slope_of, weight_of, constant_part}

no_state : StateInfo
no_state = record { name = []; x0 = pos 0; quantum = pos 0 }

pub quantum_fits : (m : Machine) (j : ℕ) → j < state_count m →
    IsPositiveWithin 32 (int_at (quanta m) j)
unfolding no_state
quantum_fits m j h =
    let low : pos 1 ≤ℤ int_at (quanta m) j = quanta_positive m j h in
    let high : int_at (quanta m) j ≤ℤ pos (2 ^ 32) =
    rw (get_or-map (λ (state : StateInfo). state.quantum) m.states j no_state (pos 0) h)
    ((m.has_variables.each_state j no_state h).quantum_high) in
    record { from_one = low; within = omega (arith, ints, low, high) }

-- how far a state may be from its level
reach_within : (k : ℕ) (q : ℤ) → k ≤ 2 ^ 44 → pos 1 ≤ℤ q → unsigned_abs q ≤ 2 ^ 32 →
    ((pos 64 *ℤ pos k) *ℤ q) ≤ℤ pos (2 ^ 82)
reach_within k q small low high =
    let e : unsigned_abs ((pos 64 *ℤ pos k) *ℤ q) ≡ (64 * k) * unsigned_abs q =
    unsigned_abs-mul (pos (64 * k)) q in
    let b : (64 * k) * unsigned_abs q ≤ (64 * 2 ^ 44) * 2 ^ 32 =
    mul-le (64 * k) (unsigned_abs q) (64 * 2 ^ 44) (2 ^ 32) (omega arith) high in
    omega (arith, ints, e, b)

pub reach_small : (m : Machine) (j : ℕ) → j < state_count m → reach_of m j ≤ℤ pos (2 ^ 82)
reach_small m j h =
    let q = quantum_fits m j h in
    let u = unit_fits m in
    reach_within (2 ^ (m.p + m.k)) (int_at (quanta m) j) (omega (arith, u.within))
    q.from_one q.within

-- one level is within it
pub reach_unit : (m : Machine) (j : ℕ) → j < state_count m → level_unit m ≤ℤ reach_of m j
reach_unit m j h =
    let unit = 2 ^ (m.p + m.k) in
    let q = int_at (quanta m) j in
    omega (arith, ints, unit_le unit q (quanta_positive m j h), mul_assoc (pos 64) (pos unit) q)

pub reach_low : (m : Machine) (j : ℕ) → j < state_count m → pos 0 <ℤ reach_of m j
reach_low m j h = omega (arith, ints, unit_positive m, reach_unit m j h)

-- ---- a row's drive

pub sum_within_sizes : (n : ℕ) (f : ℕ → ℤ) → abs_of (sum_below n f) ≤ℤ sum_below n (λ i. abs_of
    (f i))
sum_within_sizes zero f = omega (arith, ints)
sum_within_sizes (suc n) f = omega (arith, ints, sum_within_sizes n f)

zero_at : (n i : ℕ) → int_at (replicate n (pos 0)) i ≡ pos 0
zero_at zero i = refl
zero_at (suc n) zero = refl
zero_at (suc n) (suc i) = zero_at n i

pub sum_from_zero : (n : ℕ) (f : ℕ → ℤ) → ((i : ℕ) → pos 0 ≤ℤ f i) → pos 0 ≤ℤ sum_below n f
sum_from_zero zero f each = omega (arith, ints)
sum_from_zero (suc n) f each = omega (arith, ints, sum_from_zero n f each, each n)

product_from_zero : (a b : ℤ) → pos 0 ≤ℤ (abs_of a *ℤ abs_of b)
product_from_zero a b = mul-nonneg (unsigned_abs a) (abs_of b) (omega (arith, ints))

module _ (m : Machine) (j : ℕ) where
  -- the constant part of an absolute row sum
  abbrev rest : ℕ → ℤ
  rest n = sum_below (length (start_discretes m)) (λ g. abs_of (coefficient_of (row_at m j).entries
      (n + g)) *ℤ abs_of (int_at (start_discretes m) g)) +ℤ abs_of (row_at m j).beta

  abbrev weight_with : ℕ → List ℤ → ℤ
  weight_with n levels =
      sum_below n (λ i. abs_of (mode_coefficient m.f n (row_at m j) (start_discretes m) i) *ℤ abs_of
      (int_at levels i)) +ℤ rest n

  abbrev slope_with : ℕ → List ℤ → ℤ
  slope_with n levels =
      sum_below n (λ i. mode_coefficient m.f n (row_at m j) (start_discretes m) i *ℤ int_at levels
      i) +ℤ constant_part n (row_at m j) (start_discretes m)

  pub slope_of_zeros : slope_of m.f (row_at m j) (replicate (state_count m) (pos 0))
      (start_discretes m) ≡ start_constant_part m j
  slope_of_zeros =
      let n = state_count m in
      let zeros = replicate n (pos 0) in
      let a = mode_coefficient m.f n (row_at m j) (start_discretes m) in
      let none : sum_below n (λ i. a i *ℤ int_at zeros i) ≡ pos 0 = sum_below-same n _ (λ i. pos 0)
      (λ i h. ap (λ z. a i *ℤ z) (zero_at n i) ∙ omega (arith, ints)) ∙ sum_below-zero n in
      ap (λ k. slope_with k zeros) (length-replicate n (pos 0)) ∙ omega (arith, ints, none)

  drive_within_rest : abs_of (start_constant_part m j) ≤ℤ rest (state_count m)
  drive_within_rest =
      let n = length (start_discretes m) in
      let c = λ (g : ℕ). coefficient_of (row_at m j).entries (state_count m + g) in
      let d = int_at (start_discretes m) in
      omega (
        arith,
        ints,
        sum_within_sizes n (λ g. c g *ℤ d g),
        sum_below-same n (λ g. abs_of (c g) *ℤ abs_of (d g)) (λ g. abs_of (c g *ℤ d g)) (λ g h.
            size-mul (c g) (d g)),
      )

  -- the levels that a machine has at the start, in its own units
  abbrev coarse : List ℤ
  coarse = map (λ (state : StateInfo). level_below (level_unit m) state.x0) m.states

  weight_at_start : j < state_count m → unsigned_abs (weight_with (state_count m) coarse) ≤ 2 ^ 88
  weight_at_start h =
      let none : SlopeRow = record { entries = []; products = []; beta = pos 0 } in
      let own : IsWithin 88 (weight_of m.f (row_at m j) coarse (start_discretes m)) =
      m.has_rows.weights j none (omega (arith, h, m.has_rows.one_each)) in
      subst (λ n. unsigned_abs (weight_with n coarse) ≤ 2 ^ 88) (length-map m.states
      (λ (state : StateInfo). level_below (level_unit m) state.x0)) own

  coarse_from_zero : pos 0 ≤ℤ sum_below (state_count m)
      (λ i. abs_of (mode_coefficient m.f (state_count m) (row_at m j) (start_discretes m) i)
      *ℤ abs_of (int_at coarse i))
  coarse_from_zero = sum_from_zero (state_count m) _ (λ i. product_from_zero (mode_coefficient m.f
      (state_count m) (row_at m j) (start_discretes m) i) (int_at coarse i))

  pub drive_small : j < state_count m → IsWithin 88 (start_constant_part m j)
  drive_small h = omega (arith, ints, drive_within_rest, coarse_from_zero, weight_at_start h)

-- ---- rises at the start

-- a state 64 times finer, rounded down, is at most 64 times as many levels, and 63
fine_level : (x unit : ℤ) → pos 0 <ℤ unit → unsigned_abs (floor_of (pos 64 *ℤ x) unit)
    ≤ 64 * unsigned_abs (floor_of x unit) + 63
fine_level x unit some =
    let q = floor_of x unit in
    let r = floor_of (pos 64 *ℤ x) unit in
    let of_q = floor_meets x unit some in
    let of_r = floor_meets (pos 64 *ℤ x) unit some in
    let scaled : unit *ℤ (pos 64 *ℤ q) ≡ pos 64 *ℤ (unit *ℤ q) = swap unit q in
    let more : unit *ℤ (pos 64 *ℤ q +ℤ pos 64) ≡ unit *ℤ (pos 64 *ℤ q) +ℤ unit *ℤ pos 64 =
    mul-add unit (pos 64 *ℤ q) (pos 64) in
    let next : unit *ℤ (r +ℤ pos 1) ≡ unit *ℤ r +ℤ unit *ℤ pos 1 = mul-add unit r (pos 1) in
    let below : r <ℤ (pos 64 *ℤ q +ℤ pos 64) = not_above r (pos 64 *ℤ q +ℤ pos 64) unit some
    (omega (arith, ints, of_q.at_most, of_q.greatest, of_r.at_most, of_r.greatest, scaled, more)) in
    let above : (pos 64 *ℤ q) <ℤ (r +ℤ pos 1) = not_above (pos 64 *ℤ q) (r +ℤ pos 1) unit some
    (omega (arith, ints, of_q.at_most, of_q.greatest, of_r.at_most, of_r.greatest, scaled, next)) in
    omega (arith, ints, below, above)
  where
    swap : (u q : ℤ) → u *ℤ (pos 64 *ℤ q) ≡ pos 64 *ℤ (u *ℤ q)
    swap u q = sym (mul_assoc u (pos 64) q) ∙ ap (λ z. z *ℤ q) (*ℤ_comm u (pos 64))
        ∙ mul_assoc (pos 64) u q

    not_above : (a b u : ℤ) → pos 0 <ℤ u → (u *ℤ a) <ℤ (u *ℤ b) → a <ℤ b
    not_above a b u some less = elim (cases_Bool (int_lt a b)) [
      | inl e ↦ int_lt-true a b e
      | inr e ↦ elim (cases_Bool (int_lt b a)) [
        | inl f ↦ absurd (omega (arith, ints, less, some, mul-above u b a some (int_lt-true b a f)))
        | inr f ↦
            let same : a ≡ b = omega (arith, ints, int_lt-false a b e, int_lt-false b a f) in
            absurd (omega (arith, ints, less, ap (λ z. u *ℤ z) same))
      ]
    ]

-- a sum whose terms are at most 64 times some numbers, and a rest
start_sum : (n : ℕ) (f s : ℕ → ℤ) → ((i : ℕ) → i < n →
    abs_of (f i) ≤ℤ (pos 64 *ℤ s i +ℤ pos (63 * 2 ^ 44))) →
    abs_of (sum_below n f) ≤ℤ (pos 64 *ℤ sum_below n s +ℤ pos n *ℤ pos (63 * 2 ^ 44))
start_sum zero f s each = omega (arith, ints)
start_sum (suc n) f s each = omega (
  arith,
  ints,
  start_sum n f s (λ i h. each i (omega arith)),
  each n (omega arith),
)

-- one term of it
start_term : (a x y : ℤ) → IsWithin 44 a → unsigned_abs y ≤ 64 * unsigned_abs x + 63 →
    abs_of (a *ℤ y) ≤ℤ (pos 64 *ℤ (abs_of a *ℤ abs_of x) +ℤ pos (63 * 2 ^ 44))
start_term a x y small below =
    let n = unsigned_abs a in
    let product : n * unsigned_abs y ≤ n * (64 * unsigned_abs x + 63) = mul-le-mul_left n below in
    let parts : n * (64 * unsigned_abs x + 63) ≡ 64 * (n * unsigned_abs x) + 63 * n = omega arith in
    omega (arith, ints, unsigned_abs-mul a y, pos-*ℤ-pos n (unsigned_abs x), product, parts, small)

fine_at : (m : Machine) (i : ℕ) → i < state_count m → int_at (fine_levels m) i ≡ floor_of
    (pos 64 *ℤ int_at (start_states m) i) (level_unit m)
fine_at m i h =
    let many : length (start_states m) ≡ state_count m =
    length-map m.states (λ (state : StateInfo). state.x0) in
    get_or-map (λ (x : ℤ). floor_of x (level_unit m)) (fine_states m) i (pos 0) (pos 0)
    (omega (arith, h, many, length-map (start_states m) (λ (x : ℤ). pos 64 *ℤ x)))
    ∙ ap (λ x. floor_of x (level_unit m)) (get_or-map (λ (x : ℤ). pos 64 *ℤ x) (start_states m) i
    (pos 0) (pos 0) (omega (arith, h, many)))

coarse_at : (m : Machine) (j i : ℕ) → i < state_count m →
    int_at (map (λ (state : StateInfo). level_below (level_unit m) state.x0) m.states) i ≡ floor_of
    (int_at (start_states m) i) (level_unit m)
unfolding no_state
coarse_at m j i h =
    get_or-map (λ (state : StateInfo). level_below (level_unit m) state.x0) m.states i no_state
    (pos 0) h
    ∙ ap (λ x. floor_of x (level_unit m)) (sym (get_or-map (λ (state : StateInfo). state.x0)
    m.states i no_state (pos 0) h))

-- a level at the start
level_at_start : (m : Machine) (j i : ℕ) → i < state_count m →
    unsigned_abs (int_at (fine_levels m) i) ≤ 64 * unsigned_abs
    (int_at (map (λ (state : StateInfo). level_below (level_unit m) state.x0) m.states) i) + 63
level_at_start m j i h =
    rw (fine_at m i h, coarse_at m j i h) (fine_level (int_at (start_states m) i) (level_unit m)
    (unit_positive m))

pub start_level_small : (m : Machine) (i : ℕ) → i < state_count m →
    IsWithin 50 (int_at (fine_levels m) i)
unfolding no_state
start_level_small m i h =
    let small : IsWithin 43 (floor_of (int_at (start_states m) i) (level_unit m)) =
    rw (get_or-map (λ (state : StateInfo). state.x0) m.states i no_state (pos 0) h)
    ((m.has_variables.each_state i no_state h).level) in
    omega (
      arith,
      fine_level (int_at (start_states m) i) (level_unit m) (unit_positive m),
      ap unsigned_abs (fine_at m i h),
      small,
    )

-- a rise at the start
pub start_rise_small : (m : Machine) (j : ℕ) → j < state_count m →
    IsWithin 95 (rise_at m j (fine_levels m))
start_rise_small m j h =
    let n = state_count m in
    let levels = map (λ (state : StateInfo). level_below (level_unit m) state.x0) m.states in
    let a = start_coefficient m j in
    let own = start_sum n (λ i. a i *ℤ int_at (fine_levels m) i) (λ i. abs_of (a i) *ℤ abs_of
    (int_at levels i))
    (λ i k. start_term (a i) (int_at levels i) (int_at (fine_levels m) i) (mode_small m j i h k)
    (level_at_start m j i k)) in
    omega (
      arith,
      ints,
      own,
      drive_within_rest m j,
      weight_at_start m j h,
      coarse_from_zero m j,
      m.has_variables.few,
    )
