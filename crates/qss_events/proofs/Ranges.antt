-- A state near its level exceeds no limit.
use Rattle.qss_events.proofs.Common
use Common.{[], ℕ, ℤ, ◌*ℤ◌, ◌*◌, ◌+◌, ◌-ℤ◌, ◌<ℤ◌, ◌<◌, ◌^◌, ◌∙◌, ◌∷◌, ◌≡◌, ◌≤ℤ◌, ◌≤◌, ap, arith}
use Common.{Bool, cond, false, get_or, get_or-map, int_at, int_lt-true, ints, is_within_quantum}
use Common.{IsPositiveWithin, IsWithin, length, List, Machine, nat_lt, nat_tests, None, not, pos}
use Common.{quantum_of, quantum_positive, refl, Some, state_count, StateInfo, suc, sym, true}
use Common.{unsigned_abs}
use Rattle.std.proofs.Common.{◌/◌, lit<}
use Rattle.std.proofs.lemmas.Int.{clamps, unsigned_abs-mul}
use Rattle.std.proofs.lemmas.Nat.{mul-le}
use Rattle.std.proofs.Math.Nat.{pow-le-pow_right}
use Rattle.std.proofs.lemmas.List.Sums.{fails_before_first}
use Rattle.std.specs.List.{position, position_or_len, prefix_len}
use Rattle.qss_machine.specs.Machines.{quanta}

-- where no element passes a test, there is no first one that does
full_prefix : {X : Type 0} (d : X) (p : X → Bool) (xs : List X) → ((j : ℕ) → j < length xs → p (get_or xs j d) ≡ false) →
    prefix_len (λ x. not (p x)) xs ≡ length xs
full_prefix d p [] none = refl
full_prefix d p (x ∷ xs) none =
    let here : p x ≡ false = none 0 (omega arith) in
    let rest = full_prefix d p xs (λ j h. none (suc j) (omega arith)) in
    rw here (omega (arith, rest))

no_less : (n : ℕ) → nat_lt n n ≡ false
no_less n = grind (arith, nat_tests)

pub position-none : {X : Type 0} (d : X) (p : X → Bool) (xs : List X) → ((j : ℕ) → j < length xs → p (get_or xs j d) ≡ false) → position p xs ≡ None
position-none d p xs none =
    let full = full_prefix d p xs none in
    rw (full, no_less) refl

quanta_small : (m : Machine) (j : ℕ) → j < state_count m → int_at (quanta m) j ≤ℤ pos (2 ^ 32)
quanta_small m j h =
    let d : StateInfo = record { name = []; x0 = pos 0; quantum = pos 0 } in
    rw (get_or-map (λ (state : StateInfo). state.quantum) m.states j d (pos 0) h) ((m.has_variables.each_state j d h).quantum_high)

share_small : (level relative : ℕ) → level ≤ 2 ^ 43 → relative ≤ 2048 → level * relative / 4096 ≤ 2 ^ 42
share_small level relative small few = omega (arith, mul-le level relative (2 ^ 43) 2048 small few)

unit_small : (m : Machine) → 2 ^ (m.p + m.k) ≤ 2 ^ 44
unit_small m = pow-le-pow_right (lit< tt) m.has_units.unit_bits

quantum_small : (m : Machine) (j : ℕ) (level : ℤ) → j < state_count m → IsWithin 43 level → quantum_of m j level ≤ℤ pos (2 ^ 42)
quantum_small m j level h small =
    omega (arith, ints, clamps, quanta_small m j h, share_small (unsigned_abs level) m.relative small m.has_units.share)

near_by : (k : ℕ) (state level q : ℤ) → k ≤ 2 ^ 44 → unsigned_abs level ≤ 2 ^ 43 → pos 1 ≤ℤ q → q ≤ℤ pos (2 ^ 42) →
    pos (unsigned_abs (state -ℤ pos k *ℤ level)) <ℤ (pos k *ℤ q) → IsWithin 88 state
near_by k state level q scale small low high near =
    let size : unsigned_abs q ≤ 2 ^ 42 = omega (arith, ints, low, high) in
    let a : unsigned_abs (pos k *ℤ level) ≤ 2 ^ 44 * 2 ^ 43 = omega (arith, unsigned_abs-mul (pos k) level, mul-le k (unsigned_abs level) (2 ^ 44) (2 ^ 43) scale small) in
    let b : unsigned_abs (pos k *ℤ q) ≤ 2 ^ 44 * 2 ^ 42 = omega (arith, unsigned_abs-mul (pos k) q, mul-le k (unsigned_abs q) (2 ^ 44) (2 ^ 42) scale size) in
    omega (arith, ints, a, b, near)

-- a state near a level within its limit is within its own
pub near_small : (m : Machine) (j : ℕ) (state level : ℤ) → j < state_count m → IsWithin 43 level → is_within_quantum m j state level ≡ true → IsWithin 88 state
near_small m j state level h small near =
    near_by (2 ^ (m.p + m.k)) state level (quantum_of m j level) (unit_small m) small (quantum_positive m j level h) (quantum_small m j level h small)
    (int_lt-true _ _ near)

-- quanta are within their limits
pub quantum_fits : (m : Machine) (j : ℕ) (level : ℤ) → j < state_count m → IsWithin 43 level → IsPositiveWithin 43 (quantum_of m j level)
quantum_fits m j level h small =
    let low : pos 1 ≤ℤ quantum_of m j level = quantum_positive m j level h in
    record { from_one = low; within = omega (arith, ints, low, quantum_small m j level h small) }

-- where no element passes a test, each fails
pub none_passes : {X : Type 0} (d : X) (p : X → Bool) (xs : List X) → position p xs ≡ None → (k : ℕ) → k < length xs → p (get_or xs k d) ≡ false
none_passes d p xs e k h = by_less (nat_lt (position_or_len p xs) (length xs)) refl
  where
    by_less : (b : Bool) → nat_lt (position_or_len p xs) (length xs) ≡ b → p (get_or xs k d) ≡ false
    by_less true less = let found : cond true (Some (position_or_len p xs)) None ≡ None = ap (λ b. cond b (Some (position_or_len p xs)) None) (sym less) ∙ e in absurd (cc)
    by_less false less = let past : length xs ≤ position_or_len p xs = grind (arith, nat_tests) in fails_before_first p xs k d (omega arith)
