-- Snapshots that a trace can hold.
use Rattle.qss_own_traces.proofs.Common
use Common.{[], ℕ, ℤ, ◌*ℤ◌, ◌+◌, ◌<◌, ◌||◌, ◌∙◌, ◌∷◌, ◌≡◌, All, all_of, ap, ap₂, arith, Bool, cond}
use Common.{false, fine_count, fine_levels, fine_states, first_wide, get_or, get_or-map, int_at}
use Common.{ints, is_wide, IsWithin, length, length-map, List, Machine, nearest_change, None}
use Common.{or_parts, pos, position_from, position_from-zero, range_with_len, refl, second_start}
use Common.{SecondSnapshot, Some, start_states, state_count, StateInfo, states_start, suc, sym}
use Common.{true, within-passes, zero}
use Rattle.mu_num.proofs.SizeTests.{passes-within}
use Rattle.qss_order2.proofs.Sizes.{start_level_small}
use Rattle.qss_own_traces.proofs.Flags.{none_below, range_at, range_count}

-- where no place passes a test, no element does
none_passes : {X : Type 0} (p : X → Bool) (i : ℕ) (xs : List X) → position_from p i xs ≡ None → (k : ℕ) (d : X) → k < length xs → p (get_or xs k d) ≡ false
none_passes p i [] e k d h = absurd (omega arith)
none_passes {X} p i (x ∷ xs) e k d h = by (p x) refl k h (λ r k l. none_passes p (i + 1) xs r k d l)
  where
    by : (b : Bool) → p x ≡ b → (k : ℕ) → k < length (x ∷ xs) →
        (position_from p (i + 1) xs ≡ None → (k : ℕ) → k < length xs → p (get_or xs k d) ≡ false) → p (get_or (x ∷ xs) k d) ≡ false
    by true f k h rest = let g = sym (ap (λ (b : Bool). cond b (Some i) (position_from p (i + 1) xs)) f) ∙ e in absurd (cc)
    by false f zero h rest = f
    by false f (suc k) h rest = rest (sym (ap (λ (b : Bool). cond b (Some i) (position_from p (i + 1) xs)) f) ∙ e) k (omega arith)

none_wide : (w : SecondSnapshot) → first_wide w ≡ None → (k : ℕ) → k < length w.states → is_wide w k ≡ false
none_wide w e k h =
    let n = length w.states in
    sym (ap (is_wide w) (range_at n k h))
    ∙ none_passes (is_wide w) 0 (range_with_len 0 n) (sym (position_from-zero (is_wide w) (range_with_len 0 n)) ∙ e) k 0 (omega (arith, h, range_count n))

pub narrow_states : (w : SecondSnapshot) (n : ℕ) → length w.states ≡ n → first_wide w ≡ None → All (IsWithin 108) w.states
narrow_states w n many e =
    all_of (IsWithin 108) w.states n many
    (λ k h. passes-within 108 (int_at w.states k)
    (or_parts _ _ (none_wide w e k (omega (arith, h, many)))).0)

pub narrow_levels : (w : SecondSnapshot) (n : ℕ) → length w.states ≡ n → length w.levels ≡ n → first_wide w ≡ None → All (IsWithin 64) w.levels
narrow_levels w n many levels e =
    all_of (IsWithin 64) w.levels n levels
    (λ k h. passes-within 64 (int_at w.levels k)
    (or_parts _ _ (none_wide w e k (omega (arith, h, many)))).1)

-- the start is narrow
start_state_small : (m : Machine) (k : ℕ) → k < state_count m → IsWithin 94 (int_at (fine_states m) k)
start_state_small m k h =
    let many : length (start_states m) ≡ state_count m = length-map m.states (λ (s : StateInfo). s.x0) in
    let small = states_start m k (pos 0) (omega (arith, h, many)) in
    let is : int_at (fine_states m) k ≡ pos 64 *ℤ int_at (start_states m) k = get_or-map (λ (x : ℤ). pos 64 *ℤ x) (start_states m) k (pos 0) (pos 0) (omega (arith, h, many)) in
    omega (arith, ints, is, small)

pub start_narrow : (m : Machine) → first_wide (second_start nearest_change m) ≡ None
start_narrow m =
    none_below (is_wide (second_start nearest_change m)) (length (fine_states m))
    (λ k h.
    let l : k < state_count m = omega (arith, h, fine_count m) in
    ap₂ (λ (a b : Bool). a || b) (within-passes 108 (int_at (fine_states m) k) (let s = start_state_small m k l in omega arith))
    (within-passes 64 (int_at (fine_levels m) k) (let s = start_level_small m k l in omega arith)))
