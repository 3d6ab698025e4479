-- The test of a row's mode coefficients, place by place.
use Rattle.qss_machine.proofs.Common
use Common.{[], ℕ, ℤ, ◌<◌, ◌^◌, ◌∙◌, ◌≡◌, ◌≤◌, ap, arith, Bool, exceeds, false}
use Common.{get_or-map-range_with_len, IsWithin, length, length-map-range_with_len, Machine}
use Common.{nat_tests, not, pos, refl, state_count, tabulate, true, unsigned_abs}
use Rattle.std.proofs.lemmas.List.Recursion.{and_from_places, and_fails_at}
use Rattle.std.specs.List.{list_all}
use Rattle.qss_machine.specs.Legitimate.{start_coefficient}

pub fits_false : (n i : ℕ) (f : ℕ → ℤ) → i < n → exceeds 44 (f i) ≡ true → list_all (λ z. not (exceeds 44 z)) (tabulate n f) ≡ false
fits_false n i f h e =
    and_fails_at (list_all (λ z. not (exceeds 44 z))) (λ z. not (exceeds 44 z)) refl (λ x xs. refl) (tabulate n f) i (pos 0)
    (rw (length-map-range_with_len f 0 n) h)
    (ap (λ z. not (exceeds 44 z)) (get_or-map-range_with_len f 0 n i i (pos 0) h (omega arith)) ∙ ap not e)

pub fits_true : (n : ℕ) (f : ℕ → ℤ) → ((i : ℕ) → i < n → exceeds 44 (f i) ≡ false) → list_all (λ z. not (exceeds 44 z)) (tabulate n f) ≡ true
fits_true n f all =
    and_from_places (list_all (λ z. not (exceeds 44 z))) (λ z. not (exceeds 44 z)) refl (λ x xs. refl) (tabulate n f) (pos 0)
    (λ i within.
    let h : i < n = omega (arith, length-map-range_with_len f 0 n) in
    ap (λ z. not (exceeds 44 z)) (get_or-map-range_with_len f 0 n i i (pos 0) h (omega arith)) ∙ ap not (all i h))

-- where all fit, each is within the limit
pub fits_at : (n i : ℕ) (f : ℕ → ℤ) → i < n → list_all (λ z. not (exceeds 44 z)) (tabulate n f) ≡ true → unsigned_abs (f i) ≤ 2 ^ 44
fits_at n i f h all = within_from (exceeds 44 (f i)) refl
  where
    within_from : (b : Bool) → exceeds 44 (f i) ≡ b → unsigned_abs (f i) ≤ 2 ^ 44
    within_from true e = absurd (let no = fits_false n i f h e in cc)
    within_from false e = grind (arith, nat_tests)

-- the mode coefficients at the start are within the limit
pub mode_small : (m : Machine) (row i : ℕ) → row < state_count m → i < state_count m →
    IsWithin 44 (start_coefficient m row i)
mode_small m row i h k =
    let known : row < length m.rows = omega (arith, m.has_rows.one_each) in
    fits_at (state_count m) i (start_coefficient m row) k (m.has_rows.modes row (record {
      entries =
          [];
      products = [];
      beta = pos 0;
    }) known)
