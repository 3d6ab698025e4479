-- States and discrete variables, field by field.
use Rattle.mu_affine.proofs.Common
use Common.{ℕ, ℤ, ◌+◌, ◌^◌, ◌∙◌, ◌≡◌, ◌≤ℤ◌, and_parts, ap, arith, DiscreteInfo, FitsSigned}
use Common.{flat_variable, FlatVar, Fraction, int_le, ints, is_quantum, List, of_z, pos, rounded}
use Common.{rounded_discrete, rounded_down, rounded_state, StateInfo, to_z, to_z-of_z, true, w64}

abbrev state_with : List ℕ → (x0 quantum : ℤ) → StateInfo
state_with name x0 quantum = record { name = name; x0 = x0; quantum = quantum }

abbrev discrete_with : List ℕ → ℤ → DiscreteInfo
discrete_with name d0 = record { name = name; d0 = d0 }

pub state_made : (p k f : ℕ) (v : FlatVar) (name : List ℕ) (x0 quantum : ℤ) → name ≡ v.name → x0 ≡ rounded (f + p + k) v.start → quantum ≡ rounded_down f v.quantum →
    state_with name x0 quantum ≡ rounded_state p k f (flat_variable v)
state_made p k f v name x0 quantum own start least =
    ap (λ (n : List ℕ). state_with n x0 quantum) own
    ∙ ap (λ (z : ℤ). state_with v.name z quantum) start
    ∙ ap (λ (z : ℤ). state_with v.name (rounded (f + p + k) v.start) z) least

pub discrete_made : (f : ℕ) (v : FlatVar) (name : List ℕ) (d0 : ℤ) → name ≡ v.name → d0 ≡ rounded f v.start → discrete_with name d0 ≡ rounded_discrete f (flat_variable v)
discrete_made f v name d0 own start =
    ap (λ (n : List ℕ). discrete_with n d0) own
    ∙ ap (λ (z : ℤ). discrete_with v.name z) start

-- the bits of a quantum within its limits represent this quantum
pub quantum_kept : (f : ℕ) (q : Fraction) (z : ℤ) → is_quantum f q ≡ true → z ≡ rounded_down f q → to_z w64 (of_z w64 z) ≡ rounded_down f q
quantum_kept f q z within is =
    let both = and_parts (int_le (pos 1) (rounded_down f q)) (int_le (rounded_down f q) (pos (2 ^ 32))) within in
    ap (λ (y : ℤ). to_z w64 (of_z w64 y)) is ∙ to_z-of_z w64 (rounded_down f q) (fits (rounded_down f q) (at_most (pos 1) (rounded_down f q) both.0) (at_most (rounded_down f q) (pos (2 ^ 32)) both.1))
  where
    at_most : (a b : ℤ) → int_le a b ≡ true → a ≤ℤ b
    at_most a b e = grind (arith, ints)

    fits : (y : ℤ) → pos 1 ≤ℤ y → y ≤ℤ pos (2 ^ 32) → FitsSigned w64 y
    fits y low high = omega (arith, ints)
