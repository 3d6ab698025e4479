-- The elements of a list: the first one and the others.
use Rattle.mu_causal.proofs.Common
use Common.{[], ◌∷◌, ◌≡◌, ◌⊎◌, arith, Contains, inl, inr, List, refl, suc, zero}

-- an element is the first one, or one of the others
pub contained : {X : Type 0} (x : X) (xs : List X) (y : X) → Contains (x ∷ xs) y → (x ≡ y) ⊎ Contains
    xs y
contained x xs y (zero, within, is) = inl is
contained x xs y (suc k, within, is) = inr (k, omega arith, is)

-- the first one is an element
pub contained_first : {X : Type 0} (x : X) (xs : List X) → Contains (x ∷ xs) x
contained_first x xs = (0, omega arith, refl)

-- each of the others is an element
pub contained_later : {X : Type 0} (x : X) (xs : List X) (y : X) → Contains xs y → Contains (x ∷ xs) y
contained_later x xs y h = (suc h.0, omega (arith, h.1), h.2)

-- an empty list has no element
pub none_contained : {X : Type 0} (y : X) → Contains [] y → ⊥
none_contained y h = omega (arith, h.1)
