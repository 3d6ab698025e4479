-- Lists whose elements are as their places ask.
use Rattle.qss_components.proofs.Common
use Common.{[], ℕ, ◌++◌, ◌<◌, ◌∷◌, ◌≡◌, ◌≤◌, arith, cases_lt, EachAt, get_or, get_or_append_left}
use Common.{get_or_at, inl, inr, length, length-append, List, subst, sym}

-- one more element that is as its place asks
pub each_more : {X : Type 0} (P : ℕ → X → Type 0) (n : ℕ) (old new : List X) (x : X) → new ≡ old ++ x ∷ [] → length old ≡ n → EachAt P old → P n x → EachAt P new
each_more {X} P n old new x is many each own = subst (EachAt P) (sym is) all
  where
    all : EachAt P (old ++ x ∷ [])
    all place d inside = elim (cases_lt place (length old)) [ inl below ↦ before below | inr past ↦ here past ]
      where
        before : place < length old → P place (get_or (old ++ x ∷ []) place d)
        before below = subst (P place) (sym (get_or_append_left old (x ∷ []) d place below)) (each place d below)

        here : length old ≤ place → P place (get_or (old ++ x ∷ []) place d)
        here past =
            let same : place ≡ n = omega (arith, inside, many, past, length-append old (x ∷ [])) in
            subst (λ (k : ℕ). P k (get_or (old ++ x ∷ []) k d)) (sym same) (subst (P n) (sym (get_or_at old x [] d n many)) own)

-- none
pub each_none : {X : Type 0} (P : ℕ → X → Type 0) (xs : List X) → xs ≡ [] → EachAt P xs
each_none {X} P xs none = subst (EachAt P) (sym none) (λ place d inside. absurd (omega (arith, inside)))
