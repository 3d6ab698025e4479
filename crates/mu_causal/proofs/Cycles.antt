-- Where all variables can be listed there is no cycle.
use Rattle.mu_causal.proofs.Common
use Common.{[], ℕ, ◌++◌, ◌∷◌, ◌≡◌, ◌⊎◌, arith, Chain, Contains, Contains-append_cases, Follow, inl}
use Common.{inr, IsCycle, IsOrder, List, refl, subst, sym}
use Rattle.mu_causal.proofs.Elements.{contained, contained_first, contained_later}

-- what a member of a chain needs, in the chain or at its end
pub record NeedsMember (needs : ℕ → ℕ → Type 0) (vs : List ℕ) (end w : ℕ) : Type 0 where
  pub needed : ℕ
  pub need : needs w needed
  pub member : Contains vs needed ⊎ (needed ≡ end)

-- each member of a chain needs the next one
chain_next : (needs : ℕ → ℕ → Type 0) (v : ℕ) (vs : List ℕ) (end w : ℕ) → Chain needs v vs end → Contains (v ∷ vs) w → NeedsMember needs vs end w
chain_next needs v [] end w c m =
    elim (contained v [] w m) [
      | inl e ↦ record { needed = end; need = subst (λ x. needs x end) e c; member = inr refl }
      | inr d ↦ absurd (omega (arith, d.1))
    ]
chain_next needs v (x ∷ xs) end w c m =
    elim (contained v (x ∷ xs) w m) [
      | inl e ↦ record { needed = x; need = subst (λ y. needs y x) e c.0; member = inl (contained_first x xs) }
      | inr d ↦
          let n : NeedsMember needs xs end w = chain_next needs x xs end w c.1 d in
          record { needed = n.needed; need = n.need; member = elim n.member [ inl i ↦ inl (contained_later x xs n.needed i) | inr e ↦ inr e ] }
    ]

-- each member of a closed chain needs a member
closed_next : (needs : ℕ → ℕ → Type 0) (v : ℕ) (vs : List ℕ) (w : ℕ) → Chain needs v vs v → Contains (v ∷ vs) w → (u : ℕ) × (needs w u × Contains (v ∷ vs) u)
closed_next needs v vs w c m =
    let n : NeedsMember needs vs v w = chain_next needs v vs v w c m in
    (n.needed, (n.need, elim n.member [ inl i ↦ contained_later v vs n.needed i | inr e ↦ subst (Contains (v ∷ vs)) (sym e) (contained_first v vs) ]))

-- members that each need a member are never listed
never_listed : (variable : ℕ → Type 0) (needs : ℕ → ℕ → Type 0) (round done vars : List ℕ) → ((w : ℕ) → Contains round w → (u : ℕ) × (needs w u × Contains round u))
    → ((w : ℕ) → Contains done w → Contains round w → ⊥) → Follow variable needs done vars → (w : ℕ) → Contains vars w → Contains round w → ⊥
never_listed variable needs round done [] next clear f w c m = omega (arith, c.1)
never_listed variable needs round done (v ∷ vs) next clear f w c m =
    let not_here : Contains round v → ⊥ = λ k. let n = next v k in clear n.0 (f.0.is_ready.ready n.0 n.1.0) n.1.1 in
    elim (contained v vs w c) [
      | inl e ↦ not_here (subst (Contains round) (sym e) m)
      | inr d ↦ never_listed variable needs round (done ++ v ∷ []) vs next
          (λ x old k. elim (Contains-append_cases done (v ∷ []) x old) [
            | inl before ↦ clear x before k
            | inr last ↦ elim (contained v [] x last) [ inl e ↦ not_here (subst (Contains round) (sym e) k) | inr none ↦ omega (arith, none.1) ]
          ])
          f.1 w d m
    ]

-- where all variables can be listed there is no closed chain
pub no_closed_chain : (variable : ℕ → Type 0) (needs : ℕ → ℕ → Type 0) (vars : List ℕ) (v : ℕ) (vs : List ℕ) → ((v w : ℕ) → needs v w → variable v) → IsOrder variable needs vars → Chain needs v vs v → ⊥
no_closed_chain variable needs vars v vs there o c =
    let first : Contains (v ∷ vs) v = contained_first v vs in
    let n = closed_next needs v vs v c first in
    never_listed variable needs (v ∷ vs) [] vars (λ w m. closed_next needs v vs w c m) (λ w k m. omega (arith, k.1)) o.each v (o.all v (there v n.0 n.1.0)) first

-- and no cycle
pub no_cycle : (variable : ℕ → Type 0) (needs : ℕ → ℕ → Type 0) (vars round : List ℕ) → ((v w : ℕ) → needs v w → variable v) → IsOrder variable needs vars → IsCycle needs round → ⊥
no_cycle variable needs vars [] there o c = c
no_cycle variable needs vars (v ∷ vs) there o c = no_closed_chain variable needs vars v vs there o c.0
