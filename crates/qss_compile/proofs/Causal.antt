-- Each flat model has an order or is refused one.
use Rattle.qss_compile.proofs.Common
use Common.{[], ℕ, ◌<◌, ◌∙◌, ◌∷◌, ◌≡◌, ◌≢◌, ◌⊎◌, ap, arith, Bool, cases_eq, Contains, DependsOn}
use Common.{EachBelowHasOneEquation, EachHasOneEquation, equation_numbers, false, FlatEquationTree}
use Common.{FlatModelTree, FlatVariable, HasOneEquation, HasOrder, inl, inr, IsAlgebraic, IsCycle}
use Common.{IsOrder, length, List, None, of_order, Option, OrderRefuses, refl, slice_get, Some}
use Common.{subst, suc, sym, true, WantsEquation, with_names}
use Rattle.std.proofs.lemmas.Option.{slice_get_within}
use Rattle.mu_causal.specs.Dependencies.{names_of, wants_equation}
use Rattle.mu_causal.proofs.Elements.{contained}
use Rattle.mu_causal.proofs.FlatGraphs.{Source}
use Rattle.mu_tree.specs.declared.flat.FlatRole.{FlatRole}
use Rattle.mu_tree.specs.declared.flat.FlatRole.TheVariants.{State, Discrete, Algebraic}
use Rattle.qss_compile.proofs.Deciding.{Decides}
use Rattle.qss_compile.proofs.Orderings.{IsDecided, IsLeastOf, least_below, order_or_cycle}
use Rattle.mu_causal.specs.declared.causal_outcome.CausalErr.TheVariants as ordering

-- whether a list has an element
contains_decided : (xs : List ℕ) (w : ℕ) → IsDecided (Contains xs w)
contains_decided [] w = inr (λ c. let lt = c.1 in omega (arith, lt))
contains_decided (x ∷ xs) w = by (cases_eq x w) (contains_decided xs w)
  where
    by : (x ≡ w) ⊎ (x ≢ w) → IsDecided (Contains xs w) → IsDecided (Contains (x ∷ xs) w)
    by (inl e) rest = inl (0, omega arith, e)
    by (inr ne) (inl c) = inl (suc c.0, (let lt = c.1 in omega (arith, lt)), c.2)
    by (inr ne) (inr none) = inr (λ c. elim (contained x xs w c) [ inl e ↦ ne e | inr later ↦ none later ])

source_decided : (es : List FlatEquationTree) (v w : ℕ) → IsDecided (Source es v w)
source_decided [] v w = inr (λ s. let lt = s.there.1 in omega (arith, lt))
source_decided (e ∷ es) v w = by (cases_eq e.target v) (contains_decided (names_of e.value) w) (source_decided es v w)
  where
    later : Source es v w → Source (e ∷ es) v w
    later s = record { equation = s.equation; there = (suc s.there.0, (let lt = s.there.1 in omega (arith, lt)), s.there.2); target = s.target; named = s.named }

    neither : ((e.target ≡ v) → Contains (names_of e.value) w → ⊥) → (Source es v w → ⊥) → Source (e ∷ es) v w → ⊥
    neither fails none s = elim (contained e es s.equation s.there) [
      | inl same ↦ fails (ap (λ (x : FlatEquationTree). x.target) same ∙ s.target) (subst (λ (x : FlatEquationTree). Contains (names_of x.value) w) (sym same) s.named)
      | inr c ↦ none (record { equation = s.equation; there = c; target = s.target; named = s.named })
    ]

    by : (e.target ≡ v) ⊎ (e.target ≢ v) → IsDecided (Contains (names_of e.value) w) → IsDecided (Source es v w) → IsDecided (Source (e ∷ es) v w)
    by (inl t) (inl c) rest = inl (record { equation = e; there = (0, omega arith, refl); target = t; named = c })
    by h c (inl s) = inl (later s)
    by (inl t) (inr fails) (inr none) = inr (neither (λ _ c. fails c) none)
    by (inr ne) c (inr none) = inr (neither (λ t _. ne t) none)

-- a variable at a place is one
same_variable : (m : FlatModelTree) (v : ℕ) (a b : FlatVariable) → slice_get m.vars v ≡ Some a → slice_get m.vars v ≡ Some b → a ≡ b
same_variable m v a b p q = let e = sym p ∙ q in cc e

algebraic_decided : (m : FlatModelTree) (v : ℕ) → IsDecided (IsAlgebraic m v)
algebraic_decided m v = by (slice_get m.vars v) refl
  where
    other : (d : FlatVariable) → slice_get m.vars v ≡ Some d → (d.role ≡ Algebraic → ⊥) → IsAlgebraic m v → ⊥
    other d at fails a = fails (ap (λ (x : FlatVariable). x.role) (same_variable m v d a.variable at a.at) ∙ a.role)

    by_role : (d : FlatVariable) → slice_get m.vars v ≡ Some d → (r : FlatRole) → d.role ≡ r → IsDecided (IsAlgebraic m v)
    by_role d at State e = inr (other d at (λ h. let wrong = sym e ∙ h in cc wrong))
    by_role d at Discrete e = inr (other d at (λ h. let wrong = sym e ∙ h in cc wrong))
    by_role d at Algebraic e = inl (record { variable = d; at = at; role = e })

    by : (o : Option FlatVariable) → slice_get m.vars v ≡ o → IsDecided (IsAlgebraic m v)
    by None e = inr (λ a. let wrong = sym e ∙ a.at in cc wrong)
    by (Some d) e = by_role d e d.role refl

depends_decided : (m : FlatModelTree) (v w : ℕ) → IsDecided (DependsOn m v w)
depends_decided m v w = by (source_decided m.equations v w) (algebraic_decided m v) (algebraic_decided m w)
  where
    by : IsDecided (Source m.equations v w) → IsDecided (IsAlgebraic m v) → IsDecided (IsAlgebraic m w) → IsDecided (DependsOn m v w)
    by (inl s) (inl a) (inl b) = inl (record { equation = s.equation; there = s.there; target = s.target; named = s.named; from_algebraic = a; to_algebraic = b })
    by (inr fails) a b = inr (λ d. fails (record { equation = d.equation; there = d.there; target = d.target; named = d.named }))
    by (inl s) (inr fails) b = inr (λ d. fails d.from_algebraic)
    by (inl s) (inl a) (inr fails) = inr (λ d. fails d.to_algebraic)

-- a variable that needs one equation and has none or more
abbrev IsMiscounted : FlatModelTree → ℕ → Type 0
IsMiscounted m v = WantsEquation m v × (HasOneEquation m v → ⊥)

wants_decided : (m : FlatModelTree) (v : ℕ) → IsDecided (WantsEquation m v)
wants_decided m v = by (slice_get m.vars v) refl
  where
    by_role : (d : FlatVariable) → slice_get m.vars v ≡ Some d → (b : Bool) → wants_equation d.role ≡ b → IsDecided (WantsEquation m v)
    by_role d at true e = inl (record { variable = d; at = at; wants = e })
    by_role d at false e = inr (λ w.
        let same = same_variable m v d w.variable at w.at in
        let wrong = sym e ∙ ap (λ (x : FlatVariable). wants_equation x.role) same ∙ w.wants in
        cc wrong)

    by : (o : Option FlatVariable) → slice_get m.vars v ≡ o → IsDecided (WantsEquation m v)
    by None e = inr (λ w. let wrong = sym e ∙ w.at in cc wrong)
    by (Some d) e = by_role d e (wants_equation d.role) refl

one_decided : (m : FlatModelTree) (v : ℕ) → IsDecided (HasOneEquation m v)
one_decided m v = by (equation_numbers m v) refl
  where
    by : (ns : List ℕ) → equation_numbers m v ≡ ns → IsDecided (HasOneEquation m v)
    by [] e = inr (λ h. let wrong = sym e ∙ h.1 in cc wrong)
    by (a ∷ []) e = inl (a, e)
    by (a ∷ b ∷ more) e = inr (λ h. let wrong = sym e ∙ h.1 in cc wrong)

miscounted_decided : (m : FlatModelTree) (v : ℕ) → IsDecided (IsMiscounted m v)
miscounted_decided m v = by (wants_decided m v) (one_decided m v)
  where
    by : IsDecided (WantsEquation m v) → IsDecided (HasOneEquation m v) → IsDecided (IsMiscounted m v)
    by (inl w) (inr fails) = inl (w, fails)
    by (inl w) (inl one) = inr (λ p. p.1 one)
    by (inr fails) one = inr (λ p. fails p.0)

module _ (m : FlatModelTree) where
  refused_at : (v : ℕ) → IsLeastOf (IsMiscounted m) (length m.vars) v → (ns : List ℕ) → equation_numbers m v ≡ ns → Decides (OrderRefuses m) (HasOrder m)
  refused_at v l ns e = by ns e
    where
      below : EachBelowHasOneEquation m v
      below w lt wants = elim (one_decided m w) [ inl one ↦ one | inr fails ↦ absurd (l.least w lt (wants, fails)) ]

      by : (ns : List ℕ) → equation_numbers m v ≡ ns → Decides (OrderRefuses m) (HasOrder m)
      by [] e = inr (with_names m (of_order (ordering.NoEquation v)), (ordering.NoEquation v, λ wrong. cc wrong, (l.holds.0, below, e), refl))
      by (a ∷ []) e = absurd (l.holds.1 (a, e))
      by (a ∷ b ∷ more) e = inr (with_names m (of_order (ordering.TwoEquations v a b)), (ordering.TwoEquations v a b, λ wrong. cc wrong, (l.holds.0, below, (more, e)), refl))

  counted_all : ((v : ℕ) → v < length m.vars → IsMiscounted m v → ⊥) → EachHasOneEquation m
  counted_all none v wants =
      let inside = slice_get_within m.vars v wants.variable wants.at in
      elim (one_decided m v) [ inl one ↦ one | inr fails ↦ absurd (none v inside (wants, fails)) ]

  by_graph : EachHasOneEquation m → ((vars : List ℕ) × IsOrder (IsAlgebraic m) (DependsOn m) vars) ⊎ ((vars : List ℕ) × IsCycle (DependsOn m) vars) → Decides (OrderRefuses m) (HasOrder m)
  by_graph counted (inl order) = inl (order.0, (counted, order.1))
  by_graph counted (inr cycle) = inr (with_names m (of_order (ordering.Loop cycle.0)), (ordering.Loop cycle.0, λ wrong. cc wrong, (counted, cycle.1), refl))

  -- a flat model has an order, or is refused one
  pub order_decides : Decides (OrderRefuses m) (HasOrder m)
  order_decides = by (least_below (IsMiscounted m) (miscounted_decided m) (length m.vars))
    where
      by : ((v : ℕ) × IsLeastOf (IsMiscounted m) (length m.vars) v) ⊎ ((v : ℕ) → v < length m.vars → IsMiscounted m v → ⊥) → Decides (OrderRefuses m) (HasOrder m)
      by (inl found) = refused_at found.0 found.1 (equation_numbers m found.0) refl
      by (inr none) =
          by_graph (counted_all none)
          (order_or_cycle (length m.vars) (IsAlgebraic m) (DependsOn m) (λ v a. slice_get_within m.vars v a.variable a.at) (λ v w d. d.to_algebraic) (algebraic_decided m) (depends_decided m))
