-- Counting equations variable by variable.
use Rattle.mu_causal.proofs.Common
use Common.{[], ℕ, ◌++◌, ◌+◌, ◌<◌, ◌∙◌, ◌∷◌, ◌≡◌, ◌≤◌, ◌⊎◌, ap, append-nil, arith, Bool, cases_lt}
use Common.{EachBelowHasOneEquation, false, flat_equation, flat_variable, FlatEquation}
use Common.{FlatEquationTree, FlatModelTree, FlatVariable, get_or, get_or_default, if◌then◌else◌}
use Common.{inl, inr, IsGiven, length, length-map, length-take-le, List, map, nat_eq, Never}
use Common.{numbers_from, refl, slice_get, slice_get-get_or, slice_get_within, Some, subst, sym}
use Common.{take, true}
use Rattle.std.proofs.Common.{add-zero}
use Rattle.std.specs.Prelude.{Option, None}
use Rattle.std.proofs.lemmas.Option.{slice_get-map}
use Rattle.mu_tree.specs.declared.flat.FlatVar.{FlatVar}
use Rattle.std.proofs.lemmas.Bool.Decides.{nat_tests}
use Rattle.std.proofs.lemmas.List.{take_more, map-append}
use Rattle.mu_causal.specs.declared.equation_counts.Given.{Given}
use Rattle.mu_causal.specs.Dependencies.{wants_equation, HasOneEquation, EachHasOneEquation}

-- the variable that is read at a place
pub variable_there : (ds : List FlatVar) (v : ℕ) (d : FlatVar) → v < length ds → d ≡ get_or ds v d → slice_get (map flat_variable ds) v ≡ Some (flat_variable d)
variable_there ds v d h e = slice_get-map flat_variable ds v ∙ ap (λ o. elim o as (λ _. Option FlatVariable) [ Some x ↦ Some (flat_variable x) | None ↦ None ]) (slice_get-get_or ds v d h ∙ ap Some (sym e))

-- one variable more is counted
pub counted_more : (m : FlatModelTree) (v : ℕ) (d : FlatVariable) → EachBelowHasOneEquation m v → slice_get m.vars v ≡ Some d → (wants_equation d.role ≡ false) ⊎ HasOneEquation m v → EachBelowHasOneEquation m (v + 1)
counted_more m v d below at one w lt wants =
    elim (cases_lt w v) [
      | inl less ↦ below w less wants
      | inr more ↦
          let same : w ≡ v = omega arith in
          let found : Some wants.variable ≡ Some d = sym wants.at ∙ ap (slice_get m.vars) same ∙ at in
          let variable : wants.variable ≡ d = cc in
          elim one [
            | inl never ↦ absurd (let f : true ≡ false = sym wants.wants ∙ ap (λ (x : FlatVariable). wants_equation x.role) variable ∙ never in cc)
            | inr here ↦ subst (HasOneEquation m) (sym same) here
          ]
    ]

-- all variables are counted
pub counted_all : (m : FlatModelTree) (n : ℕ) → EachBelowHasOneEquation m n → length m.vars ≤ n → EachHasOneEquation m
counted_all m n below h w wants = below w (omega (arith, slice_get_within m.vars w wants.variable wants.at)) wants

-- ---- the equations for a variable

if_push : (b : Bool) (n : ℕ) (long short tail : List ℕ) → long ≡ short ++ tail → (if b then n ∷ long else long) ≡ (if b then n ∷ short else short) ++ tail
if_push true n long short tail e = ap (λ ns. n ∷ ns) e
if_push false n long short tail e = e

-- one equation more
numbers_from-push : (number : ℕ) (es : List FlatEquationTree) (e : FlatEquationTree) (v : ℕ) →
    numbers_from number (es ++ e ∷ []) v ≡ numbers_from number es v ++ (if nat_eq e.target v then (number + length es) ∷ [] else [])
numbers_from-push number [] e v = rw add-zero refl
numbers_from-push number (d ∷ es) e v =
    let there : number + 1 + length es ≡ number + length (d ∷ es) = omega arith in
    if_push (nat_eq d.target v) number _ _ _ (rw there at (numbers_from-push (number + 1) es e v))

module _ (equations : List FlatEquation) (i v : ℕ) (d : FlatEquation) (within : i < length equations) where
  grown : map flat_equation (take (i + 1) equations) ≡ map flat_equation (take i equations) ++ flat_equation (get_or equations i d) ∷ []
  grown = ap (map flat_equation) (take_more equations i d within) ∙ map-append flat_equation (take i equations) (get_or equations i d ∷ [])

  size : length (map flat_equation (take i equations)) ≡ i
  size = length-map (take i equations) flat_equation ∙ length-take-le i equations (omega arith)

  -- an equation for the variable is the next one of its equations
  pub numbers_more : (get_or equations i d).target ≡ v → numbers_from 1 (map flat_equation (take (i + 1) equations)) v ≡ numbers_from 1 (map flat_equation (take i equations)) v ++ (i + 1) ∷ []
  numbers_more same =
      let is : nat_eq (get_or equations i d).target v ≡ true = grind (arith, nat_tests) in
      let there : 1 + length (map flat_equation (take i equations)) ≡ i + 1 = omega (arith, size) in
      ap (λ es. numbers_from 1 es v) grown ∙ numbers_from-push 1 (map flat_equation (take i equations)) (flat_equation (get_or equations i d)) v ∙ rw (is, there) refl

  -- one for another variable is none
  pub numbers_same : ((get_or equations i d).target ≡ v → ⊥) → numbers_from 1 (map flat_equation (take (i + 1) equations)) v ≡ numbers_from 1 (map flat_equation (take i equations)) v
  numbers_same other =
      let not : nat_eq (get_or equations i d).target v ≡ false = grind (arith, nat_tests, other) in
      ap (λ es. numbers_from 1 es v) grown ∙ numbers_from-push 1 (map flat_equation (take i equations)) (flat_equation (get_or equations i d)) v ∙ rw not (append-nil (numbers_from 1 (map flat_equation (take i equations)) v))

-- what is read of a variable is what its equations give
pub given_there : (equations : List FlatEquation) (given : List Given) (v : ℕ) (found : Given) → v < length given → found ≡ get_or given v found →
    IsGiven (numbers_from 1 (map flat_equation equations) v) (get_or given v Never) → IsGiven (numbers_from 1 (map flat_equation equations) v) found
given_there equations given v found within read is =
    subst (IsGiven (numbers_from 1 (map flat_equation equations) v)) (get_or_default given v Never found within ∙ sym read) is
