-- What a flat model gives for the walk of its expressions: its variables in order, and their numbers.
use Rattle.mu_affine.proofs.Common
use Common.{[], ℕ, ◌+◌, ◌<◌, ◌^◌, ◌∷◌, ◌≡◌, ◌≤◌, Algebraic, ap, AreFlatFactors, AreFlatTerms}
use Common.{AreNumbered, AreNumberedFactors, arith, Assign, Bool, clause_place, Constant}
use Common.{count_of_role, Discrete, equation_place, factor, false, FlatAction, FlatBranchTree}
use Common.{FlatEquationTree, FlatExpression, FlatFactors, FlatModelTree, FlatTerms, FlatVariable}
use Common.{get_or as slice_index_or, IsFlatAction, IsFlatBranch, IsFlatEquation, IsFlatExpression}
use Common.{IsFlatModel, IsNonDecreasing, IsNumbered, IsNumberedAction, IsTrue, length, List, map}
use Common.{no_factors, no_terms, Now, Place, Power, Previous, rank, refl, Restart, sizes_of}
use Common.{slice_get, Some, State, subst, suc, Sum, sym, term, true, Variable, zero}
use Rattle.mu_tree.specs.FlatExpression.{Product}
use Rattle.mu_tree.specs.FlatModels.{HasRole}

-- the rank of a variable
abbrev rank_of : FlatVariable → ℕ
rank_of v = rank v.role

-- a variable's rank in the list of ranks
rank_at : (vs : List FlatVariable) (k : ℕ) (w : FlatVariable) → slice_get vs k ≡ Some w → (slice_index_or (map rank_of vs) k 0 ≡ rank_of w) × (k < length (map rank_of vs))
rank_at [] k w e = absurd (cc)
rank_at (v ∷ vs) zero w e = let same : v ≡ w = cc in (ap rank_of same, omega arith)
rank_at (v ∷ vs) (suc k) w e = let rest = rank_at vs k w e in (rest.0, omega (arith, rest.1))

-- the first rank is at most each
first_rank : (v : FlatVariable) (vs : List FlatVariable) (k : ℕ) (w : FlatVariable) → IsNonDecreasing (map rank_of (v ∷ vs)) → slice_get vs k ≡ Some w → rank_of v ≤ rank_of w
first_rank v vs k w h e = let at = rank_at vs k w e in subst (λ n. rank_of v ≤ n) at.0 (h zero (suc k) 0 (omega arith) (omega (arith, at.1)))

-- the later ranks are in order
later_ranks : (v : FlatVariable) (vs : List FlatVariable) → IsNonDecreasing (map rank_of (v ∷ vs)) → IsNonDecreasing (map rank_of vs)
later_ranks v vs h = λ i j d before within. h (suc i) (suc j) d (omega arith) (omega arith)

-- how many states and discrete variables a list has
abbrev few : List FlatVariable → ℕ
few vs = count_of_role State vs + count_of_role Discrete vs

-- one variable more
one_state : (v : FlatVariable) (vs : List FlatVariable) → rank_of v ≤ 0 → count_of_role State (v ∷ vs) ≡ suc (count_of_role State vs)
one_state v vs =
    elim v.role as (λ r. rank r ≤ 0 → count_of_role State (record v { role = r } ∷ vs) ≡ suc (count_of_role State vs)) [
      | State ↦ λ h. omega arith
      | Discrete ↦ λ h. absurd (omega arith)
      | Algebraic ↦ λ h. absurd (omega arith)
    ]

no_state : (v : FlatVariable) (vs : List FlatVariable) → 1 ≤ rank_of v → count_of_role State (v ∷ vs) ≡ count_of_role State vs
no_state v vs =
    elim v.role as (λ r. 1 ≤ rank r → count_of_role State (record v { role = r } ∷ vs) ≡ count_of_role State vs) [
      | State ↦ λ h. absurd (omega arith)
      | Discrete ↦ λ h. omega arith
      | Algebraic ↦ λ h. omega arith
    ]

at_most_one_state : (v : FlatVariable) (vs : List FlatVariable) → count_of_role State (v ∷ vs) ≤ suc (count_of_role State vs)
at_most_one_state v vs =
    elim v.role as (λ r. count_of_role State (record v { role = r } ∷ vs) ≤ suc (count_of_role State vs)) [
      | State ↦ omega arith
      | Discrete ↦ omega arith
      | Algebraic ↦ omega arith
    ]

one_of_few : (v : FlatVariable) (vs : List FlatVariable) → rank_of v ≤ 1 → few (v ∷ vs) ≡ suc (few vs)
one_of_few v vs =
    elim v.role as (λ r. rank r ≤ 1 → few (record v { role = r } ∷ vs) ≡ suc (few vs)) [
      | State ↦ λ h. omega arith
      | Discrete ↦ λ h. omega arith
      | Algebraic ↦ λ h. absurd (omega arith)
    ]

none_of_few : (v : FlatVariable) (vs : List FlatVariable) → 2 ≤ rank_of v → few (v ∷ vs) ≡ few vs
none_of_few v vs =
    elim v.role as (λ r. 2 ≤ rank r → few (record v { role = r } ∷ vs) ≡ few vs) [
      | State ↦ λ h. absurd (omega arith)
      | Discrete ↦ λ h. absurd (omega arith)
      | Algebraic ↦ λ h. omega arith
    ]

at_most_one_of_few : (v : FlatVariable) (vs : List FlatVariable) → few (v ∷ vs) ≤ suc (few vs)
at_most_one_of_few v vs =
    elim v.role as (λ r. few (record v { role = r } ∷ vs) ≤ suc (few vs)) [
      | State ↦ omega arith
      | Discrete ↦ omega arith
      | Algebraic ↦ omega arith
    ]

-- states and discrete variables are variables
few_within : (vs : List FlatVariable) → few vs ≤ length vs
few_within [] = omega arith
few_within (v ∷ vs) = omega (arith, at_most_one_of_few v vs, few_within vs)

-- states have numbers below their count
state_below : (vs : List FlatVariable) (k : ℕ) (w : FlatVariable) → IsNonDecreasing (map rank_of vs) → slice_get vs k ≡ Some w → rank_of w ≤ 0 → k < count_of_role State vs
state_below [] k w h e r = absurd (cc)
state_below (v ∷ vs) zero w h e r = let same : v ≡ w = cc in omega (arith, one_state v vs (subst (λ x. rank_of x ≤ 0) (sym same) r))
state_below (v ∷ vs) (suc k) w h e r =
    let first : rank_of v ≤ rank_of w = first_rank v vs k w h e in
    omega (arith, one_state v vs (omega arith), state_below vs k w (later_ranks v vs h) e r)

-- states and discrete variables have numbers below their count
few_below : (vs : List FlatVariable) (k : ℕ) (w : FlatVariable) → IsNonDecreasing (map rank_of vs) → slice_get vs k ≡ Some w → rank_of w ≤ 1 → k < few vs
few_below [] k w h e r = absurd (cc)
few_below (v ∷ vs) zero w h e r = let same : v ≡ w = cc in omega (arith, one_of_few v vs (subst (λ x. rank_of x ≤ 1) (sym same) r))
few_below (v ∷ vs) (suc k) w h e r =
    let first : rank_of v ≤ rank_of w = first_rank v vs k w h e in
    omega (arith, one_of_few v vs (omega arith), few_below vs k w (later_ranks v vs h) e r)

-- where the ranks begin above those of states there are none
no_states : (v : FlatVariable) (vs : List FlatVariable) → IsNonDecreasing (map rank_of (v ∷ vs)) → 1 ≤ rank_of v → count_of_role State (v ∷ vs) ≡ 0
no_states v [] h r = omega (arith, no_state v [] r)
no_states v (u ∷ us) h r =
    let first : rank_of v ≤ rank_of u = first_rank v (u ∷ us) zero u h cc in
    omega (arith, no_state v (u ∷ us) r, no_states u us (later_ranks v (u ∷ us) h) (omega arith))

-- the same of states and discrete variables
none_few : (v : FlatVariable) (vs : List FlatVariable) → IsNonDecreasing (map rank_of (v ∷ vs)) → 2 ≤ rank_of v → few (v ∷ vs) ≡ 0
none_few v [] h r = omega (arith, none_of_few v [] r)
none_few v (u ∷ us) h r =
    let first : rank_of v ≤ rank_of u = first_rank v (u ∷ us) zero u h cc in
    omega (arith, none_of_few v (u ∷ us) r, none_few u us (later_ranks v (u ∷ us) h) (omega arith))

-- what is no state has a number after the states
after_states : (vs : List FlatVariable) (k : ℕ) (w : FlatVariable) → IsNonDecreasing (map rank_of vs) → slice_get vs k ≡ Some w → 1 ≤ rank_of w → count_of_role State vs ≤ k
after_states [] k w h e r = absurd (cc)
after_states (v ∷ vs) zero w h e r = let same : v ≡ w = cc in omega (arith, no_states v vs h (subst (λ x. 1 ≤ rank_of x) (sym same) r))
after_states (v ∷ vs) (suc k) w h e r = omega (arith, at_most_one_state v vs, after_states vs k w (later_ranks v vs h) e r)

-- algebraic variables have numbers after the states and the discrete variables
after_few : (vs : List FlatVariable) (k : ℕ) (w : FlatVariable) → IsNonDecreasing (map rank_of vs) → slice_get vs k ≡ Some w → 2 ≤ rank_of w → few vs ≤ k
after_few [] k w h e r = absurd (cc)
after_few (v ∷ vs) zero w h e r = let same : v ≡ w = cc in omega (arith, none_few v vs h (subst (λ x. 2 ≤ rank_of x) (sym same) r))
after_few (v ∷ vs) (suc k) w h e r = omega (arith, at_most_one_of_few v vs, after_few vs k w (later_ranks v vs h) e r)

-- the place of a state, of a discrete variable and of an algebraic one
pub state_place : (m : FlatModelTree) → IsFlatModel m → (v : ℕ) → HasRole m.vars v State → v < (sizes_of m).states
state_place m h v has = state_below m.vars v has.variable h.in_order has.at (omega (arith, ap rank has.is))

pub discrete_place : (m : FlatModelTree) → IsFlatModel m → (v : ℕ) → HasRole m.vars v Discrete → ((sizes_of m).states ≤ v) × (v < (sizes_of m).states + (sizes_of m).discretes)
discrete_place m h v has =
    (after_states m.vars v has.variable h.in_order has.at (omega (arith, ap rank has.is)), few_below m.vars v has.variable h.in_order has.at (omega (arith, ap rank has.is)))

pub algebraic_place : (m : FlatModelTree) → IsFlatModel m → (v : ℕ) → HasRole m.vars v Algebraic → (sizes_of m).states + (sizes_of m).discretes ≤ v
algebraic_place m h v has = after_few m.vars v has.variable h.in_order has.at (omega (arith, ap rank has.is))

-- the sizes are within the number of variables, and twice that fits a number
pub sizes_within : (m : FlatModelTree) → (sizes_of m).states + (sizes_of m).discretes ≤ length m.vars
sizes_within m = few_within m.vars

pub sizes_fit : (m : FlatModelTree) → IsFlatModel m → (sizes_of m).states + (sizes_of m).discretes + (sizes_of m).discretes < 2 ^ 32
sizes_fit m h = omega (arith, sizes_within m, h.variables)

-- where previous values are allowed
abbrev Allows : List FlatVariable → Bool → Place → Type 0
Allows vars may p = IsTrue may → (v : ℕ) → HasRole vars v Discrete → (p.in_equation ≡ false) × (v < p.sizes.states + p.sizes.discretes)

mutual
  expression_numbered : (vars : List FlatVariable) (may : Bool) (p : Place) → Allows vars may p → (e : FlatExpression) → IsFlatExpression vars may e → IsNumbered p (length vars) e
  expression_numbered vars may p allows (Constant a at) h = tt
  expression_numbered vars may p allows (Variable v at) h = h
  expression_numbered vars may p allows (Previous v at) h = allows h.0 v h.1
  expression_numbered vars may p allows (Now at) h = tt
  expression_numbered vars may p allows (Sum ts) h = terms_numbered vars may p allows ts h
  expression_numbered vars may p allows (Product fs) h = factors_numbered vars may p allows fs h
  expression_numbered vars may p allows (Power e exp at) h = expression_numbered vars may p allows e h.0

  terms_numbered : (vars : List FlatVariable) (may : Bool) (p : Place) → Allows vars may p → (ts : FlatTerms) → AreFlatTerms vars may ts → AreNumbered p (length vars) ts
  terms_numbered vars may p allows no_terms h = tt
  terms_numbered vars may p allows (term minus at e ts) h = (expression_numbered vars may p allows e h.0, terms_numbered vars may p allows ts h.1)

  factors_numbered : (vars : List FlatVariable) (may : Bool) (p : Place) → Allows vars may p → (fs : FlatFactors) → AreFlatFactors vars may fs → AreNumberedFactors p (length vars) fs
  factors_numbered vars may p allows no_factors h = tt
  factors_numbered vars may p allows (factor divide at e fs) h = (expression_numbered vars may p allows e h.0, factors_numbered vars may p allows fs h.1)

-- equations have no previous values
nowhere : (vars : List FlatVariable) (p : Place) → Allows vars false p
nowhere vars p h v has = absurd (cc)

-- clauses have those of discrete variables
in_clauses : (m : FlatModelTree) → IsFlatModel m → Allows m.vars true (clause_place m)
in_clauses m h may v has = (refl, (discrete_place m h v has).1)

-- the numbers in the right side of an equation, in a condition and in a statement
pub equation_numbered : (m : FlatModelTree) (e : FlatEquationTree) → IsFlatEquation m.vars e → IsNumbered (equation_place m) (length m.vars) e.value
equation_numbered m e h = expression_numbered m.vars false (equation_place m) (nowhere m.vars (equation_place m)) e.value h.1

pub left_numbered : (m : FlatModelTree) → IsFlatModel m → (b : FlatBranchTree) → IsFlatBranch m.vars b → IsNumbered (clause_place m) (length m.vars) b.left
left_numbered m h b flat = expression_numbered m.vars true (clause_place m) (in_clauses m h) b.left flat.0

pub right_numbered : (m : FlatModelTree) → IsFlatModel m → (b : FlatBranchTree) → IsFlatBranch m.vars b → IsNumbered (clause_place m) (length m.vars) b.right
right_numbered m h b flat = expression_numbered m.vars true (clause_place m) (in_clauses m h) b.right flat.1

pub action_numbered : (m : FlatModelTree) → IsFlatModel m → (a : FlatAction) → IsFlatAction m.vars a → IsNumberedAction (clause_place m) (length m.vars) a
action_numbered m h (Assign v e) flat = expression_numbered m.vars true (clause_place m) (in_clauses m h) e flat.1
action_numbered m h (Restart v e) flat = expression_numbered m.vars true (clause_place m) (in_clauses m h) e flat.1
