-- The solved forms of a flat model are a solution, and two solutions agree.
use Rattle.mu_affine.proofs.Common
use Common.{[], ℕ, ◌++◌, ◌+◌, ◌<◌, ◌∙◌, ◌∷◌, ◌≡◌, ◌≢◌, ◌≤◌, action_form, AffineErr, AffineForm}
use Common.{Algebraic, ap, AreFlatFactors, AreFlatTerms, arith, Bool, cases_eq, cases_lt}
use Common.{clause_context, condition_form, Constant, counted, DependsOn, Discrete}
use Common.{equation_context, factor, false, FlatAction, FlatBranchTree, FlatEquationTree}
use Common.{FlatExpression, FlatFactors, FlatModelTree, FlatRole, FlatTerms, FlatVariable, Follow}
use Common.{form_of, forms_of, FormsSoFar, if◌then◌else◌, inl, inr, IsAlgebraic, IsFlatEquation}
use Common.{IsFlatExpression, IsFlatModel, IsOrder, join_forms, keep, keep_actions, keep_branches}
use Common.{keep_clauses, keep_states, kept, length, List, multiply_forms, nat_eq, nat_lt}
use Common.{nat_tests, no_factors, no_terms, None, nothing_taken, Now, Ok, Option, Power, Previous}
use Common.{product_of, raise_form, refl, Result, right_side, Sizes, sizes_of, slice_get, solve}
use Common.{solve_all, Some, State, subst, suc, Sum, sum_form, sym, term, then_form, then_take}
use Common.{true, Variable, zero}
use Rattle.std.proofs.Common.{append-nil, append_assoc}
use Rattle.std.specs.Prelude.{Contains}
use Rattle.std.proofs.lemmas.List.Elements.{All-contains, Contains-append_left}
use Rattle.std.proofs.lemmas.List.Elements.{Contains-append_right, Contains-append_cases}
use Rattle.std.proofs.lemmas.List.Elements.{Contains-push_cases}
use Rattle.mu_tree.specs.FlatExpression.{Product}
use Rattle.mu_tree.specs.FlatModels.{target_role}
use Rattle.mu_causal.specs.Causality.{IsReady}
use Rattle.mu_causal.specs.Dependencies.{names_of, names_of_terms, names_of_factors, WantsEquation}
use Rattle.mu_causal.specs.Dependencies.{wants_equation, numbers_from, EachHasOneEquation}
use Rattle.mu_causal.proofs.Elements.{contained, contained_first, contained_later, none_contained}
use Rattle.mu_affine.specs.FormOf.{variable_form}
use Rattle.mu_affine.specs.Solution.{IsSolution}
use Rattle.mu_affine.proofs.Steps.{parts_of, same_ok}
use Rattle.mu_affine.proofs.Bridges.{state_place, discrete_place}

-- the element of a list with one element
only_one : {A : Type 0} (x y : A) → Contains (x ∷ []) y → x ≡ y
only_one x y h = elim (contained x [] y h) [ inl same ↦ same | inr none_left ↦ absurd (none_contained y none_left) ]

-- two assignments of forms agree on the algebraic names of an expression
abbrev Agree : Sizes → (F G : ℕ → AffineForm) → List ℕ → Type 0
Agree n F G names = (w : ℕ) → Contains names w → n.states + n.discretes ≤ w → F w ≡ G w

agree_left : (n : Sizes) (F G : ℕ → AffineForm) (xs ys : List ℕ) → Agree n F G (xs ++ ys) → Agree n F G xs
agree_left n F G xs ys h w there high = h w (Contains-append_left xs ys w there) high

agree_right : (n : Sizes) (F G : ℕ → AffineForm) (xs ys : List ℕ) → Agree n F G (xs ++ ys) → Agree n F G ys
agree_right n F G xs ys h w there high = h w (Contains-append_right xs ys w there) high

variable_same : (n : Sizes) (F G : ℕ → AffineForm) (v : ℕ) → (n.states + n.discretes ≤ v → F v ≡ G v) → variable_form (equation_context n F) v ≡ variable_form (equation_context n G) v
variable_same n F G v h =
    elim (cases_lt v (n.states + n.discretes)) [
      | inl low ↦ let test : nat_lt v (n.states + n.discretes) ≡ true = grind (arith, nat_tests) in rw test refl
      | inr high ↦ let test : nat_lt v (n.states + n.discretes) ≡ false = grind (arith, nat_tests) in rw test (h high)
    ]

mutual
  -- the form of an expression is that of its names
  same_form : (n : Sizes) (F G : ℕ → AffineForm) (e : FlatExpression) → Agree n F G (names_of e) → form_of (equation_context n F) e ≡ form_of (equation_context n G) e
  same_form n F G (Constant a at) h = refl
  same_form n F G (Variable v at) h = ap (kept (record { sizes = n; in_equation = true }) at) (variable_same n F G v (h v (contained_first v [])))
  same_form n F G (Previous v at) h = refl
  same_form n F G (Now at) h = refl
  same_form n F G (Sum ts) h = same_sum n F G ts _ h
  same_form n F G (Product fs) h = same_product n F G fs _ h
  same_form n F G (Power base exp at) h = ap (λ r. then_form r (raise_form (record { sizes = n; in_equation = true }) exp at)) (same_form n F G base h)

  same_sum : (n : Sizes) (F G : ℕ → AffineForm) (ts : FlatTerms) (total : Result AffineForm AffineErr) → Agree n F G (names_of_terms ts) → sum_form (equation_context n F) total ts ≡ sum_form (equation_context n G) total ts
  same_sum n F G no_terms total h = refl
  same_sum n F G (term minus at e ts) total h =
      ap (λ r. sum_form (equation_context n F) (then_form total (λ f. then_form r (join_forms (record { sizes = n; in_equation = true }) minus at f))) ts) (same_form n F G e (agree_left n F G (names_of e) (names_of_terms ts) h))
      ∙ same_sum n F G ts _ (agree_right n F G (names_of e) (names_of_terms ts) h)

  same_product : (n : Sizes) (F G : ℕ → AffineForm) (fs : FlatFactors) (total : Result AffineForm AffineErr) → Agree n F G (names_of_factors fs) → product_of (equation_context n F) total fs ≡ product_of (equation_context n G) total fs
  same_product n F G no_factors total h = refl
  same_product n F G (factor divide at e fs) total h =
      ap (λ r. product_of (equation_context n F) (then_form total (λ f. then_form r (multiply_forms (record { sizes = n; in_equation = true }) divide at f))) fs) (same_form n F G e (agree_left n F G (names_of e) (names_of_factors fs) h))
      ∙ same_product n F G fs _ (agree_right n F G (names_of e) (names_of_factors fs) h)

mutual
  -- the names of an expression are numbers of variables
  names_within : (vars : List FlatVariable) (may : Bool) (e : FlatExpression) → IsFlatExpression vars may e → (w : ℕ) → Contains (names_of e) w → w < length vars
  names_within vars may (Constant a at) h w there = absurd (none_contained w there)
  names_within vars may (Variable v at) h w there = subst (λ k. k < length vars) (only_one v w there) h
  names_within vars may (Previous v at) h w there = absurd (none_contained w there)
  names_within vars may (Now at) h w there = absurd (none_contained w there)
  names_within vars may (Sum ts) h w there = terms_within vars may ts h w there
  names_within vars may (Product fs) h w there = factors_within vars may fs h w there
  names_within vars may (Power base exp at) h w there = names_within vars may base h.0 w there

  terms_within : (vars : List FlatVariable) (may : Bool) (ts : FlatTerms) → AreFlatTerms vars may ts → (w : ℕ) → Contains (names_of_terms ts) w → w < length vars
  terms_within vars may no_terms h w there = absurd (none_contained w there)
  terms_within vars may (term minus at e ts) h w there =
      elim (Contains-append_cases (names_of e) (names_of_terms ts) w there) [ inl first ↦ names_within vars may e h.0 w first | inr later ↦ terms_within vars may ts h.1 w later ]

  factors_within : (vars : List FlatVariable) (may : Bool) (fs : FlatFactors) → AreFlatFactors vars may fs → (w : ℕ) → Contains (names_of_factors fs) w → w < length vars
  factors_within vars may no_factors h w there = absurd (none_contained w there)
  factors_within vars may (factor divide at e fs) h w there =
      elim (Contains-append_cases (names_of e) (names_of_factors fs) w there) [ inl first ↦ names_within vars may e h.0 w first | inr later ↦ factors_within vars may fs h.1 w later ]

-- a variable past the states and the discrete variables is algebraic
algebraic_from : (m : FlatModelTree) → IsFlatModel m → (w : ℕ) → w < length m.vars → (sizes_of m).states + (sizes_of m).discretes ≤ w → IsAlgebraic m w
algebraic_from m flat w within high = by_variable (slice_get m.vars w) refl
  where
    by_role : (d : FlatVariable) → slice_get m.vars w ≡ Some d → (r : FlatRole) → d.role ≡ r → IsAlgebraic m w
    by_role d at State is = absurd (let low = state_place m flat w (record { variable = d; at = at; is = is }) in omega (arith, low))
    by_role d at Discrete is = absurd (let low = discrete_place m flat w (record { variable = d; at = at; is = is }) in omega (arith, low.1))
    by_role d at Algebraic is = record { variable = d; at = at; role = is }

    by_variable : (r : Option FlatVariable) → slice_get m.vars w ≡ r → IsAlgebraic m w
    by_variable (Some d) at = by_role d at d.role refl
    by_variable None at = absurd (missing m.vars w within at)
      where
        missing : (xs : List FlatVariable) (i : ℕ) → i < length xs → slice_get xs i ≡ None → ⊥
        missing [] i h e = omega arith
        missing (x ∷ xs) zero h e = cc
        missing (x ∷ xs) (suc i) h e = missing xs i (omega arith) e

-- an algebraic variable needs an equation
pub wants : (m : FlatModelTree) (v : ℕ) → IsAlgebraic m v → WantsEquation m v
wants m v h = record { variable = h.variable; at = h.at; wants = ap wants_equation h.role }

-- the equation of a variable that has one
pub equation_there : (es : List FlatEquationTree) (k v number : ℕ) (rest : List ℕ) → numbers_from k es v ≡ number ∷ rest → (e : FlatEquationTree) × Contains es e × (e.target ≡ v)
equation_there [] k v number rest h = absurd (cc)
equation_there (e ∷ es) k v number rest h =
    elim (cases_eq e.target v) [
      | inl same ↦ (e, contained_first e es, same)
      | inr other ↦
          let test : nat_eq e.target v ≡ false = grind (arith, nat_tests) in
          let found = equation_there es (k + 1) v number rest (rw test at h) in
          (found.0, contained_later e es found.0 found.1, found.2)
    ]

-- no equation for a variable is left
none_left : (es : List FlatEquationTree) (k v : ℕ) (e : FlatEquationTree) → numbers_from k es v ≡ [] → Contains es e → e.target ≡ v → ⊥
none_left [] k v e h there same = none_contained e there
none_left (d ∷ es) k v e h there same =
    elim (cases_eq d.target v) [
      | inl here ↦ let test : nat_eq d.target v ≡ true = grind (arith, nat_tests) in let taken = rw test at h in cc
      | inr other ↦
          let test : nat_eq d.target v ≡ false = grind (arith, nat_tests) in
          elim (contained d es e there) [
            | inl is ↦ other (ap (λ (q : FlatEquationTree). q.target) is ∙ same)
            | inr later ↦ none_left es (k + 1) v e (rw test at h) later same
          ]
    ]

-- the right side of a variable with one equation is that of the equation
pub right_is : (es : List FlatEquationTree) (k v number : ℕ) (e : FlatEquationTree) → numbers_from k es v ≡ number ∷ [] → Contains es e → e.target ≡ v → right_side es v ≡ e.value
right_is [] k v number e h there same = absurd (none_contained e there)
right_is (d ∷ es) k v number e h there same =
    elim (cases_eq d.target v) [
      | inl here ↦
          let test : nat_eq d.target v ≡ true = grind (arith, nat_tests) in
          let rest : numbers_from (k + 1) es v ≡ [] = let taken = rw test at h in cc in
          elim (contained d es e there) [
            | inl is ↦ rw test (ap (λ (q : FlatEquationTree). q.value) is)
            | inr later ↦ absurd (none_left es (k + 1) v e rest later same)
          ]
      | inr other ↦
          let test : nat_eq d.target v ≡ false = grind (arith, nat_tests) in
          elim (contained d es e there) [
            | inl is ↦ absurd (other (ap (λ (q : FlatEquationTree). q.target) is ∙ same))
            | inr later ↦ rw test (right_is es (k + 1) v number e (rw test at h) later same)
          ]
    ]

-- what an algebraic variable's right side names among algebraic ones is what it depends on
pub named_depends : (m : FlatModelTree) → IsFlatModel m → EachHasOneEquation m → (v : ℕ) → IsAlgebraic m v → (w : ℕ) → Contains (names_of (right_side m.equations v)) w → (sizes_of m).states + (sizes_of m).discretes ≤ w → DependsOn m v w
named_depends m flat counted v algebraic w named high =
    let one = counted v (wants m v algebraic) in
    let found = equation_there m.equations 1 v one.0 [] one.1 in
    let side : right_side m.equations v ≡ found.0.value = right_is m.equations 1 v one.0 found.0 one.1 found.1 found.2 in
    let there : Contains (names_of found.0.value) w = subst (λ e. Contains (names_of e) w) side named in
    let is_flat : IsFlatEquation m.vars found.0 = All-contains (IsFlatEquation m.vars) m.equations found.0 flat.equations found.1 in
    record {
      equation = found.0;
      there = found.1;
      target = found.2;
      named = there;
      from_algebraic = algebraic;
      to_algebraic = algebraic_from m flat w (names_within m.vars false found.0.value is_flat.1 w there) high;
    }

-- the listed variables have the forms of their right sides, which name listed ones
record IsSound (m : FlatModelTree) (listed : List ℕ) (F : ℕ → AffineForm) : Type 0 where
  solves : (v : ℕ) → Contains listed v → form_of (equation_context (sizes_of m) F) (right_side m.equations v) ≡ Ok (F v)
  closed : (v w : ℕ) → Contains listed v → Contains (names_of (right_side m.equations v)) w → (sizes_of m).states + (sizes_of m).discretes ≤ w → Contains listed w

-- the forms with one form more
abbrev with_form : (ℕ → AffineForm) → ℕ → AffineForm → ℕ → AffineForm
with_form F v f w = if nat_eq w v then f else F w

form_new : (F : ℕ → AffineForm) (v : ℕ) (f : AffineForm) → with_form F v f v ≡ f
form_new F v f = let test : nat_eq v v ≡ true = grind (arith, nat_tests) in rw test refl

form_old : (F : ℕ → AffineForm) (v w : ℕ) (f : AffineForm) → w ≢ v → with_form F v f w ≡ F w
form_old F v w f other = let test : nat_eq w v ≡ false = grind (arith, nat_tests) in rw test refl

-- one variable more is listed
sound_more : (m : FlatModelTree) → IsFlatModel m → EachHasOneEquation m → (listed : List ℕ) (v : ℕ) (F : ℕ → AffineForm) (f : AffineForm) → IsReady (IsAlgebraic m) (DependsOn m) listed v
    → IsSound m listed F → form_of (equation_context (sizes_of m) F) (right_side m.equations v) ≡ Ok f → IsSound m (listed ++ v ∷ []) (with_form F v f)
sound_more m flat counted listed v F f ready sound form = record {
  solves = λ u there. elim (Contains-push_cases listed v u there) [
    | inl before ↦ same_form (sizes_of m) (with_form F v f) F (right_side m.equations u) (λ w named high. kept_form w (sound.closed u w before named high)) ∙ sound.solves u before ∙ ap Ok (sym (kept_form u before))
    | inr last ↦ subst (λ u. form_of (equation_context (sizes_of m) (with_form F v f)) (right_side m.equations u) ≡ Ok (with_form F v f u)) last
        (same_form (sizes_of m) (with_form F v f) F (right_side m.equations v) (λ w named high. kept_form w (ready.ready w (named_depends m flat counted v ready.there w named high))) ∙ form ∙ ap Ok (sym (form_new F v f)))
  ];
  closed = λ u w there named high. elim (Contains-push_cases listed v u there) [
    | inl before ↦ Contains-append_left listed (v ∷ []) w (sound.closed u w before named high)
    | inr last ↦ Contains-append_left listed (v ∷ []) w (ready.ready w (named_depends m flat counted v ready.there w (subst (λ k. Contains (names_of (right_side m.equations k)) w) (sym last) named) high))
  ];
}
  where
    kept_form : (w : ℕ) → Contains listed w → with_form F v f w ≡ F w
    kept_form w before = form_old F v w f (λ same. ready.unlisted (subst (Contains listed) same before))

-- the order is solved
order_sound : (m : FlatModelTree) → IsFlatModel m → EachHasOneEquation m → (vs listed : List ℕ) (t u : FormsSoFar) → Follow (IsAlgebraic m) (DependsOn m) listed vs → IsSound m listed t.solved → solve_all m vs t ≡ Ok u → IsSound m (listed ++ vs) u.solved
order_sound m flat counted [] listed t u follow sound h =
    let same : t ≡ u = same_ok t u h in
    let all : listed ++ [] ≡ listed = append-nil listed in
    rw all (subst (λ (s : FormsSoFar). IsSound m listed s.solved) same sound)
order_sound m flat counted (v ∷ vs) listed t u follow sound h =
    let step = parts_of (solve m v t) (solve_all m vs) u h in
    let form = parts_of (form_of (equation_context (sizes_of m) t.solved) (right_side m.equations v)) (after_form m v t) step.0 step.1 in
    let count = parts_of (Rattle.mu_affine.specs.FormSequence.counted (sizes_of m) t.count form.0) (λ n. Ok (solved_with t v form.0 n)) step.0 form.2 in
    let is : solved_with t v form.0 count.0 ≡ step.0 = same_ok (solved_with t v form.0 count.0) step.0 count.2 in
    let more : IsSound m (listed ++ v ∷ []) step.0.solved = subst (λ (s : FormsSoFar). IsSound m (listed ++ v ∷ []) s.solved) is (sound_more m flat counted listed v t.solved form.0 follow.0.is_ready sound form.1) in
    subst (λ xs. IsSound m xs u.solved) (append_assoc listed (v ∷ []) vs) (order_sound m flat counted vs (listed ++ v ∷ []) step.0 u follow.1 more step.2)
  where
    solved_with : FormsSoFar → ℕ → AffineForm → ℕ → FormsSoFar
    solved_with t v f n = record { solved = with_form t.solved v f; kept = t.kept; count = n }

    after_form : FlatModelTree → ℕ → FormsSoFar → AffineForm → Result FormsSoFar AffineErr
    after_form m v t f = then_take (Rattle.mu_affine.specs.FormSequence.counted (sizes_of m) t.count f) (λ n. Ok (solved_with t v f n))

-- keeping changes no solved form
pub keep_same : (n : Sizes) (part : Result AffineForm AffineErr) (t u : FormsSoFar) → keep n part t ≡ Ok u → u.solved ≡ t.solved
keep_same n part t u h =
    let form = parts_of part (λ f. then_take (counted n t.count f) (λ count. Ok (kept_with t f count))) u h in
    let count = parts_of (counted n t.count form.0) (λ count. Ok (kept_with t form.0 count)) u form.2 in
    sym (ap (λ (s : FormsSoFar). s.solved) (same_ok (kept_with t form.0 count.0) u count.2))
  where
    kept_with : FormsSoFar → AffineForm → ℕ → FormsSoFar
    kept_with t f count = record { solved = t.solved; kept = t.kept ++ f ∷ []; count = count }

pub states_same : (m : FlatModelTree) (v more : ℕ) (t u : FormsSoFar) → keep_states m v more t ≡ Ok u → u.solved ≡ t.solved
states_same m v zero t u h = sym (ap (λ (s : FormsSoFar). s.solved) (same_ok t u h))
states_same m v (suc more) t u h =
    let step = parts_of (keep (sizes_of m) (form_of (equation_context (sizes_of m) t.solved) (right_side m.equations v)) t) (keep_states m (suc v) more) u h in
    states_same m (suc v) more step.0 u step.2 ∙ keep_same (sizes_of m) (form_of (equation_context (sizes_of m) t.solved) (right_side m.equations v)) t step.0 step.1

pub actions_same : (n : Sizes) (xs : List FlatAction) (t u : FormsSoFar) → keep_actions n xs t ≡ Ok u → u.solved ≡ t.solved
actions_same n [] t u h = sym (ap (λ (s : FormsSoFar). s.solved) (same_ok t u h))
actions_same n (a ∷ xs) t u h =
    let step = parts_of (keep n (action_form (clause_context n t.solved) a) t) (keep_actions n xs) u h in
    actions_same n xs step.0 u step.2 ∙ keep_same n (action_form (clause_context n t.solved) a) t step.0 step.1

pub branches_same : (n : Sizes) (xs : List FlatBranchTree) (t u : FormsSoFar) → keep_branches n xs t ≡ Ok u → u.solved ≡ t.solved
branches_same n [] t u h = sym (ap (λ (s : FormsSoFar). s.solved) (same_ok t u h))
branches_same n (b ∷ xs) t u h =
    let step = parts_of (keep n (condition_form (clause_context n t.solved) b) t) (λ s. then_take (keep_actions n b.body s) (keep_branches n xs)) u h in
    let body = parts_of (keep_actions n b.body step.0) (keep_branches n xs) u step.2 in
    branches_same n xs body.0 u body.2 ∙ actions_same n b.body step.0 body.0 body.1 ∙ keep_same n (condition_form (clause_context n t.solved) b) t step.0 step.1

pub clauses_same : (n : Sizes) (xs : List (List FlatBranchTree)) (t u : FormsSoFar) → keep_clauses n xs t ≡ Ok u → u.solved ≡ t.solved
clauses_same n [] t u h = sym (ap (λ (s : FormsSoFar). s.solved) (same_ok t u h))
clauses_same n (bs ∷ xs) t u h =
    let step = parts_of (keep_branches n bs t) (keep_clauses n xs) u h in
    clauses_same n xs step.0 u step.2 ∙ branches_same n bs t step.0 step.1

-- at first nothing is listed
sound_none : (m : FlatModelTree) (F : ℕ → AffineForm) → IsSound m [] F
sound_none m F = record { solves = λ v there. absurd (none_contained v there); closed = λ v w there named high. absurd (none_contained v there) }

-- the target of an equation for an algebraic variable
algebraic_target : (m : FlatModelTree) (e : FlatEquationTree) → IsFlatEquation m.vars e → e.der ≡ false → IsAlgebraic m e.target
algebraic_target m e h der = record { variable = h.0.variable; at = h.0.at; role = h.0.is ∙ ap target_role der }

-- the solved forms are a solution
pub solved_solve : (m : FlatModelTree) (order : List ℕ) (taken : FormsSoFar) → IsFlatModel m → EachHasOneEquation m → IsOrder (IsAlgebraic m) (DependsOn m) order → forms_of m order ≡ Ok taken → IsSolution (sizes_of m) m.equations taken.solved
solved_solve m order taken flat counted in_order h e there der =
    let solved = parts_of (solve_all m order nothing_taken) (λ t. then_take (keep_states m 0 (sizes_of m).states t) (keep_clauses (sizes_of m) m.clauses)) taken h in
    let states = parts_of (keep_states m 0 (sizes_of m).states solved.0) (keep_clauses (sizes_of m) m.clauses) taken solved.2 in
    let same : taken.solved ≡ solved.0.solved = clauses_same (sizes_of m) m.clauses states.0 taken states.2 ∙ states_same m 0 (sizes_of m).states solved.0 states.0 states.1 in
    let sound : IsSound m ([] ++ order) solved.0.solved = order_sound m flat counted order [] nothing_taken solved.0 in_order.each (sound_none m nothing_taken.solved) solved.1 in
    let algebraic : IsAlgebraic m e.target = algebraic_target m e (All-contains (IsFlatEquation m.vars) m.equations e flat.equations there) der in
    let one = counted e.target (wants m e.target algebraic) in
    let side : right_side m.equations e.target ≡ e.value = right_is m.equations 1 e.target one.0 e one.1 there refl in
    let solves = sound.solves e.target (in_order.all e.target algebraic) in
    subst (λ F. form_of (equation_context (sizes_of m) F) e.value ≡ Ok (F e.target)) (sym same)
    (ap (form_of (equation_context (sizes_of m) solved.0.solved)) (sym side) ∙ solves)

-- an equation for an algebraic variable is for no derivative
pub no_derivative : (m : FlatModelTree) (e : FlatEquationTree) (v : ℕ) → IsFlatEquation m.vars e → e.target ≡ v → IsAlgebraic m v → e.der ≡ false
no_derivative m e v h target algebraic =
    let at : slice_get m.vars v ≡ Some h.0.variable = sym (ap (slice_get m.vars) target) ∙ h.0.at in
    let same : h.0.variable ≡ algebraic.variable = let both = algebraic.at in cc in
    by_kind e.der (sym h.0.is ∙ ap (λ (d : FlatVariable). d.role) same ∙ algebraic.role)
  where
    by_kind : (der : Bool) → target_role der ≡ Algebraic → der ≡ false
    by_kind true role = absurd (cc)
    by_kind false role = refl

-- two solutions agree along an order
agree_along : (m : FlatModelTree) → IsFlatModel m → EachHasOneEquation m → (F G : ℕ → AffineForm) → IsSolution (sizes_of m) m.equations F → IsSolution (sizes_of m) m.equations G
    → (vs listed : List ℕ) → Follow (IsAlgebraic m) (DependsOn m) listed vs → ((v : ℕ) → Contains listed v → F v ≡ G v) → (v : ℕ) → Contains (listed ++ vs) v → F v ≡ G v
agree_along m flat counted F G first second [] listed follow same v there = same v (subst (λ xs. Contains xs v) (append-nil listed) there)
agree_along m flat counted F G first second (u ∷ vs) listed follow same v there =
    agree_along m flat counted F G first second vs (listed ++ u ∷ []) follow.1 more v (subst (λ xs. Contains xs v) (sym (append_assoc listed (u ∷ []) vs)) there)
  where
    here : F u ≡ G u
    here =
        let ready = follow.0.is_ready in
        let one = counted u (wants m u ready.there) in
        let found = equation_there m.equations 1 u one.0 [] one.1 in
        let side : right_side m.equations u ≡ found.0.value = right_is m.equations 1 u one.0 found.0 one.1 found.1 found.2 in
        let der : found.0.der ≡ false = no_derivative m found.0 u (All-contains (IsFlatEquation m.vars) m.equations found.0 flat.equations found.1) found.2 ready.there in
        let forms : form_of (equation_context (sizes_of m) F) found.0.value ≡ form_of (equation_context (sizes_of m) G) found.0.value =
        same_form (sizes_of m) F G found.0.value (λ w named high. same w (ready.ready w (named_depends m flat counted u ready.there w (subst (λ e. Contains (names_of e) w) (sym side) named) high))) in
        let both : F found.0.target ≡ G found.0.target = same_ok (F found.0.target) (G found.0.target) (sym (first found.0 found.1 der) ∙ forms ∙ second found.0 found.1 der) in
        subst (λ k. F k ≡ G k) found.2 both

    more : (w : ℕ) → Contains (listed ++ u ∷ []) w → F w ≡ G w
    more w held = elim (Contains-push_cases listed u w held) [ inl before ↦ same w before | inr last ↦ subst (λ k. F k ≡ G k) last here ]

-- two solutions agree on the algebraic variables
pub solutions_same : (m : FlatModelTree) (order : List ℕ) (F G : ℕ → AffineForm) → IsFlatModel m → EachHasOneEquation m → IsOrder (IsAlgebraic m) (DependsOn m) order
    → IsSolution (sizes_of m) m.equations F → IsSolution (sizes_of m) m.equations G → (v : ℕ) → IsAlgebraic m v → F v ≡ G v
solutions_same m order F G flat counted in_order first second v algebraic =
    agree_along m flat counted F G first second order [] in_order.each (λ w there. absurd (none_contained w there)) v (in_order.all v algebraic)
