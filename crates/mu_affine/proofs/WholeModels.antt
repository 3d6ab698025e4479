-- The forms of a flat model as a whole: what the parts are given, and what they answer together.
use Rattle.mu_affine.proofs.Common
use Common.{[], ℕ, ◌++◌, ◌+◌, ◌<◌, ◌^◌, ◌∙◌, ◌∷◌, ◌≡◌, ◌≤◌, AffineErr, AffineForm, All, All-cons}
use Common.{All-nil, All-weaker, ap, AreForms, arith, clause_place, count_of_role, CountedForms}
use Common.{DependsOn, Discrete, equation_place, flat_model, flat_variable, FlatBranchTree}
use Common.{FlatModel, FlatModelTree, Follow, form_meaning, Forms, forms_in, FormsSoFar}
use Common.{IsAffineFault, IsAlgebraic, IsFaultOf, IsFinished, IsFlatAction, IsFlatBranch}
use Common.{IsFlatClause, IsFlatEquation, IsFlatModel, IsKept, IsNumbered, IsNumberedAction}
use Common.{IsNumberedBranch, IsOrder, keep_clauses, keep_states, kept_so_far, length, length-map}
use Common.{List, map, nothing_taken, of_clauses, of_equations, Ok, Result, Sizes, sizes_of}
use Common.{slice_get, slice_get_within, solve_all, solved_so_far, State, subst, sym, then_take}
use Rattle.std.proofs.Common.{ap₂}
use Rattle.mu_affine.proofs.Bridges.{sizes_fit, sizes_within, equation_numbered, left_numbered}
use Rattle.mu_affine.proofs.Bridges.{right_numbered, action_numbered}
use Rattle.mu_affine.proofs.Steps.{after, fault_then, fault_after, fault_same, whole_fault}

-- the sizes, one by one
pub sizes_same : (m : FlatModelTree) (n : Sizes) → n.states ≡ count_of_role State m.vars → n.discretes ≡ count_of_role Discrete m.vars → n ≡ sizes_of m
sizes_same m n states discretes = ap₂ (λ (s d : ℕ). let z : Sizes = record { states = s; discretes = d } in z) states discretes

-- they fit
pub sizes_small : (m : FlatModelTree) (n : Sizes) → n ≡ sizes_of m → IsFlatModel m → n.states + n.discretes + n.discretes < 2 ^ 32
sizes_small m n sizes flat = subst (λ (z : Sizes). z.states + z.discretes + z.discretes < 2 ^ 32) (sym sizes) (sizes_fit m flat)

-- there are at least as many variables as states
pub states_few : (m : FlatModelTree) (n : Sizes) (variables : ℕ) → n ≡ sizes_of m → variables ≡ length m.vars → n.states ≤ variables
states_few m n variables sizes count = subst (λ (z : Sizes). z.states ≤ variables) (sym sizes) (omega (arith, sizes_within m, count))

-- a list with one element for each variable
pub one_for_each : {A : Type 0} (m : FlatModel) (xs ys : List A) (variables : ℕ) → xs ≡ ys → length ys ≡ variables → variables ≡ length m.vars.items → length xs ≡ length (flat_model m).vars
one_for_each m xs ys variables same one_each count = ap length same ∙ one_each ∙ count ∙ sym (length-map m.vars.items flat_variable)

-- equations are for variables
pub targets_within : (m : FlatModelTree) → IsFlatModel m → All (λ e. e.target < length m.vars) m.equations
targets_within m flat = All-weaker (IsFlatEquation m.vars) (λ e. e.target < length m.vars) (λ e h. slice_get_within m.vars e.target h.0.variable h.0.at) m.equations flat.equations

-- their right sides are numbered
pub equations_numbered : (m : FlatModelTree) (n : Sizes) (variables : ℕ) → n ≡ sizes_of m → variables ≡ length m.vars → IsFlatModel m → All (λ e. IsNumbered (of_equations n) variables e.value) m.equations
equations_numbered m n variables sizes count flat =
    subst (λ k. All (λ e. IsNumbered (of_equations k) variables e.value) m.equations) (sym sizes)
    (subst (λ k. All (λ e. IsNumbered (equation_place m) k e.value) m.equations) (sym count)
    (All-weaker (IsFlatEquation m.vars) (λ e. IsNumbered (equation_place m) (length m.vars) e.value) (λ e h. equation_numbered m e h) m.equations flat.equations))

-- and so are clauses
branch_numbered : (m : FlatModelTree) → IsFlatModel m → (b : FlatBranchTree) → IsFlatBranch m.vars b → IsNumberedBranch (clause_place m) (length m.vars) b
branch_numbered m flat b h = record {
  left = left_numbered m flat b h;
  right = right_numbered m flat b h;
  body = All-weaker (IsFlatAction m.vars) (IsNumberedAction (clause_place m) (length m.vars)) (λ a is. action_numbered m flat a is) b.body h.2;
}

pub clauses_numbered : (m : FlatModelTree) (n : Sizes) (variables : ℕ) → n ≡ sizes_of m → variables ≡ length m.vars → IsFlatModel m → All (All (IsNumberedBranch (of_clauses n) variables)) m.clauses
clauses_numbered m n variables sizes count flat =
    subst (λ k. All (All (IsNumberedBranch (of_clauses k) variables)) m.clauses) (sym sizes)
    (subst (λ k. All (All (IsNumberedBranch (clause_place m) k)) m.clauses) (sym count)
    (All-weaker (IsFlatClause m.vars) (All (IsNumberedBranch (clause_place m) (length m.vars))) (λ bs h. All-weaker (IsFlatBranch m.vars) (IsNumberedBranch (clause_place m) (length m.vars)) (branch_numbered m flat) bs h.1) m.clauses flat.clauses))

-- an order lists variables
follow_within : (m : FlatModelTree) (listed vs : List ℕ) → Follow (IsAlgebraic m) (DependsOn m) listed vs → All (λ v. v < length m.vars) vs
follow_within m listed [] h = All-nil (λ v. v < length m.vars)
follow_within m listed (v ∷ vs) h =
    let algebraic = h.0.is_ready.there in
    All-cons (λ w. w < length m.vars) v vs (slice_get_within m.vars v algebraic.variable algebraic.at) (follow_within m (listed ++ v ∷ []) vs h.1)

pub order_within : (m : FlatModelTree) (order : List ℕ) (variables : ℕ) → variables ≡ length m.vars → IsOrder (IsAlgebraic m) (DependsOn m) order → All (λ v. v < variables) order
order_within m order variables count h = subst (λ k. All (λ v. v < k) order) (sym count) (follow_within m [] order h.each)

-- what follows the solved forms
abbrev after_solving : FlatModelTree → FormsSoFar → Result FormsSoFar AffineErr
after_solving m t = then_take (keep_states m 0 (sizes_of m).states t) (keep_clauses (sizes_of m) m.clauses)

-- nothing is kept yet
starts : (s k : CountedForms) → k.forms.items ≡ [] → k.count ≡ s.count → solved_so_far s ≡ kept_so_far s.forms.items k
starts s k none_kept same_count =
    let taken : List AffineForm → ℕ → FormsSoFar = λ forms count. record { solved = forms_in s.forms.items; kept = forms; count = count } in
    ap (taken []) (sym same_count) ∙ ap (λ xs. taken (map form_meaning xs) k.count) (sym none_kept)

states_there : (m : FlatModelTree) (n : Sizes) (s k : CountedForms) → n ≡ sizes_of m → k.forms.items ≡ [] → k.count ≡ s.count
    → keep_states m 0 (sizes_of m).states (solved_so_far s) ≡ keep_states m 0 n.states (kept_so_far s.forms.items k)
states_there m n s k sizes none_kept same_count =
    ap (keep_states m 0 (sizes_of m).states) (starts s k none_kept same_count) ∙ ap (λ (z : Sizes). keep_states m 0 z.states (kept_so_far s.forms.items k)) (sym sizes)

-- all forms are there
pub whole_done : (m : FlatModelTree) (order : List ℕ) (n : Sizes) (s k between new : CountedForms) (f : Forms) → n ≡ sizes_of m → k.forms.items ≡ [] → k.count ≡ s.count
    → solve_all m order nothing_taken ≡ Ok (solved_so_far s) → keep_states m 0 n.states (kept_so_far s.forms.items k) ≡ Ok (kept_so_far s.forms.items between)
    → keep_clauses n m.clauses (kept_so_far s.forms.items between) ≡ Ok (kept_so_far s.forms.items new) → IsKept n new → f.forms ≡ new.forms.items → AreForms m order f
whole_done m order n s k between new f sizes none_kept same_count solved states clauses kept same = record {
  taken = kept_so_far s.forms.items new;
  is = after (solve_all m order nothing_taken) (after_solving m) (solved_so_far s) solved
      ∙ after (keep_states m 0 (sizes_of m).states (solved_so_far s)) (keep_clauses (sizes_of m) m.clauses) (kept_so_far s.forms.items between) (states_there m n s k sizes none_kept same_count ∙ states)
      ∙ ap (λ z. keep_clauses z m.clauses (kept_so_far s.forms.items between)) (sym sizes) ∙ clauses;
  meanings = ap (map form_meaning) same;
  states = λ i g below there. subst (λ z. IsFinished (of_equations z) g) sizes (kept.kept.states i g (subst (λ (z : Sizes). i < z.states) (sym sizes) below) (sym (ap (λ xs. slice_get xs i) same) ∙ there));
  others = λ i g above there. subst (λ z. IsFinished (of_clauses z) g) sizes (kept.kept.others i g (subst (λ (z : Sizes). z.states ≤ i) (sym sizes) above) (sym (ap (λ xs. slice_get xs i) same) ∙ there));
}

-- a fault while solving, among the states, and in clauses
pub whole_solve_fault : (m : FlatModelTree) (order : List ℕ) (fault : AffineErr) → IsFaultOf (solve_all m order nothing_taken) fault → IsAffineFault m order fault
whole_solve_fault m order fault h = whole_fault m order fault (fault_then (solve_all m order nothing_taken) (after_solving m) fault h)

pub whole_states_fault : (m : FlatModelTree) (order : List ℕ) (n : Sizes) (s k : CountedForms) (fault : AffineErr) → n ≡ sizes_of m → k.forms.items ≡ [] → k.count ≡ s.count
    → solve_all m order nothing_taken ≡ Ok (solved_so_far s) → IsFaultOf (keep_states m 0 n.states (kept_so_far s.forms.items k)) fault → IsAffineFault m order fault
whole_states_fault m order n s k fault sizes none_kept same_count solved h =
    whole_fault m order fault (fault_after (solve_all m order nothing_taken) (after_solving m) (solved_so_far s) fault solved
    (fault_then (keep_states m 0 (sizes_of m).states (solved_so_far s)) (keep_clauses (sizes_of m) m.clauses) fault
    (fault_same (keep_states m 0 n.states (kept_so_far s.forms.items k)) (keep_states m 0 (sizes_of m).states (solved_so_far s)) fault (sym (states_there m n s k sizes none_kept same_count)) h)))

pub whole_clauses_fault : (m : FlatModelTree) (order : List ℕ) (n : Sizes) (s k between : CountedForms) (fault : AffineErr) → n ≡ sizes_of m → k.forms.items ≡ [] → k.count ≡ s.count
    → solve_all m order nothing_taken ≡ Ok (solved_so_far s) → keep_states m 0 n.states (kept_so_far s.forms.items k) ≡ Ok (kept_so_far s.forms.items between)
    → IsFaultOf (keep_clauses n m.clauses (kept_so_far s.forms.items between)) fault → IsAffineFault m order fault
whole_clauses_fault m order n s k between fault sizes none_kept same_count solved states h =
    whole_fault m order fault (fault_after (solve_all m order nothing_taken) (after_solving m) (solved_so_far s) fault solved
    (fault_after (keep_states m 0 (sizes_of m).states (solved_so_far s)) (keep_clauses (sizes_of m) m.clauses) (kept_so_far s.forms.items between) fault (states_there m n s k sizes none_kept same_count ∙ states)
    (fault_same (keep_clauses n m.clauses (kept_so_far s.forms.items between)) (keep_clauses (sizes_of m) m.clauses (kept_so_far s.forms.items between)) fault (ap (λ z. keep_clauses z m.clauses (kept_so_far s.forms.items between)) sizes) h)))
