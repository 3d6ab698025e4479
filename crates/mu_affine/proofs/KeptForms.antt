-- Forms that are kept, one after another.
use Rattle.mu_affine.proofs.Common
use Common.{[], ℕ, ◌++◌, ◌+◌, ◌-◌, ◌<◌, ◌^◌, ◌∙◌, ◌∷◌, ◌≡◌, ◌≤◌, ◌⊎◌, action_form, AffineErr}
use Common.{AffineForm, ap, AreKept, arith, clause_context, condition_form, counted, CountedForms}
use Common.{drop, equation_context, ExactForm, flat_action, flat_branch, flat_clause, FlatBranch}
use Common.{FlatClause, FlatModelTree, FlatStatement, form_meaning, form_of, forms_in, FormsSoFar}
use Common.{get_or, inl, inr, IsFaultOf, IsFinished, IsKept, keep, keep_actions, keep_branches}
use Common.{keep_clauses, keep_states, kept_so_far, length, length_push, List, map, None}
use Common.{of_clauses, of_equations, Ok, refl, Result, right_side, Sizes, sizes_of, slice_get}
use Common.{Some, subst, suc, sym, then_take, zero}
use Rattle.std.proofs.lemmas.List.{map_push}
use Rattle.mu_affine.proofs.Steps.{after, fault_then, fault_after, fault_same, actions_from}
use Rattle.mu_affine.proofs.Steps.{branches_from, clauses_from}

-- an element of a list with one element more
push_cases : {A : Type 0} (xs : List A) (x : A) (i : ℕ) (g : A) → slice_get (xs ++ x ∷ []) i ≡ Some g → (slice_get xs i ≡ Some g) ⊎ ((i ≡ length xs) × (x ≡ g))
push_cases [] x zero g e = inr (refl, cc)
push_cases [] x (suc i) g e = absurd (cc)
push_cases (y ∷ ys) x zero g e = inl e
push_cases (y ∷ ys) x (suc i) g e =
    elim (push_cases ys x i g e) [
      | inl there ↦ inl there
      | inr last ↦ inr (ap (λ n. suc n) last.0, last.1)
    ]

-- no form is kept yet
pub none_kept : (n : Sizes) (forms : List ExactForm) → forms ≡ [] → AreKept n forms
none_kept n forms h = record {
  states = λ i g low there. absurd (let e : slice_get forms i ≡ None = ap (λ xs. slice_get xs i) h in cc);
  others = λ i g high there. absurd (let e : slice_get forms i ≡ None = ap (λ xs. slice_get xs i) h in cc);
}

-- the form of a state is kept
pub state_kept : (n : Sizes) (old new : List ExactForm) (f : ExactForm) → AreKept n old → length old < n.states → IsFinished (of_equations n) f → new ≡ old ++ f ∷ [] → AreKept n new
state_kept n old new f kept low finished push = record {
  states = λ i g below there. elim (push_cases old f i g (ap (λ xs. slice_get xs i) (sym push) ∙ there)) [
    | inl before ↦ kept.states i g below before
    | inr last ↦ subst (IsFinished (of_equations n)) last.1 finished
  ];
  others = λ i g above there. elim (push_cases old f i g (ap (λ xs. slice_get xs i) (sym push) ∙ there)) [
    | inl before ↦ kept.others i g above before
    | inr last ↦ absurd (omega (arith, last.0))
  ];
}

-- a form of a clause is kept
pub other_kept : (n : Sizes) (old new : List ExactForm) (f : ExactForm) → AreKept n old → n.states ≤ length old → IsFinished (of_clauses n) f → new ≡ old ++ f ∷ [] → AreKept n new
other_kept n old new f kept high finished push = record {
  states = λ i g below there. elim (push_cases old f i g (ap (λ xs. slice_get xs i) (sym push) ∙ there)) [
    | inl before ↦ kept.states i g below before
    | inr last ↦ absurd (omega (arith, last.0))
  ];
  others = λ i g above there. elim (push_cases old f i g (ap (λ xs. slice_get xs i) (sym push) ∙ there)) [
    | inl before ↦ kept.others i g above before
    | inr last ↦ subst (IsFinished (of_clauses n)) last.1 finished
  ];
}

pub length_kept : (old new : List ExactForm) (f : ExactForm) → new ≡ old ++ f ∷ [] → length new ≡ length old + 1
length_kept old new f push = ap length push ∙ length_push old f

pub one_kept : (n : Sizes) (old new : CountedForms) (f : ExactForm) → IsKept n old → IsFinished (of_clauses n) f → new.forms.items ≡ old.forms.items ++ f ∷ [] → new.count ≤ 2 ^ 16 → IsKept n new
one_kept n old new f kept finished push few = record {
  kept = other_kept n old.forms.items new.forms.items f kept.kept kept.past finished push;
  past = omega (arith, kept.past, length_kept old.forms.items new.forms.items f push);
  few = few;
}

-- what follows a form that is to be kept
abbrev after_part : Sizes → FormsSoFar → AffineForm → Result FormsSoFar AffineErr
after_part n t f = then_take (counted n t.count f) (λ count. Ok (record { solved = t.solved; kept = t.kept ++ f ∷ []; count = count }))

-- a fault of a form that is to be kept
pub keep_part_fault : (n : Sizes) (part : Result AffineForm AffineErr) (t : FormsSoFar) (fault : AffineErr) → IsFaultOf part fault → IsFaultOf (keep n part t) fault
keep_part_fault n part t fault h = fault_then part (after_part n t) fault h

-- too many coefficients
pub keep_count_fault : (n : Sizes) (part : Result AffineForm AffineErr) (t : FormsSoFar) (f : AffineForm) (fault : AffineErr) → part ≡ Ok f → IsFaultOf (counted n t.count f) fault → IsFaultOf (keep n part t) fault
keep_count_fault n part t f fault is h =
    fault_after part (after_part n t) f fault is (fault_then (counted n t.count f) (λ count. Ok (record { solved = t.solved; kept = t.kept ++ f ∷ []; count = count })) fault h)

-- one form more is kept
pub keep_done : (n : Sizes) (solved : List ExactForm) (part : Result AffineForm AffineErr) (old new : CountedForms) (f : ExactForm) → part ≡ Ok (form_meaning f) → counted n old.count (form_meaning f) ≡ Ok new.count
    → new.forms.items ≡ old.forms.items ++ f ∷ [] → keep n part (kept_so_far solved old) ≡ Ok (kept_so_far solved new)
keep_done n solved part old new f is count push =
    let taken : List AffineForm → FormsSoFar = λ forms. record { solved = forms_in solved; kept = forms; count = new.count } in
    after part (after_part n (kept_so_far solved old)) (form_meaning f) is
    ∙ after (counted n old.count (form_meaning f)) (λ count. Ok (record { solved = forms_in solved; kept = map form_meaning old.forms.items ++ form_meaning f ∷ []; count = count })) new.count count
    ∙ ap (λ forms. Ok (taken forms)) (sym (ap (map form_meaning) push ∙ map_push form_meaning old.forms.items f))

-- the states from a number on
abbrev pub state_part : FlatModelTree → Sizes → List ExactForm → ℕ → Result AffineForm AffineErr
state_part m n solved v = form_of (equation_context n (forms_in solved)) (right_side m.equations v)

states_from : (m : FlatModelTree) (n : Sizes) (solved : List ExactForm) (v : ℕ) (k : CountedForms) → n ≡ sizes_of m → v < n.states
    → keep_states m v (n.states - v) (kept_so_far solved k) ≡ then_take (keep n (state_part m n solved v) (kept_so_far solved k)) (keep_states m (v + 1) (n.states - (v + 1)))
states_from m n solved v k is h =
    let more : n.states - v ≡ suc (n.states - (v + 1)) = omega arith in
    let next : suc v ≡ v + 1 = omega arith in
    ap (λ j. keep_states m v j (kept_so_far solved k)) more
    ∙ ap (λ (s : Sizes). then_take (keep s (state_part m s solved v) (kept_so_far solved k)) (keep_states m (suc v) (n.states - (v + 1)))) (sym is)
    ∙ ap (λ w. then_take (keep n (state_part m n solved v) (kept_so_far solved k)) (keep_states m w (n.states - (v + 1)))) next

pub state_more : (m : FlatModelTree) (n : Sizes) (solved : List ExactForm) (v : ℕ) (old new : CountedForms) → n ≡ sizes_of m → v < n.states → keep n (state_part m n solved v) (kept_so_far solved old) ≡ Ok (kept_so_far solved new)
    → keep_states m v (n.states - v) (kept_so_far solved old) ≡ keep_states m (v + 1) (n.states - (v + 1)) (kept_so_far solved new)
state_more m n solved v old new is h done =
    states_from m n solved v old is h ∙ after (keep n (state_part m n solved v) (kept_so_far solved old)) (keep_states m (v + 1) (n.states - (v + 1))) (kept_so_far solved new) done

pub state_fails : (m : FlatModelTree) (n : Sizes) (solved : List ExactForm) (v : ℕ) (k : CountedForms) (expected : Result FormsSoFar AffineErr) (fault : AffineErr) → n ≡ sizes_of m → v < n.states
    → keep_states m v (n.states - v) (kept_so_far solved k) ≡ expected → IsFaultOf (keep n (state_part m n solved v) (kept_so_far solved k)) fault → IsFaultOf expected fault
state_fails m n solved v k expected fault is h rest failed =
    fault_same (then_take (keep n (state_part m n solved v) (kept_so_far solved k)) (keep_states m (v + 1) (n.states - (v + 1)))) expected fault (sym (states_from m n solved v k is h) ∙ rest)
    (fault_then (keep n (state_part m n solved v) (kept_so_far solved k)) (keep_states m (v + 1) (n.states - (v + 1))) fault failed)

-- the first state and the last one
pub states_begin : (m : FlatModelTree) (n : Sizes) (t : FormsSoFar) → keep_states m 0 (n.states - 0) t ≡ keep_states m 0 n.states t
states_begin m n t = let whole : n.states - 0 ≡ n.states = omega arith in ap (λ k. keep_states m 0 k t) whole

pub states_end : (m : FlatModelTree) (n : Sizes) (v : ℕ) (t : FormsSoFar) → n.states ≤ v → keep_states m v (n.states - v) t ≡ Ok t
states_end m n v t h = let none_left : n.states - v ≡ 0 = omega arith in ap (λ k. keep_states m v k t) none_left

-- a statement's form
abbrev pub action_part : Sizes → List ExactForm → FlatStatement → Result AffineForm AffineErr
action_part n solved a = action_form (clause_context n (forms_in solved)) (flat_action a)

pub action_more : (n : Sizes) (solved : List ExactForm) (xs : List FlatStatement) (i : ℕ) (d : FlatStatement) (old new : CountedForms) → i < length xs → d ≡ get_or xs i d
    → keep n (action_part n solved d) (kept_so_far solved old) ≡ Ok (kept_so_far solved new)
    → keep_actions n (map flat_action (drop i xs)) (kept_so_far solved old) ≡ keep_actions n (map flat_action (drop (i + 1) xs)) (kept_so_far solved new)
action_more n solved xs i d old new h is done =
    actions_from n xs i d (kept_so_far solved old) h is ∙ after (keep n (action_part n solved d) (kept_so_far solved old)) (keep_actions n (map flat_action (drop (i + 1) xs))) (kept_so_far solved new) done

pub action_fails : (n : Sizes) (solved : List ExactForm) (xs : List FlatStatement) (i : ℕ) (d : FlatStatement) (k : CountedForms) (expected : Result FormsSoFar AffineErr) (fault : AffineErr) → i < length xs → d ≡ get_or xs i d
    → keep_actions n (map flat_action (drop i xs)) (kept_so_far solved k) ≡ expected → IsFaultOf (keep n (action_part n solved d) (kept_so_far solved k)) fault → IsFaultOf expected fault
action_fails n solved xs i d k expected fault h is rest failed =
    fault_same (then_take (keep n (action_part n solved d) (kept_so_far solved k)) (keep_actions n (map flat_action (drop (i + 1) xs)))) expected fault (sym (actions_from n xs i d (kept_so_far solved k) h is) ∙ rest)
    (fault_then (keep n (action_part n solved d) (kept_so_far solved k)) (keep_actions n (map flat_action (drop (i + 1) xs))) fault failed)

-- a condition's form
abbrev pub condition_part : Sizes → List ExactForm → FlatBranch → Result AffineForm AffineErr
condition_part n solved b = condition_form (clause_context n (forms_in solved)) (flat_branch b)

-- what follows a condition
abbrev after_condition : Sizes → List FlatBranch → ℕ → FlatBranch → FormsSoFar → Result FormsSoFar AffineErr
after_condition n xs i d u = then_take (keep_actions n (flat_branch d).body u) (keep_branches n (map flat_branch (drop (i + 1) xs)))

pub branch_more : (n : Sizes) (solved : List ExactForm) (xs : List FlatBranch) (i : ℕ) (d : FlatBranch) (old between new : CountedForms) → i < length xs → d ≡ get_or xs i d
    → keep n (condition_part n solved d) (kept_so_far solved old) ≡ Ok (kept_so_far solved between) → keep_actions n (flat_branch d).body (kept_so_far solved between) ≡ Ok (kept_so_far solved new)
    → keep_branches n (map flat_branch (drop i xs)) (kept_so_far solved old) ≡ keep_branches n (map flat_branch (drop (i + 1) xs)) (kept_so_far solved new)
branch_more n solved xs i d old between new h is condition body =
    branches_from n xs i d (kept_so_far solved old) h is
    ∙ after (keep n (condition_part n solved d) (kept_so_far solved old)) (after_condition n xs i d) (kept_so_far solved between) condition
    ∙ after (keep_actions n (flat_branch d).body (kept_so_far solved between)) (keep_branches n (map flat_branch (drop (i + 1) xs))) (kept_so_far solved new) body

pub condition_fails : (n : Sizes) (solved : List ExactForm) (xs : List FlatBranch) (i : ℕ) (d : FlatBranch) (k : CountedForms) (expected : Result FormsSoFar AffineErr) (fault : AffineErr) → i < length xs → d ≡ get_or xs i d
    → keep_branches n (map flat_branch (drop i xs)) (kept_so_far solved k) ≡ expected → IsFaultOf (keep n (condition_part n solved d) (kept_so_far solved k)) fault → IsFaultOf expected fault
condition_fails n solved xs i d k expected fault h is rest failed =
    fault_same (then_take (keep n (condition_part n solved d) (kept_so_far solved k)) (after_condition n xs i d)) expected fault (sym (branches_from n xs i d (kept_so_far solved k) h is) ∙ rest)
    (fault_then (keep n (condition_part n solved d) (kept_so_far solved k)) (after_condition n xs i d) fault failed)

pub body_fails : (n : Sizes) (solved : List ExactForm) (xs : List FlatBranch) (i : ℕ) (d : FlatBranch) (old between : CountedForms) (expected : Result FormsSoFar AffineErr) (fault : AffineErr) → i < length xs → d ≡ get_or xs i d
    → keep_branches n (map flat_branch (drop i xs)) (kept_so_far solved old) ≡ expected → keep n (condition_part n solved d) (kept_so_far solved old) ≡ Ok (kept_so_far solved between)
    → IsFaultOf (keep_actions n (flat_branch d).body (kept_so_far solved between)) fault → IsFaultOf expected fault
body_fails n solved xs i d old between expected fault h is rest condition failed =
    fault_same (then_take (keep n (condition_part n solved d) (kept_so_far solved old)) (after_condition n xs i d)) expected fault (sym (branches_from n xs i d (kept_so_far solved old) h is) ∙ rest)
    (fault_after (keep n (condition_part n solved d) (kept_so_far solved old)) (after_condition n xs i d) (kept_so_far solved between) fault condition
    (fault_then (keep_actions n (flat_branch d).body (kept_so_far solved between)) (keep_branches n (map flat_branch (drop (i + 1) xs))) fault failed))

pub clause_more : (n : Sizes) (solved : List ExactForm) (xs : List FlatClause) (i : ℕ) (d : FlatClause) (old new : CountedForms) → i < length xs → d ≡ get_or xs i d
    → keep_branches n (flat_clause d) (kept_so_far solved old) ≡ Ok (kept_so_far solved new)
    → keep_clauses n (map flat_clause (drop i xs)) (kept_so_far solved old) ≡ keep_clauses n (map flat_clause (drop (i + 1) xs)) (kept_so_far solved new)
clause_more n solved xs i d old new h is done =
    clauses_from n xs i d (kept_so_far solved old) h is ∙ after (keep_branches n (flat_clause d) (kept_so_far solved old)) (keep_clauses n (map flat_clause (drop (i + 1) xs))) (kept_so_far solved new) done

pub clause_fails : (n : Sizes) (solved : List ExactForm) (xs : List FlatClause) (i : ℕ) (d : FlatClause) (k : CountedForms) (expected : Result FormsSoFar AffineErr) (fault : AffineErr) → i < length xs → d ≡ get_or xs i d
    → keep_clauses n (map flat_clause (drop i xs)) (kept_so_far solved k) ≡ expected → IsFaultOf (keep_branches n (flat_clause d) (kept_so_far solved k)) fault → IsFaultOf expected fault
clause_fails n solved xs i d k expected fault h is rest failed =
    fault_same (then_take (keep_branches n (flat_clause d) (kept_so_far solved k)) (keep_clauses n (map flat_clause (drop (i + 1) xs)))) expected fault (sym (clauses_from n xs i d (kept_so_far solved k) h is) ∙ rest)
    (fault_then (keep_branches n (flat_clause d) (kept_so_far solved k)) (keep_clauses n (map flat_clause (drop (i + 1) xs))) fault failed)
