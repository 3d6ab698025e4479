use Rattle.mu_affine.proofs.Common
use Common.{ℕ, ◌<◌, ◌∙◌, ◌≡◌, AffineErr, All, ap, AreSolved, count_of_role, CountedForms, Discrete}
use Common.{err_from_is_err_and, flat_clause, flat_model, flat_variable, FlatModelTree, Forms}
use Common.{IsFaultOf, IsNumberedBranch, keep_clauses, keep_states, kept_so_far, length, List, map}
use Common.{nothing_taken, of_clauses, of_equations, Ok, refl, Sizes, sizes_of, solve_all}
use Common.{solved_so_far, State, subst, sym}
use Rattle.mu_affine.proofs.WholeModels.{sizes_same, sizes_small, states_few, one_for_each}
use Rattle.mu_affine.proofs.WholeModels.{equations_numbered, clauses_numbered, order_within}
use Rattle.mu_affine.proofs.WholeModels.{whole_done, whole_clauses_fault}
use Rattle.mu_affine.proofs.normal_forms.normal.Goals as goal

pub solve_algebraic_variables-requires-clause-fit : goal.solve_algebraic_variables-requires-clause-fit
solve_algebraic_variables-requires-clause-fit c =
    let m : FlatModelTree = flat_model c.args.m.now in
    let n : Sizes = c.count_states_and_discretes-sizes.result in
    let sizes : n ≡ sizes_of m = sizes_same m n
    (c.count_states_and_discretes-sizes.ensures.states ∙ ap (λ xs. count_of_role State (map flat_variable xs)) c.deref.ensures.value)
    (c.count_states_and_discretes-sizes.ensures.discretes ∙ ap (λ xs. count_of_role Discrete (map flat_variable xs)) c.deref.ensures.value) in
    sizes_small m n sizes c.requires.flat

pub solve_algebraic_variables-requires-clause-equations : goal.solve_algebraic_variables-requires-clause-equations
solve_algebraic_variables-requires-clause-equations c =
    let m : FlatModelTree = flat_model c.args.m.now in
    let n : Sizes = c.count_states_and_discretes-sizes.result in
    let sizes : n ≡ sizes_of m = sizes_same m n
    (c.count_states_and_discretes-sizes.ensures.states ∙ ap (λ xs. count_of_role State (map flat_variable xs)) c.deref.ensures.value)
    (c.count_states_and_discretes-sizes.ensures.discretes ∙ ap (λ xs. count_of_role Discrete (map flat_variable xs)) c.deref.ensures.value) in
    let count : length c.deref-3.result.now ≡ length m.vars = one_for_each c.args.m.now c.deref-3.result.now c.in_ok-firsts.firsts.items c.len.result c.deref-3.ensures.value c.in_ok-firsts.ensures.one_each (c.len.ensures ∙ c.args.m.now.vars.ok.0) in
    equations_numbered m n (length c.deref-3.result.now) sizes count c.requires.flat

pub solve_algebraic_variables-requires-clause-within : goal.solve_algebraic_variables-requires-clause-within
solve_algebraic_variables-requires-clause-within c =
    let m : FlatModelTree = flat_model c.args.m.now in
    let count : length c.deref-3.result.now ≡ length m.vars = one_for_each c.args.m.now c.deref-3.result.now c.in_ok-firsts.firsts.items c.len.result c.deref-3.ensures.value c.in_ok-firsts.ensures.one_each (c.len.ensures ∙ c.args.m.now.vars.ok.0) in
    subst (All (λ v. v < length c.deref-3.result.now)) (sym c.as_slice.ensures) (order_within m c.args.order.now.vars (length c.deref-3.result.now) count c.requires.order)

pub keep_normal_state_forms-requires-clause-fit : goal.keep_normal_state_forms-requires-clause-fit
keep_normal_state_forms-requires-clause-fit c =
    let m : FlatModelTree = flat_model c.args.m.now in
    let n : Sizes = c.count_states_and_discretes-sizes.result in
    let sizes : n ≡ sizes_of m = sizes_same m n
    (c.count_states_and_discretes-sizes.ensures.states ∙ ap (λ xs. count_of_role State (map flat_variable xs)) c.deref.ensures.value)
    (c.count_states_and_discretes-sizes.ensures.discretes ∙ ap (λ xs. count_of_role Discrete (map flat_variable xs)) c.deref.ensures.value) in
    sizes_small m n sizes c.requires.flat

pub keep_normal_state_forms-requires-clause-equations : goal.keep_normal_state_forms-requires-clause-equations
keep_normal_state_forms-requires-clause-equations c =
    let m : FlatModelTree = flat_model c.args.m.now in
    let n : Sizes = c.count_states_and_discretes-sizes.result in
    let sizes : n ≡ sizes_of m = sizes_same m n
    (c.count_states_and_discretes-sizes.ensures.states ∙ ap (λ xs. count_of_role State (map flat_variable xs)) c.deref.ensures.value)
    (c.count_states_and_discretes-sizes.ensures.discretes ∙ ap (λ xs. count_of_role Discrete (map flat_variable xs)) c.deref.ensures.value) in
    let firsts : length c.deref-3.result.now ≡ length m.vars = one_for_each c.args.m.now c.deref-3.result.now c.in_ok-firsts.firsts.items c.len.result c.deref-3.ensures.value c.in_ok-firsts.ensures.one_each (c.len.ensures ∙ c.args.m.now.vars.ok.0) in
    let count : length c.deref-5.result.now ≡ length m.vars = ap length c.deref-5.ensures.value ∙ c.in_ok-solved.ensures.1.one_each ∙ firsts in
    equations_numbered m n (length c.deref-5.result.now) sizes count c.requires.flat

pub keep_normal_state_forms-requires-clause-states : goal.keep_normal_state_forms-requires-clause-states
keep_normal_state_forms-requires-clause-states c =
    let m : FlatModelTree = flat_model c.args.m.now in
    let n : Sizes = c.count_states_and_discretes-sizes.result in
    let sizes : n ≡ sizes_of m = sizes_same m n
    (c.count_states_and_discretes-sizes.ensures.states ∙ ap (λ xs. count_of_role State (map flat_variable xs)) c.deref.ensures.value)
    (c.count_states_and_discretes-sizes.ensures.discretes ∙ ap (λ xs. count_of_role Discrete (map flat_variable xs)) c.deref.ensures.value) in
    let count : length c.deref-4.result.now ≡ length m.vars = one_for_each c.args.m.now c.deref-4.result.now c.in_ok-firsts.firsts.items c.len.result c.deref-4.ensures.value c.in_ok-firsts.ensures.one_each (c.len.ensures ∙ c.args.m.now.vars.ok.0) in
    states_few m n (length c.deref-4.result.now) sizes count

pub keep_normal_state_forms-requires-clause-solved : goal.keep_normal_state_forms-requires-clause-solved
keep_normal_state_forms-requires-clause-solved c =
    subst (AreSolved (of_equations c.count_states_and_discretes-sizes.result)) (sym c.deref-5.ensures.value) c.in_ok-solved.ensures.1.finished

pub keep_normal_clause_forms-requires-clause-fit : goal.keep_normal_clause_forms-requires-clause-fit
keep_normal_clause_forms-requires-clause-fit c =
    let m : FlatModelTree = flat_model c.args.m.now in
    let n : Sizes = c.count_states_and_discretes-sizes.result in
    let sizes : n ≡ sizes_of m = sizes_same m n
    (c.count_states_and_discretes-sizes.ensures.states ∙ ap (λ xs. count_of_role State (map flat_variable xs)) c.deref.ensures.value)
    (c.count_states_and_discretes-sizes.ensures.discretes ∙ ap (λ xs. count_of_role Discrete (map flat_variable xs)) c.deref.ensures.value) in
    sizes_small m n sizes c.requires.flat

pub keep_normal_clause_forms-requires-clause-solved : goal.keep_normal_clause_forms-requires-clause-solved
keep_normal_clause_forms-requires-clause-solved c =
    subst (AreSolved (of_equations c.count_states_and_discretes-sizes.result)) (sym c.deref-6.ensures.value) c.in_ok-solved.ensures.1.finished

pub keep_normal_clause_forms-requires-clause-numbered : goal.keep_normal_clause_forms-requires-clause-numbered
keep_normal_clause_forms-requires-clause-numbered c =
    let m : FlatModelTree = flat_model c.args.m.now in
    let n : Sizes = c.count_states_and_discretes-sizes.result in
    let sizes : n ≡ sizes_of m = sizes_same m n
    (c.count_states_and_discretes-sizes.ensures.states ∙ ap (λ xs. count_of_role State (map flat_variable xs)) c.deref.ensures.value)
    (c.count_states_and_discretes-sizes.ensures.discretes ∙ ap (λ xs. count_of_role Discrete (map flat_variable xs)) c.deref.ensures.value) in
    let firsts : length c.deref-3.result.now ≡ length m.vars = one_for_each c.args.m.now c.deref-3.result.now c.in_ok-firsts.firsts.items c.len.result c.deref-3.ensures.value c.in_ok-firsts.ensures.one_each (c.len.ensures ∙ c.args.m.now.vars.ok.0) in
    let count : length c.deref-6.result.now ≡ length m.vars = ap length c.deref-6.ensures.value ∙ c.in_ok-solved.ensures.1.one_each ∙ firsts in
    subst (λ xs. All (All (IsNumberedBranch (of_clauses n) (length c.deref-6.result.now))) (map flat_clause xs)) (sym c.deref-7.ensures.value) (clauses_numbered m n (length c.deref-6.result.now) sizes count c.requires.flat)

pub returns-in_err-keep_normal_clause_forms-clause-err : goal.returns-in_err-keep_normal_clause_forms-clause-err
returns-in_err-keep_normal_clause_forms-clause-err c =
    let m : FlatModelTree = flat_model c.args.m.now in
    let n : Sizes = c.count_states_and_discretes-sizes.result in
    let sizes : n ≡ sizes_of m = sizes_same m n
    (c.count_states_and_discretes-sizes.ensures.states ∙ ap (λ xs. count_of_role State (map flat_variable xs)) c.deref.ensures.value)
    (c.count_states_and_discretes-sizes.ensures.discretes ∙ ap (λ xs. count_of_role Discrete (map flat_variable xs)) c.deref.ensures.value) in
    let order : List ℕ = c.args.order.now.vars in
    let s : CountedForms = c.in_ok-solved.solved in
    let k : CountedForms = record { forms = c.new.result; count = s.count } in
    let between : CountedForms = c.keep_normal_state_forms.new.kept in
    let solved : solve_all m order nothing_taken ≡ Ok (solved_so_far s) = ap (λ vs. solve_all m vs nothing_taken) (sym c.as_slice.ensures) ∙ c.in_ok-solved.ensures.0 in
    let states : keep_states m 0 n.states (kept_so_far s.forms.items k) ≡ Ok (kept_so_far s.forms.items between) =
    subst (λ xs. keep_states m 0 n.states (kept_so_far xs k) ≡ Ok (kept_so_far xs between)) c.deref-5.ensures.value c.in_ok-keep_normal_state_forms.ensures.0 in
    let q = err_from_is_err_and c.from_residual-in_err-keep_normal_clause_forms.result c.from_residual-in_err-keep_normal_clause_forms.ensures.1 in
    let fault : AffineErr = c.in_err-keep_normal_clause_forms.field-0.0 in
    let failed : IsFaultOf (keep_clauses n m.clauses (kept_so_far s.forms.items between)) fault =
    subst (λ xs. IsFaultOf (keep_clauses n (map flat_clause xs) (kept_so_far s.forms.items between)) fault) c.deref-7.ensures.value
    (subst (λ xs. IsFaultOf (keep_clauses n (map flat_clause c.deref-7.result.now) (kept_so_far xs between)) fault) c.deref-6.ensures.value c.in_err-keep_normal_clause_forms.ensures) in
    rw (q.1, q.2) (whole_clauses_fault m order n s k between fault sizes c.new.ensures.items refl solved states failed)

pub returns-clause-ok : goal.returns-clause-ok
returns-clause-ok c =
    let m : FlatModelTree = flat_model c.args.m.now in
    let n : Sizes = c.count_states_and_discretes-sizes.result in
    let sizes : n ≡ sizes_of m = sizes_same m n
    (c.count_states_and_discretes-sizes.ensures.states ∙ ap (λ xs. count_of_role State (map flat_variable xs)) c.deref.ensures.value)
    (c.count_states_and_discretes-sizes.ensures.discretes ∙ ap (λ xs. count_of_role Discrete (map flat_variable xs)) c.deref.ensures.value) in
    let order : List ℕ = c.args.order.now.vars in
    let s : CountedForms = c.in_ok-solved.solved in
    let k : CountedForms = record { forms = c.new.result; count = s.count } in
    let between : CountedForms = c.keep_normal_state_forms.new.kept in
    let solved : solve_all m order nothing_taken ≡ Ok (solved_so_far s) = ap (λ vs. solve_all m vs nothing_taken) (sym c.as_slice.ensures) ∙ c.in_ok-solved.ensures.0 in
    let states : keep_states m 0 n.states (kept_so_far s.forms.items k) ≡ Ok (kept_so_far s.forms.items between) =
    subst (λ xs. keep_states m 0 n.states (kept_so_far xs k) ≡ Ok (kept_so_far xs between)) c.deref-5.ensures.value c.in_ok-keep_normal_state_forms.ensures.0 in
    let new : CountedForms = c.keep_normal_clause_forms.new.kept in
    let f : Forms = record { forms = c.new-2.result } in
    let clauses : keep_clauses n m.clauses (kept_so_far s.forms.items between) ≡ Ok (kept_so_far s.forms.items new) =
    subst (λ xs. keep_clauses n (map flat_clause xs) (kept_so_far s.forms.items between) ≡ Ok (kept_so_far s.forms.items new)) c.deref-7.ensures.value
    (subst (λ xs. keep_clauses n (map flat_clause c.deref-7.result.now) (kept_so_far xs between) ≡ Ok (kept_so_far xs new)) c.deref-6.ensures.value c.in_ok-keep_normal_clause_forms.ensures.0) in
    whole_done m order n s k between new f sizes c.new.ensures.items refl solved states clauses c.in_ok-keep_normal_clause_forms.ensures.1 c.new-2.ensures
