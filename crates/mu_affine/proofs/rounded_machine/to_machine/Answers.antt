use Rattle.mu_affine.proofs.Common
use Common.{ℕ, ◌+◌, ◌^◌, ◌∙◌, ◌≡◌, All, ap, arith, bits_of, Check, clause_forms, clauses_of}
use Common.{discrete_count, discretes_of, err_from_is_err_and, ExactForm, first_failed, flat_clause}
use Common.{flat_model, FlatClause, FlatVar, form_checks, inr, IsRefusal, IsWithin, length}
use Common.{length-map, length-take-le, List, map, pos, rounded, rounded_discrete, rounded_row}
use Common.{rounded_state, start_level, state_count, states_of, subst, sum_by, sym, take}
use Rattle.mu_affine.proofs.Assembled.{right_sides_for, variables_for, rows_for, clauses_for}
use Rattle.mu_affine.proofs.Assembled.{machine_is, HasParts}
use Rattle.mu_affine.proofs.ChecksInOrder.{counts_fit}
use Rattle.mu_affine.proofs.Made.{made_variables, made_rows, made_clauses}
use Rattle.mu_affine.proofs.Phases.{IsRead, IsStarted, discretes_counted, read_is, started_is}
use Rattle.mu_affine.proofs.Phases.{starts_refused, states_counted, values_refused, weights_refused}
use Rattle.mu_affine.proofs.Phases.{quanta_refused, rows_refused, items_refused, all_pass, no_fault}
use Rattle.mu_affine.proofs.Seen.{states_made, discretes_made}
use Rattle.mu_affine.proofs.WholeMachines.{refused_settings, PhasesPass}
use Rattle.mu_affine.proofs.rounded_machine.to_machine.Goals as goal

pub returns-in_err-units-clause-refused : goal.returns-in_err-units-clause-refused
returns-in_err-units-clause-refused c =
    let s = c.args.s.now in
    let p = err_from_is_err_and c.from_residual.result c.from_residual.ensures.1 in
    rw (p.1, p.2)
    (refused_settings c.args.f.now.forms (flat_model c.args.m.now) s (bits_of s.coef_bits) (bits_of s.tick_bits) (bits_of s.level_bits) _ (inr c.in_err-units.ensures.err))

pub slice_bounds-rights-end : goal.slice_bounds-rights-end
slice_bounds-rights-end c =
    let m = flat_model c.args.m.now in
    let states = c.split_variables-kinds.result.states.now in
    let first_here = states_counted c.args.m.now c.deref.result.now states c.split_variables-kinds.result.discretes.now c.deref.ensures.value c.split_variables-kinds.ensures.state_count in
    sym (length-take-le (length states) c.as_slice-forms.result.now (omega (arith, first_here, c.requires.forms.one_each, ap length c.as_slice-forms.ensures)))

pub round_machine_levels-requires : goal.round_machine_levels-requires
round_machine_levels-requires c =
    let m = flat_model c.args.m.now in
    let states = c.split_variables-kinds.result.states.now in
    let first_here = states_counted c.args.m.now c.deref.result.now states c.split_variables-kinds.result.discretes.now c.deref.ensures.value c.split_variables-kinds.ensures.state_count in
    record { count_limit = omega (arith, first_here, counts_fit m.vars, c.requires.model.variables) }

pub returns-in_err-levels-clause-refused : goal.returns-in_err-levels-clause-refused
returns-in_err-levels-clause-refused c =
    let u = c.in_ok-units.units in
    let forms = c.args.f.now.forms in
    let m = flat_model c.args.m.now in
    let s = c.args.s.now in
    let states = c.split_variables-kinds.result.states.now in
    let discretes = c.split_variables-kinds.result.discretes.now in
    let read : IsRead m s u.p u.k u.f states discretes =
    read_is c.args.m.now c.deref.result.now states discretes c.deref.ensures.value s u.p u.k u.f c.split_variables-kinds.ensures.states c.split_variables-kinds.ensures.discretes c.in_ok-units.ensures.ok c.in_ok-units.ensures.bits in
    let p = err_from_is_err_and c.from_residual-in_err-levels.result c.from_residual-in_err-levels.ensures.1 in
    rw (p.1, p.2)
    (starts_refused forms m s u.p u.k u.f states discretes read _ c.in_err-levels.ensures.err)

pub round_machine_values-requires : goal.round_machine_values-requires
round_machine_values-requires c =
    let m = flat_model c.args.m.now in
    let states = c.split_variables-kinds.result.states.now in
    let discretes = c.split_variables-kinds.result.discretes.now in
    let first_here = states_counted c.args.m.now c.deref.result.now states discretes c.deref.ensures.value c.split_variables-kinds.ensures.state_count in
    let count_here = discretes_counted c.args.m.now c.deref.result.now states discretes c.deref.ensures.value c.split_variables-kinds.ensures.discrete_count in
    record { count_limit = omega (arith, first_here, count_here, counts_fit m.vars, c.requires.model.variables) }

pub returns-in_err-values-clause-refused : goal.returns-in_err-values-clause-refused
returns-in_err-values-clause-refused c =
    let u = c.in_ok-units.units in
    let forms = c.args.f.now.forms in
    let m = flat_model c.args.m.now in
    let s = c.args.s.now in
    let states = c.split_variables-kinds.result.states.now in
    let discretes = c.split_variables-kinds.result.discretes.now in
    let read : IsRead m s u.p u.k u.f states discretes =
    read_is c.args.m.now c.deref.result.now states discretes c.deref.ensures.value s u.p u.k u.f c.split_variables-kinds.ensures.states c.split_variables-kinds.ensures.discretes c.in_ok-units.ensures.ok c.in_ok-units.ensures.bits in
    let first_here = states_counted c.args.m.now c.deref.result.now states discretes c.deref.ensures.value c.split_variables-kinds.ensures.state_count in
    let p = err_from_is_err_and c.from_residual-in_err-values.result c.from_residual-in_err-values.ensures.1 in
    rw (p.1, p.2)
    (values_refused forms m s u.p u.k u.f states discretes read (length states) _ first_here c.in_ok-levels.ensures.ok c.in_err-values.ensures.err)

pub check_start_row_sums-requires-clause-count_limit : goal.check_start_row_sums-requires-clause-count_limit
check_start_row_sums-requires-clause-count_limit c =
    let u = c.in_ok-units.units in
    let m = flat_model c.args.m.now in
    let states = c.split_variables-kinds.result.states.now in
    let discretes = c.split_variables-kinds.result.discretes.now in
    let first_here = states_counted c.args.m.now c.deref.result.now states discretes c.deref.ensures.value c.split_variables-kinds.ensures.state_count in
    let count_here = discretes_counted c.args.m.now c.deref.result.now states discretes c.deref.ensures.value c.split_variables-kinds.ensures.discrete_count in
    let long_levels : length c.deref-2.result.now ≡ length states =
    ap length (c.deref-2.ensures.value ∙ c.in_ok-levels.ensures.levels) ∙ length-map states (λ (v : FlatVar). start_level u.p u.k u.f v.start) in
    let long_numbers : length c.deref-3.result.now ≡ length discretes =
    ap length (c.deref-3.ensures.value ∙ c.in_ok-values.ensures.values) ∙ length-map discretes (λ (v : FlatVar). rounded u.f v.start) in
    omega (arith, long_levels, long_numbers, first_here, count_here, counts_fit m.vars, c.requires.model.variables)

pub check_start_row_sums-requires-clause-one_each : goal.check_start_row_sums-requires-clause-one_each
check_start_row_sums-requires-clause-one_each c =
    let u = c.in_ok-units.units in
    let m = flat_model c.args.m.now in
    let states = c.split_variables-kinds.result.states.now in
    let first_here = states_counted c.args.m.now c.deref.result.now states c.split_variables-kinds.result.discretes.now c.deref.ensures.value c.split_variables-kinds.ensures.state_count in
    let long_levels : length c.deref-2.result.now ≡ length states =
    ap length (c.deref-2.ensures.value ∙ c.in_ok-levels.ensures.levels) ∙ length-map states (λ (v : FlatVar). start_level u.p u.k u.f v.start) in
    let all = c.as_slice-forms.result.now in
    let taken = length-take-le (length states) all (omega (arith, first_here, c.requires.forms.one_each, ap length c.as_slice-forms.ensures)) in
    omega (arith, taken, long_levels)

pub check_start_row_sums-requires-clause-forms : goal.check_start_row_sums-requires-clause-forms
check_start_row_sums-requires-clause-forms c =
    let u = c.in_ok-units.units in
    let m = flat_model c.args.m.now in
    let states = c.split_variables-kinds.result.states.now in
    let discretes = c.split_variables-kinds.result.discretes.now in
    let first_here = states_counted c.args.m.now c.deref.result.now states discretes c.deref.ensures.value c.split_variables-kinds.ensures.state_count in
    let count_here = discretes_counted c.args.m.now c.deref.result.now states discretes c.deref.ensures.value c.split_variables-kinds.ensures.discrete_count in
    let long_levels : length c.deref-2.result.now ≡ length states =
    ap length (c.deref-2.ensures.value ∙ c.in_ok-levels.ensures.levels) ∙ length-map states (λ (v : FlatVar). start_level u.p u.k u.f v.start) in
    let long_numbers : length c.deref-3.result.now ≡ length discretes =
    ap length (c.deref-3.ensures.value ∙ c.in_ok-values.ensures.values) ∙ length-map discretes (λ (v : FlatVar). rounded u.f v.start) in
    right_sides_for (state_count m.vars) (discrete_count m.vars) (length c.deref-2.result.now) (length c.deref-3.result.now) (take (length states) c.as_slice-forms.result.now)
    (take (state_count m.vars) c.args.f.now.forms) (long_levels ∙ first_here) (long_numbers ∙ count_here) (ap (take (length states)) c.as_slice-forms.ensures ∙ ap (λ (n : ℕ). take n c.args.f.now.forms) first_here)
    c.requires.forms.of_states

pub check_start_row_sums-requires-clause-levels : goal.check_start_row_sums-requires-clause-levels
check_start_row_sums-requires-clause-levels c =
    subst (All (IsWithin 43)) (sym c.deref-2.ensures.value) c.in_ok-levels.ensures.size_limit

pub check_start_row_sums-requires-clause-values : goal.check_start_row_sums-requires-clause-values
check_start_row_sums-requires-clause-values c =
    subst (All (IsWithin 43)) (sym c.deref-3.ensures.value) c.in_ok-values.ensures.size_limit

pub returns-in_err-check_start_row_sums-clause-refused : goal.returns-in_err-check_start_row_sums-clause-refused
returns-in_err-check_start_row_sums-clause-refused c =
    let u = c.in_ok-units.units in
    let forms = c.args.f.now.forms in
    let m = flat_model c.args.m.now in
    let s = c.args.s.now in
    let states = c.split_variables-kinds.result.states.now in
    let discretes = c.split_variables-kinds.result.discretes.now in
    let read : IsRead m s u.p u.k u.f states discretes =
    read_is c.args.m.now c.deref.result.now states discretes c.deref.ensures.value s u.p u.k u.f c.split_variables-kinds.ensures.states c.split_variables-kinds.ensures.discretes c.in_ok-units.ensures.ok c.in_ok-units.ensures.bits in
    let first_here = states_counted c.args.m.now c.deref.result.now states discretes c.deref.ensures.value c.split_variables-kinds.ensures.state_count in
    let first = length states in
    let levels = c.deref-2.result.now in
    let numbers = c.deref-3.result.now in
    let rights = take first c.as_slice-forms.result.now in
    let started : IsStarted forms m u.p u.k u.f states discretes first levels numbers rights =
    started_is forms c.as_slice-forms.result.now m u.p u.k u.f states discretes levels numbers c.as_slice-forms.ensures first_here (c.deref-2.ensures.value ∙ c.in_ok-levels.ensures.levels)
    (c.deref-3.ensures.value ∙ c.in_ok-values.ensures.values) c.in_ok-levels.ensures.ok c.in_ok-values.ensures.ok in
    let p = err_from_is_err_and c.from_residual-in_err-check_start_row_sums.result c.from_residual-in_err-check_start_row_sums.ensures.1 in
    rw (p.1, p.2)
    (weights_refused forms m s u.p u.k u.f states discretes read first levels numbers rights started _ c.in_err-check_start_row_sums.ensures.err)

pub round_machine_states-requires : goal.round_machine_states-requires
round_machine_states-requires c =
    let m = flat_model c.args.m.now in
    let states = c.split_variables-kinds.result.states.now in
    let first_here = states_counted c.args.m.now c.deref.result.now states c.split_variables-kinds.result.discretes.now c.deref.ensures.value c.split_variables-kinds.ensures.state_count in
    record { count_limit = omega (arith, first_here, counts_fit m.vars, c.requires.model.variables) }

pub returns-in_err-states-clause-refused : goal.returns-in_err-states-clause-refused
returns-in_err-states-clause-refused c =
    let u = c.in_ok-units.units in
    let forms = c.args.f.now.forms in
    let m = flat_model c.args.m.now in
    let s = c.args.s.now in
    let states = c.split_variables-kinds.result.states.now in
    let discretes = c.split_variables-kinds.result.discretes.now in
    let read : IsRead m s u.p u.k u.f states discretes =
    read_is c.args.m.now c.deref.result.now states discretes c.deref.ensures.value s u.p u.k u.f c.split_variables-kinds.ensures.states c.split_variables-kinds.ensures.discretes c.in_ok-units.ensures.ok c.in_ok-units.ensures.bits in
    let first_here = states_counted c.args.m.now c.deref.result.now states discretes c.deref.ensures.value c.split_variables-kinds.ensures.state_count in
    let first = length states in
    let levels = c.deref-2.result.now in
    let numbers = c.deref-3.result.now in
    let rights = take first c.as_slice-forms.result.now in
    let started : IsStarted forms m u.p u.k u.f states discretes first levels numbers rights =
    started_is forms c.as_slice-forms.result.now m u.p u.k u.f states discretes levels numbers c.as_slice-forms.ensures first_here (c.deref-2.ensures.value ∙ c.in_ok-levels.ensures.levels)
    (c.deref-3.ensures.value ∙ c.in_ok-values.ensures.values) c.in_ok-levels.ensures.ok c.in_ok-values.ensures.ok in
    let p = err_from_is_err_and c.from_residual-in_err-states.result c.from_residual-in_err-states.ensures.1 in
    rw (p.1, p.2)
    (quanta_refused forms m s u.p u.k u.f states discretes read first levels numbers rights started _ c.in_ok-check_start_row_sums.ensures.ok c.in_err-states.ensures.err)

pub round_machine_discretes-requires : goal.round_machine_discretes-requires
round_machine_discretes-requires c =
    c.deref-4.ensures.value ∙ c.in_ok-values.ensures.values

pub round_form_rows-requires : goal.round_form_rows-requires
round_form_rows-requires c =
    let m = flat_model c.args.m.now in
    let states = c.split_variables-kinds.result.states.now in
    let first_here = states_counted c.args.m.now c.deref.result.now states c.split_variables-kinds.result.discretes.now c.deref.ensures.value c.split_variables-kinds.ensures.state_count in
    let all = c.as_slice-forms.result.now in
    let taken = length-take-le (length states) all (omega (arith, first_here, c.requires.forms.one_each, ap length c.as_slice-forms.ensures)) in
    record { count_limit = omega (arith, taken, first_here, counts_fit m.vars, c.requires.model.variables) }

pub returns-in_err-rows-clause-refused : goal.returns-in_err-rows-clause-refused
returns-in_err-rows-clause-refused c =
    let u = c.in_ok-units.units in
    let forms = c.args.f.now.forms in
    let m = flat_model c.args.m.now in
    let s = c.args.s.now in
    let states = c.split_variables-kinds.result.states.now in
    let discretes = c.split_variables-kinds.result.discretes.now in
    let read : IsRead m s u.p u.k u.f states discretes =
    read_is c.args.m.now c.deref.result.now states discretes c.deref.ensures.value s u.p u.k u.f c.split_variables-kinds.ensures.states c.split_variables-kinds.ensures.discretes c.in_ok-units.ensures.ok c.in_ok-units.ensures.bits in
    let first_here = states_counted c.args.m.now c.deref.result.now states discretes c.deref.ensures.value c.split_variables-kinds.ensures.state_count in
    let first = length states in
    let levels = c.deref-2.result.now in
    let numbers = c.deref-3.result.now in
    let rights = take first c.as_slice-forms.result.now in
    let started : IsStarted forms m u.p u.k u.f states discretes first levels numbers rights =
    started_is forms c.as_slice-forms.result.now m u.p u.k u.f states discretes levels numbers c.as_slice-forms.ensures first_here (c.deref-2.ensures.value ∙ c.in_ok-levels.ensures.levels)
    (c.deref-3.ensures.value ∙ c.in_ok-values.ensures.values) c.in_ok-levels.ensures.ok c.in_ok-values.ensures.ok in
    let p = err_from_is_err_and c.from_residual-in_err-rows.result c.from_residual-in_err-rows.ensures.1 in
    rw (p.1, p.2)
    (rows_refused forms m s u.p u.k u.f states discretes read first levels numbers rights started _ c.in_ok-check_start_row_sums.ensures.ok c.in_ok-states.ensures.ok c.in_err-rows.ensures.err)

pub round_machine_clauses-requires-clause-count_limit : goal.round_machine_clauses-requires-clause-count_limit
round_machine_clauses-requires-clause-count_limit c =
    let m = flat_model c.args.m.now in
    omega (arith, ap length c.as_slice-forms.ensures, c.requires.forms.one_each, counts_fit m.vars, c.requires.model.variables, c.requires.model.items)

pub round_machine_clauses-requires-clause-within : goal.round_machine_clauses-requires-clause-within
round_machine_clauses-requires-clause-within c =
    let m = flat_model c.args.m.now in
    let states = c.split_variables-kinds.result.states.now in
    let first_here = states_counted c.args.m.now c.deref.result.now states c.split_variables-kinds.result.discretes.now c.deref.ensures.value c.split_variables-kinds.ensures.state_count in
    let read : sum_by clause_forms (map flat_clause c.deref-5.result.now) ≡ sum_by clause_forms m.clauses =
    ap (λ (cs : List FlatClause). sum_by clause_forms (map flat_clause cs)) c.deref-5.ensures.value in
    omega (arith, read, first_here, c.requires.forms.one_each, ap length c.as_slice-forms.ensures)

pub returns-in_err-clauses-clause-refused : goal.returns-in_err-clauses-clause-refused
returns-in_err-clauses-clause-refused c =
    let u = c.in_ok-units.units in
    let forms = c.args.f.now.forms in
    let m = flat_model c.args.m.now in
    let s = c.args.s.now in
    let states = c.split_variables-kinds.result.states.now in
    let discretes = c.split_variables-kinds.result.discretes.now in
    let read : IsRead m s u.p u.k u.f states discretes =
    read_is c.args.m.now c.deref.result.now states discretes c.deref.ensures.value s u.p u.k u.f c.split_variables-kinds.ensures.states c.split_variables-kinds.ensures.discretes c.in_ok-units.ensures.ok c.in_ok-units.ensures.bits in
    let first_here = states_counted c.args.m.now c.deref.result.now states discretes c.deref.ensures.value c.split_variables-kinds.ensures.state_count in
    let first = length states in
    let levels = c.deref-2.result.now in
    let numbers = c.deref-3.result.now in
    let rights = take first c.as_slice-forms.result.now in
    let started : IsStarted forms m u.p u.k u.f states discretes first levels numbers rights =
    started_is forms c.as_slice-forms.result.now m u.p u.k u.f states discretes levels numbers c.as_slice-forms.ensures first_here (c.deref-2.ensures.value ∙ c.in_ok-levels.ensures.levels)
    (c.deref-3.ensures.value ∙ c.in_ok-values.ensures.values) c.in_ok-levels.ensures.ok c.in_ok-values.ensures.ok in
    let count = sum_by clause_forms m.clauses in
    let seen : form_checks u.p u.f c.as_slice-forms.result.now first (sum_by clause_forms (map flat_clause c.deref-5.result.now)) ≡ form_checks u.p u.f forms first count =
    ap (λ (xs : List ExactForm). form_checks u.p u.f xs first (sum_by clause_forms (map flat_clause c.deref-5.result.now))) c.as_slice-forms.ensures
    ∙ ap (λ (cs : List FlatClause). form_checks u.p u.f forms first (sum_by clause_forms (map flat_clause cs))) c.deref-5.ensures.value in
    let p = err_from_is_err_and c.from_residual-in_err-clauses.result c.from_residual-in_err-clauses.ensures.1 in
    rw (p.1, p.2)
    (items_refused forms m s u.p u.k u.f states discretes read first levels numbers rights started count _ c.requires.forms.one_each c.in_ok-check_start_row_sums.ensures.ok c.in_ok-states.ensures.ok c.in_ok-rows.ensures.ok
    (subst (λ (cs : List Check). IsRefusal cs c.in_err-clauses.field-0.0) seen c.in_err-clauses.ensures.err))

pub assemble_machine-requires-clause-variables : goal.assemble_machine-requires-clause-variables
assemble_machine-requires-clause-variables c =
    let u = c.in_ok-units.units in
    let forms = c.args.f.now.forms in
    let m = flat_model c.args.m.now in
    let s = c.args.s.now in
    let states = c.split_variables-kinds.result.states.now in
    let discretes = c.split_variables-kinds.result.discretes.now in
    let read : IsRead m s u.p u.k u.f states discretes =
    read_is c.args.m.now c.deref.result.now states discretes c.deref.ensures.value s u.p u.k u.f c.split_variables-kinds.ensures.states c.split_variables-kinds.ensures.discretes c.in_ok-units.ensures.ok c.in_ok-units.ensures.bits in
    let first_here = states_counted c.args.m.now c.deref.result.now states discretes c.deref.ensures.value c.split_variables-kinds.ensures.state_count in
    let first = length states in
    let levels = c.deref-2.result.now in
    let numbers = c.deref-3.result.now in
    let rights = take first c.as_slice-forms.result.now in
    let started : IsStarted forms m u.p u.k u.f states discretes first levels numbers rights =
    started_is forms c.as_slice-forms.result.now m u.p u.k u.f states discretes levels numbers c.as_slice-forms.ensures first_here (c.deref-2.ensures.value ∙ c.in_ok-levels.ensures.levels)
    (c.deref-3.ensures.value ∙ c.in_ok-values.ensures.values) c.in_ok-levels.ensures.ok c.in_ok-values.ensures.ok in
    let count = sum_by clause_forms m.clauses in
    let seen : form_checks u.p u.f c.as_slice-forms.result.now first (sum_by clause_forms (map flat_clause c.deref-5.result.now)) ≡ form_checks u.p u.f forms first count =
    ap (λ (xs : List ExactForm). form_checks u.p u.f xs first (sum_by clause_forms (map flat_clause c.deref-5.result.now))) c.as_slice-forms.ensures
    ∙ ap (λ (cs : List FlatClause). form_checks u.p u.f forms first (sum_by clause_forms (map flat_clause cs))) c.deref-5.ensures.value in
    let pass : PhasesPass forms m s u.p u.k u.f =
    all_pass forms m s u.p u.k u.f states discretes read first levels numbers rights started count c.requires.forms.one_each c.in_ok-check_start_row_sums.ensures.ok c.in_ok-states.ensures.ok c.in_ok-rows.ensures.ok
    (ap first_failed (sym seen) ∙ c.in_ok-clauses.ensures.ok) in
    let own_states = states_made forms m s u.p u.k u.f states discretes read.of_states read.of_discretes c.in_ok-states.states.items c.in_ok-states.ensures.states in
    let own_discretes = discretes_made forms m s u.p u.k u.f states discretes read.of_states read.of_discretes c.in_ok-discretes.discretes.items c.in_ok-discretes.ensures in
    variables_for u.f (pos (2 ^ (u.p + u.k))) c.in_ok-states.states.items (map (rounded_state u.p u.k u.f) (states_of m.vars)) c.in_ok-discretes.discretes.items (map (rounded_discrete u.f) (discretes_of m.vars))
    own_states own_discretes (made_variables forms m s u.p u.k u.f c.requires.model c.requires.forms pass)

pub assemble_machine-requires-clause-rows : goal.assemble_machine-requires-clause-rows
assemble_machine-requires-clause-rows c =
    let u = c.in_ok-units.units in
    let forms = c.args.f.now.forms in
    let m = flat_model c.args.m.now in
    let s = c.args.s.now in
    let states = c.split_variables-kinds.result.states.now in
    let discretes = c.split_variables-kinds.result.discretes.now in
    let read : IsRead m s u.p u.k u.f states discretes =
    read_is c.args.m.now c.deref.result.now states discretes c.deref.ensures.value s u.p u.k u.f c.split_variables-kinds.ensures.states c.split_variables-kinds.ensures.discretes c.in_ok-units.ensures.ok c.in_ok-units.ensures.bits in
    let first_here = states_counted c.args.m.now c.deref.result.now states discretes c.deref.ensures.value c.split_variables-kinds.ensures.state_count in
    let first = length states in
    let levels = c.deref-2.result.now in
    let numbers = c.deref-3.result.now in
    let rights = take first c.as_slice-forms.result.now in
    let started : IsStarted forms m u.p u.k u.f states discretes first levels numbers rights =
    started_is forms c.as_slice-forms.result.now m u.p u.k u.f states discretes levels numbers c.as_slice-forms.ensures first_here (c.deref-2.ensures.value ∙ c.in_ok-levels.ensures.levels)
    (c.deref-3.ensures.value ∙ c.in_ok-values.ensures.values) c.in_ok-levels.ensures.ok c.in_ok-values.ensures.ok in
    let count = sum_by clause_forms m.clauses in
    let seen : form_checks u.p u.f c.as_slice-forms.result.now first (sum_by clause_forms (map flat_clause c.deref-5.result.now)) ≡ form_checks u.p u.f forms first count =
    ap (λ (xs : List ExactForm). form_checks u.p u.f xs first (sum_by clause_forms (map flat_clause c.deref-5.result.now))) c.as_slice-forms.ensures
    ∙ ap (λ (cs : List FlatClause). form_checks u.p u.f forms first (sum_by clause_forms (map flat_clause cs))) c.deref-5.ensures.value in
    let pass : PhasesPass forms m s u.p u.k u.f =
    all_pass forms m s u.p u.k u.f states discretes read first levels numbers rights started count c.requires.forms.one_each c.in_ok-check_start_row_sums.ensures.ok c.in_ok-states.ensures.ok c.in_ok-rows.ensures.ok
    (ap first_failed (sym seen) ∙ c.in_ok-clauses.ensures.ok) in
    let own_states = states_made forms m s u.p u.k u.f states discretes read.of_states read.of_discretes c.in_ok-states.states.items c.in_ok-states.ensures.states in
    let own_discretes = discretes_made forms m s u.p u.k u.f states discretes read.of_states read.of_discretes c.in_ok-discretes.discretes.items c.in_ok-discretes.ensures in
    let own_rows : c.in_ok-rows.rows.items ≡ map (rounded_row u.p u.f) (take (state_count m.vars) forms) = c.in_ok-rows.ensures.rows ∙ ap (map (rounded_row u.p u.f)) started.rights_are in
    rows_for u.f (pos (2 ^ (u.p + u.k))) c.in_ok-states.states.items (map (rounded_state u.p u.k u.f) (states_of m.vars)) c.in_ok-discretes.discretes.items (map (rounded_discrete u.f) (discretes_of m.vars))
    own_states own_discretes
    c.in_ok-rows.rows.items (map (rounded_row u.p u.f) (take (state_count m.vars) forms)) own_rows (made_rows forms m s u.p u.k u.f c.requires.model c.requires.forms pass)

pub assemble_machine-requires-clause-clauses : goal.assemble_machine-requires-clause-clauses
assemble_machine-requires-clause-clauses c =
    let u = c.in_ok-units.units in
    let forms = c.args.f.now.forms in
    let m = flat_model c.args.m.now in
    let s = c.args.s.now in
    let states = c.split_variables-kinds.result.states.now in
    let discretes = c.split_variables-kinds.result.discretes.now in
    let read : IsRead m s u.p u.k u.f states discretes =
    read_is c.args.m.now c.deref.result.now states discretes c.deref.ensures.value s u.p u.k u.f c.split_variables-kinds.ensures.states c.split_variables-kinds.ensures.discretes c.in_ok-units.ensures.ok c.in_ok-units.ensures.bits in
    let first_here = states_counted c.args.m.now c.deref.result.now states discretes c.deref.ensures.value c.split_variables-kinds.ensures.state_count in
    let first = length states in
    let levels = c.deref-2.result.now in
    let numbers = c.deref-3.result.now in
    let rights = take first c.as_slice-forms.result.now in
    let started : IsStarted forms m u.p u.k u.f states discretes first levels numbers rights =
    started_is forms c.as_slice-forms.result.now m u.p u.k u.f states discretes levels numbers c.as_slice-forms.ensures first_here (c.deref-2.ensures.value ∙ c.in_ok-levels.ensures.levels)
    (c.deref-3.ensures.value ∙ c.in_ok-values.ensures.values) c.in_ok-levels.ensures.ok c.in_ok-values.ensures.ok in
    let count = sum_by clause_forms m.clauses in
    let seen : form_checks u.p u.f c.as_slice-forms.result.now first (sum_by clause_forms (map flat_clause c.deref-5.result.now)) ≡ form_checks u.p u.f forms first count =
    ap (λ (xs : List ExactForm). form_checks u.p u.f xs first (sum_by clause_forms (map flat_clause c.deref-5.result.now))) c.as_slice-forms.ensures
    ∙ ap (λ (cs : List FlatClause). form_checks u.p u.f forms first (sum_by clause_forms (map flat_clause cs))) c.deref-5.ensures.value in
    let pass : PhasesPass forms m s u.p u.k u.f =
    all_pass forms m s u.p u.k u.f states discretes read first levels numbers rights started count c.requires.forms.one_each c.in_ok-check_start_row_sums.ensures.ok c.in_ok-states.ensures.ok c.in_ok-rows.ensures.ok
    (ap first_failed (sym seen) ∙ c.in_ok-clauses.ensures.ok) in
    let own_states = states_made forms m s u.p u.k u.f states discretes read.of_states read.of_discretes c.in_ok-states.states.items c.in_ok-states.ensures.states in
    let own_discretes = discretes_made forms m s u.p u.k u.f states discretes read.of_states read.of_discretes c.in_ok-discretes.discretes.items c.in_ok-discretes.ensures in
    let own_clauses : c.in_ok-clauses.clauses.items ≡ clauses_of u.p u.f forms (state_count m.vars) m.clauses =
    c.in_ok-clauses.ensures.clauses
    ∙ ap (λ (xs : List ExactForm). clauses_of u.p u.f xs first (map flat_clause c.deref-5.result.now)) c.as_slice-forms.ensures
    ∙ ap (λ (cs : List FlatClause). clauses_of u.p u.f forms first (map flat_clause cs)) c.deref-5.ensures.value
    ∙ ap (λ (n : ℕ). clauses_of u.p u.f forms n m.clauses) first_here in
    clauses_for u.f (pos (2 ^ (u.p + u.k))) c.in_ok-states.states.items (map (rounded_state u.p u.k u.f) (states_of m.vars)) c.in_ok-discretes.discretes.items (map (rounded_discrete u.f) (discretes_of m.vars))
    own_states own_discretes
    c.in_ok-clauses.clauses.items (clauses_of u.p u.f forms (state_count m.vars) m.clauses) own_clauses (made_clauses forms m s u.p u.k u.f c.requires.model c.requires.forms pass)

pub returns-clause-machine : goal.returns-clause-machine
returns-clause-machine c =
    let u = c.in_ok-units.units in
    let forms = c.args.f.now.forms in
    let m = flat_model c.args.m.now in
    let s = c.args.s.now in
    let states = c.split_variables-kinds.result.states.now in
    let discretes = c.split_variables-kinds.result.discretes.now in
    let read : IsRead m s u.p u.k u.f states discretes =
    read_is c.args.m.now c.deref.result.now states discretes c.deref.ensures.value s u.p u.k u.f c.split_variables-kinds.ensures.states c.split_variables-kinds.ensures.discretes c.in_ok-units.ensures.ok c.in_ok-units.ensures.bits in
    let first_here = states_counted c.args.m.now c.deref.result.now states discretes c.deref.ensures.value c.split_variables-kinds.ensures.state_count in
    let first = length states in
    let levels = c.deref-2.result.now in
    let numbers = c.deref-3.result.now in
    let rights = take first c.as_slice-forms.result.now in
    let started : IsStarted forms m u.p u.k u.f states discretes first levels numbers rights =
    started_is forms c.as_slice-forms.result.now m u.p u.k u.f states discretes levels numbers c.as_slice-forms.ensures first_here (c.deref-2.ensures.value ∙ c.in_ok-levels.ensures.levels)
    (c.deref-3.ensures.value ∙ c.in_ok-values.ensures.values) c.in_ok-levels.ensures.ok c.in_ok-values.ensures.ok in
    let count = sum_by clause_forms m.clauses in
    let seen : form_checks u.p u.f c.as_slice-forms.result.now first (sum_by clause_forms (map flat_clause c.deref-5.result.now)) ≡ form_checks u.p u.f forms first count =
    ap (λ (xs : List ExactForm). form_checks u.p u.f xs first (sum_by clause_forms (map flat_clause c.deref-5.result.now))) c.as_slice-forms.ensures
    ∙ ap (λ (cs : List FlatClause). form_checks u.p u.f forms first (sum_by clause_forms (map flat_clause cs))) c.deref-5.ensures.value in
    let pass : PhasesPass forms m s u.p u.k u.f =
    all_pass forms m s u.p u.k u.f states discretes read first levels numbers rights started count c.requires.forms.one_each c.in_ok-check_start_row_sums.ensures.ok c.in_ok-states.ensures.ok c.in_ok-rows.ensures.ok
    (ap first_failed (sym seen) ∙ c.in_ok-clauses.ensures.ok) in
    let own_states = states_made forms m s u.p u.k u.f states discretes read.of_states read.of_discretes c.in_ok-states.states.items c.in_ok-states.ensures.states in
    let own_discretes = discretes_made forms m s u.p u.k u.f states discretes read.of_states read.of_discretes c.in_ok-discretes.discretes.items c.in_ok-discretes.ensures in
    let own_rows : c.in_ok-rows.rows.items ≡ map (rounded_row u.p u.f) (take (state_count m.vars) forms) = c.in_ok-rows.ensures.rows ∙ ap (map (rounded_row u.p u.f)) started.rights_are in
    let own_clauses : c.in_ok-clauses.clauses.items ≡ clauses_of u.p u.f forms (state_count m.vars) m.clauses =
    c.in_ok-clauses.ensures.clauses
    ∙ ap (λ (xs : List ExactForm). clauses_of u.p u.f xs first (map flat_clause c.deref-5.result.now)) c.as_slice-forms.ensures
    ∙ ap (λ (cs : List FlatClause). clauses_of u.p u.f forms first (map flat_clause cs)) c.deref-5.ensures.value
    ∙ ap (λ (n : ℕ). clauses_of u.p u.f forms n m.clauses) first_here in
    let parts : HasParts forms m u.p u.k u.f u.last c.assemble_machine.result = record {
      same_p = c.assemble_machine.ensures.units.0;
      same_k = c.assemble_machine.ensures.units.1;
      same_f = c.assemble_machine.ensures.units.2;
      same_last = c.assemble_machine.ensures.units.3;
      same_states = c.assemble_machine.ensures.lists.0 ∙ own_states;
      same_discretes = c.assemble_machine.ensures.lists.1 ∙ own_discretes;
      same_rows = c.assemble_machine.ensures.lists.2 ∙ own_rows;
      same_clauses = c.assemble_machine.ensures.lists.3 ∙ own_clauses;
      no_share = c.assemble_machine.ensures.units.4;
    } in
    machine_is forms m s u.p u.k u.f u.last c.assemble_machine.result parts (no_fault forms m s u.p u.k u.f states discretes read pass) read.coefficient_bits read.tick_bits read.level_bits c.in_ok-units.ensures.last
