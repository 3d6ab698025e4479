use Rattle.mu_affine.proofs.Common
use Common.{◌<◌, ◌∙◌, ◌≡◌, AffineErr, AreSolved, arith, coefficient_count, CountedForms}
use Common.{equation_context, err_from_is_err_and, ExactForm, flat_equation, flat_model}
use Common.{form_meaning, form_of, forms_in, length, length-set, map, of_equations, Ok, refl}
use Common.{right_side, solve, solved_so_far, subst, sym}
use Rattle.std.specs.Vec.{with_item}
use Rattle.mu_affine.proofs.Counts.{counted_few}
use Rattle.mu_affine.proofs.Steps.{is_fault}
use Rattle.mu_affine.proofs.FormsInOrder.{part_along, solve_count_fault, solve_done, solved_more}
use Rattle.mu_affine.proofs.normal_forms.solve_next_variable.Goals as goal

pub right_side_form-requires-clause-solved : goal.right_side_form-requires-clause-solved
right_side_form-requires-clause-solved c = subst (AreSolved (of_equations c.args.sizes)) (sym c.deref-2.ensures.value) c.requires.solved.finished

pub returns-in_err-solved : goal.returns-in_err-solved
returns-in_err-solved c =
    let q = err_from_is_err_and c.from_residual-in_err-solved.result c.from_residual-in_err-solved.ensures.1 in
    let fault : AffineErr = c.in_err-solved.field-0.0 in
    let f : ExactForm = c.in_ok-form.form in
    let s : CountedForms = c.args.solved.now in
    let form : form_of (equation_context c.args.sizes (forms_in s.forms.items)) (right_side (map flat_equation c.args.m.now.equations.items) c.args.var) ≡ Ok (form_meaning f) =
    sym (part_along c.args.sizes c.deref-2.result.now s.forms.items c.deref.result.now c.args.m.now.equations.items c.args.var c.deref-2.ensures.value c.deref.ensures.value) ∙ c.in_ok-form.ensures.0 in
    rw (q.1, q.2) (is_fault (solve (flat_model c.args.m.now) c.args.var (solved_so_far s)) fault
    (solve_count_fault (flat_model c.args.m.now) c.args.sizes c.args.var s (form_meaning f) fault c.requires.sizes form (sym (c.in_err-solved.ensures (of_equations c.args.sizes) c.in_ok-form.ensures.1))))

pub returns : goal.returns
returns c =
    let f : ExactForm = c.in_ok-form.form in
    let s : CountedForms = c.args.solved.now in
    let form : form_of (equation_context c.args.sizes (forms_in s.forms.items)) (right_side (map flat_equation c.args.m.now.equations.items) c.args.var) ≡ Ok (form_meaning f) =
    sym (part_along c.args.sizes c.deref-2.result.now s.forms.items c.deref.result.now c.args.m.now.equations.items c.args.var c.deref-2.ensures.value c.deref.ensures.value) ∙ c.in_ok-form.ensures.0 in
    let within : c.args.var < length s.forms.items = omega (arith, c.requires.within, c.requires.solved.one_each) in
    let new : CountedForms = record { forms = with_item s.forms c.args.var f; count = c.in_ok-solved.field-0 } in
    let count = sym (c.in_ok-solved.ensures (of_equations c.args.sizes) c.in_ok-form.ensures.1) in (
      solve_done (flat_model c.args.m.now) c.args.sizes c.args.var s new f c.requires.sizes within form count refl,
      solved_more c.args.sizes c.args.var (length c.args.firsts.now) s new f c.requires.solved within c.in_ok-form.ensures.1 (counted_few s.count (coefficient_count c.args.sizes (form_meaning f)) c.in_ok-solved.field-0 count) refl (length-set s.forms.items c.args.var f),
    )
