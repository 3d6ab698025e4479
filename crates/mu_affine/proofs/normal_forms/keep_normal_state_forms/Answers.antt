use Rattle.mu_affine.proofs.Common
use Common.{ℕ, ◌+◌, ◌∙◌, ◌≡◌, ◌≤◌, AffineErr, AffineForm, ap, arith, coefficient_count}
use Common.{CountedForms, equation_context, err_from_is_err_and, ExactForm, flat_equation}
use Common.{flat_model, form_meaning, form_of, forms_in, keep_states, kept_so_far, length, map}
use Common.{of_equations, Ok, refl, Result, right_side, sym}
use Rattle.mu_affine.proofs.Counts.{counted_few}
use Rattle.mu_affine.proofs.Steps.{answer_fault, fault_same}
use Rattle.mu_affine.proofs.FormsInOrder.{part_along}
use Rattle.mu_affine.proofs.KeptForms.{none_kept, state_kept, length_kept, keep_part_fault}
use Rattle.mu_affine.proofs.KeptForms.{keep_count_fault, keep_done, state_part, state_more}
use Rattle.mu_affine.proofs.KeptForms.{state_fails, states_begin, states_end}
use Rattle.mu_affine.proofs.normal_forms.keep_normal_state_forms.Goals as goal

pub loop-var-init : goal.loop-var-init
loop-var-init c = record {
  rest = states_begin (flat_model c.args.m.now) c.args.sizes (kept_so_far c.args.solved.now c.args.kept.now);
  kept = none_kept c.args.sizes c.args.kept.now.forms.items c.requires.none;
  one_each = ap length c.requires.none;
  few = c.requires.count_limit;
}

pub returns-in_err-form : goal.returns-in_err-form
returns-in_err-form c =
    let q = err_from_is_err_and c.from_residual.result c.from_residual.ensures.1 in
    let fault : AffineErr = c.in_err-form.field-0.0 in
    let v : ℕ = c.loop-var.var in
    let old : CountedForms = c.loop-var.kept in
    let part : Result AffineForm AffineErr = state_part (flat_model c.args.m.now) c.args.sizes c.args.solved.now v in
    let given : Result AffineForm AffineErr = form_of (equation_context c.args.sizes (forms_in c.args.solved.now)) (right_side (map flat_equation c.deref.result.now) v) in
    let same : given ≡ part = part_along c.args.sizes c.args.solved.now c.args.solved.now c.deref.result.now c.args.m.now.equations.items v refl c.deref.ensures.value in
    rw (q.1, q.2) (state_fails (flat_model c.args.m.now) c.args.sizes c.args.solved.now v old (keep_states (flat_model c.args.m.now) 0 c.args.sizes.states (kept_so_far c.args.solved.now c.args.kept.now)) fault c.requires.sizes c.loop-var-test.true c.loop-var.invariant.rest
    (keep_part_fault c.args.sizes part (kept_so_far c.args.solved.now old) fault (fault_same given part fault same (answer_fault (of_equations c.args.sizes) given fault c.in_err-form.ensures))))

pub returns-in_err-push_counted_form : goal.returns-in_err-push_counted_form
returns-in_err-push_counted_form c =
    let q = err_from_is_err_and c.from_residual-in_err-push_counted_form.result c.from_residual-in_err-push_counted_form.ensures.1 in
    let fault : AffineErr = c.in_err-push_counted_form.field-0.0 in
    let v : ℕ = c.loop-var.var in
    let old : CountedForms = c.loop-var.kept in
    let f : ExactForm = c.in_ok-form.form in
    let part : Result AffineForm AffineErr = state_part (flat_model c.args.m.now) c.args.sizes c.args.solved.now v in
    let is : part ≡ Ok (form_meaning f) = sym (part_along c.args.sizes c.args.solved.now c.args.solved.now c.deref.result.now c.args.m.now.equations.items v refl c.deref.ensures.value) ∙ c.in_ok-form.ensures.0 in
    rw (q.1, q.2) (state_fails (flat_model c.args.m.now) c.args.sizes c.args.solved.now v old (keep_states (flat_model c.args.m.now) 0 c.args.sizes.states (kept_so_far c.args.solved.now c.args.kept.now)) fault c.requires.sizes c.loop-var-test.true c.loop-var.invariant.rest
    (keep_count_fault c.args.sizes part (kept_so_far c.args.solved.now old) (form_meaning f) fault is (c.in_err-push_counted_form.ensures (of_equations c.args.sizes) c.in_ok-form.ensures.1)))

pub loop-var-preserved : goal.loop-var-preserved
loop-var-preserved c =
    let v : ℕ = c.loop-var.var in
    let old : CountedForms = c.loop-var.kept in
    let new : CountedForms = c.push_counted_form.new.kept in
    let f : ExactForm = c.in_ok-form.form in
    let part : Result AffineForm AffineErr = state_part (flat_model c.args.m.now) c.args.sizes c.args.solved.now v in
    let is : part ≡ Ok (form_meaning f) = sym (part_along c.args.sizes c.args.solved.now c.args.solved.now c.deref.result.now c.args.m.now.equations.items v refl c.deref.ensures.value) ∙ c.in_ok-form.ensures.0 in
    let kept = c.in_ok-push_counted_form.ensures (of_equations c.args.sizes) c.in_ok-form.ensures.1 in
    record {
      rest = sym (state_more (flat_model c.args.m.now) c.args.sizes c.args.solved.now v old new c.requires.sizes c.loop-var-test.true (keep_done c.args.sizes c.args.solved.now part old new f is kept.0 kept.1)) ∙ c.loop-var.invariant.rest;
      kept = state_kept c.args.sizes old.forms.items new.forms.items f c.loop-var.invariant.kept (omega (arith, c.loop-var.invariant.one_each, c.loop-var-test.true)) c.in_ok-form.ensures.1 kept.1;
      one_each = length_kept old.forms.items new.forms.items f kept.1 ∙ ap (λ n. n + 1) c.loop-var.invariant.one_each;
      few = counted_few old.count (coefficient_count c.args.sizes (form_meaning f)) new.count kept.0;
    }

pub returns : goal.returns
returns c =
    let past : c.args.sizes.states ≤ c.loop-var.var = omega (arith, c.loop-var-test.false) in (
      sym c.loop-var.invariant.rest ∙ states_end (flat_model c.args.m.now) c.args.sizes c.loop-var.var (kept_so_far c.args.solved.now c.loop-var.kept) past,
      record { kept = c.loop-var.invariant.kept; past = omega (arith, past, c.loop-var.invariant.one_each); few = c.loop-var.invariant.few },
    )
