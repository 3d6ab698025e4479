use Rattle.mu_affine.proofs.Common
use Common.{ℕ, ◌+◌, ◌∙◌, ◌≡◌, actions_of, ap, arith, err_from_is_err_and, first_failed, flat_action}
use Common.{flat_branch, FlatStatement, form_checks, length, length-map, List, map, sym}
use Rattle.mu_affine.proofs.Branches.{branch_made}
use Rattle.mu_affine.proofs.Placing.{forms_turn, forms_refused, forms_refused_first}
use Rattle.mu_affine.proofs.rounded_machine.round_machine_branch.Goals as goal

pub returns-in_err-form-clause-err : goal.returns-in_err-form-clause-err
returns-in_err-form-clause-err c =
    let body = c.args.branch.now.body.items in
    let p = err_from_is_err_and c.from_residual.result c.from_residual.ensures.1 in
    rw (p.1, p.2)
    (forms_refused_first c.args.units.p c.args.units.f c.args.forms.now c.args.first 1 (1 + length (map flat_action body)) _ (omega arith) c.requires.within c.in_err-form.ensures.err)

pub returns-in_err-actions-clause-err : goal.returns-in_err-actions-clause-err
returns-in_err-actions-clause-err c =
    let body = c.args.branch.now.body.items in
    let more : length c.deref.result.now ≡ length (map flat_action body) = ap length c.deref.ensures.value ∙ sym (length-map body flat_action) in
    let p = err_from_is_err_and c.from_residual-in_err-actions.result c.from_residual-in_err-actions.ensures.1 in
    rw (p.1, p.2)
    (forms_refused c.args.units.p c.args.units.f c.args.forms.now c.args.first 1 (length c.deref.result.now) (1 + length (map flat_action body)) _ (omega (arith, more)) c.requires.within
    c.in_ok-form.ensures.ok c.in_err-actions.ensures.err)

pub returns-clause-ok : goal.returns-clause-ok
returns-clause-ok c =
    let body = c.args.branch.now.body.items in
    let more : length c.deref.result.now ≡ length (map flat_action body) = ap length c.deref.ensures.value ∙ sym (length-map body flat_action) in
    ap (λ (n : ℕ). first_failed (form_checks c.args.units.p c.args.units.f c.args.forms.now c.args.first (1 + n))) (sym more)
    ∙ forms_turn c.args.units.p c.args.units.f c.args.forms.now c.args.first 1 (length c.deref.result.now) (omega (arith, more, c.requires.within)) c.in_ok-form.ensures.ok c.in_ok-actions.ensures.ok

pub returns-clause-branch : goal.returns-clause-branch
returns-clause-branch c =
    branch_made c.args.units.p c.args.units.f c.args.forms.now c.args.first (flat_branch c.args.branch.now) c.in_ok-form.form c.round_machine_relation.result c.new.result c.in_ok-form.ensures.form c.round_machine_relation.ensures
    (c.new.ensures ∙ c.in_ok-actions.ensures.actions
    ∙ ap (λ (xs : List FlatStatement). actions_of c.args.units.p c.args.units.f c.args.forms.now (c.args.first + 1) (map flat_action xs)) c.deref.ensures.value)
