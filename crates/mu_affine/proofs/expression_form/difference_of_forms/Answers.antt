use Rattle.mu_affine.proofs.Common
use Common.{◌∙◌, ◌≡◌, AffineForm, ap, Err, err_from_is_err_and, false, form_meaning, IsAnswer}
use Common.{join_forms, subst, sum_meaning, sym, true}
use Rattle.mu_affine.proofs.Walking.{fault_passes, sum_answer}
use Rattle.mu_affine.proofs.Conditions.{sum_begins, never_fails}
use Rattle.mu_affine.proofs.expression_form.difference_of_forms.Goals as goal

pub returns-in_err-join_expression_term : goal.returns-in_err-join_expression_term
returns-in_err-join_expression_term c =
    let left = c.args.left.now in
    let p = err_from_is_err_and c.from_residual.result c.from_residual.ensures.1 in
    rw (p.1, p.2) (fault_passes c.args.place (join_forms c.args.place false c.args.at (sum_meaning c.new-total.result) (form_meaning left)) (join_forms c.args.place true c.args.at (form_meaning left) (form_meaning c.args.right.now)) c.in_err-join_expression_term.field-0.0
    (λ fault e. absurd (never_fails c.args.place c.args.at left (sum_meaning c.new-total.result) fault c.requires.left c.den.ensures.reduced c.new-total.ensures.meaning e))
    c.in_err-join_expression_term.ensures)

pub returns-in_err-join_expression_term-2 : goal.returns-in_err-join_expression_term-2
returns-in_err-join_expression_term-2 c =
    let left = c.args.left.now in
    let same : sum_meaning c.join_expression_term.new.total ≡ form_meaning left =
    sum_begins c.args.place c.args.at left (sum_meaning c.new-total.result) (sum_meaning c.join_expression_term.new.total) c.requires.left c.den.ensures.reduced c.new-total.ensures.meaning c.in_ok-join_expression_term.ensures.0 in
    let p = err_from_is_err_and c.from_residual-in_err-join_expression_term-2.result c.from_residual-in_err-join_expression_term-2.ensures.1 in
    rw (p.1, p.2) (subst (λ (s : AffineForm). IsAnswer c.args.place (join_forms c.args.place true c.args.at s (form_meaning c.args.right.now)) (Err c.in_err-join_expression_term-2.field-0.0)) same c.in_err-join_expression_term-2.ensures)

pub returns : goal.returns
returns c =
    let left = c.args.left.now in
    let same : sum_meaning c.join_expression_term.new.total ≡ form_meaning left =
    sum_begins c.args.place c.args.at left (sum_meaning c.new-total.result) (sum_meaning c.join_expression_term.new.total) c.requires.left c.den.ensures.reduced c.new-total.ensures.meaning c.in_ok-join_expression_term.ensures.0 in
    sum_answer c.args.place (join_forms c.args.place true c.args.at (form_meaning left) (form_meaning c.args.right.now)) c.join_expression_term-2.new.total c.in_ok-form.form
    (sym c.in_ok-join_expression_term-2.ensures.0 ∙ ap (λ (s : AffineForm). join_forms c.args.place true c.args.at s (form_meaning c.args.right.now)) same)
    c.in_ok-join_expression_term-2.ensures.2 c.in_ok-form.ensures
