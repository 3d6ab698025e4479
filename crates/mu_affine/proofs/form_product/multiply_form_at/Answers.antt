use Rattle.mu_affine.proofs.Common.{ap, refl}
use Rattle.mu_affine.specs.FormParts.{placed}
use Rattle.mu_affine.proofs.Multiplying.{form_times_zero}
use Rattle.mu_affine.proofs.form_product.multiply_form_at.Goals as goal

pub returns-then-is_zero_factor : goal.returns-then-is_zero_factor
returns-then-is_zero_factor c = λ p finished.
    (form_times_zero p c.args.at c.args.form.now c.constant.result c.args.by c.whole.result finished (c.if-is_zero_factor.ensures.0 refl) c.den.ensures.positive c.den-2.ensures.positive c.constant.ensures.meaning c.whole.ensures, c.constant.ensures.finished p)

pub returns-in-Ok : goal.returns-in-Ok
returns-in-Ok c = λ p finished.
    let answer = rw c.in-Ok.is at (c.in_ok-product.ensures p finished) in
    (ap (placed c.args.at) answer.0, answer.1)

pub returns-in-Err : goal.returns-in-Err
returns-in-Err c = λ p finished.
    let answer = rw c.in-Err.is at (c.in_ok-product.ensures p finished) in
    ap (placed c.args.at) answer
