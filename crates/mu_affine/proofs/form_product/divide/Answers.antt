use Rattle.mu_affine.proofs.Common.{◌∙◌, ap, false≢true, refl}
use Rattle.mu_affine.specs.FormParts.{placed}
use Rattle.mu_affine.proofs.Multiplying.{nonzero_else, quotient_is, quotient_by_zero}
use Rattle.mu_affine.proofs.Multiplying.{quotient_refused}
use Rattle.mu_affine.proofs.form_product.divide.Goals as goal

pub returns-then-not-is_constant_factor : goal.returns-then-not-is_constant_factor
returns-then-not-is_constant_factor c = quotient_refused c.args.place c.args.at c.args.left.now c.args.right.now c.requires.right (λ k. false≢true (c.if-not-is_constant_factor.ensures.1 k))

pub returns-then-is_zero_factor : goal.returns-then-is_zero_factor
returns-then-is_zero_factor c = quotient_by_zero c.args.place c.args.at c.args.left.now c.args.right.now (c.if-not-is_constant_factor.ensures.0 refl) (c.if-is_zero_factor.ensures.0 refl)

pub returns-in-Ok : goal.returns-in-Ok
returns-in-Ok c =
    let answer = rw c.in-Ok.is at (c.in_ok-quotient.ensures c.args.place c.requires.left) in
    (quotient_is c.args.place c.args.at c.args.left.now c.args.right.now (c.if-not-is_constant_factor.ensures.0 refl) (nonzero_else c.args.right.now.constant (λ k. false≢true (c.if-is_zero_factor.ensures.1 k))) ∙ ap (placed c.args.at) answer.0, answer.1)

pub returns-in-Err : goal.returns-in-Err
returns-in-Err c =
    let answer = rw c.in-Err.is at (c.in_ok-quotient.ensures c.args.place c.requires.left) in
    quotient_is c.args.place c.args.at c.args.left.now c.args.right.now (c.if-not-is_constant_factor.ensures.0 refl) (nonzero_else c.args.right.now.constant (λ k. false≢true (c.if-is_zero_factor.ensures.1 k))) ∙ ap (placed c.args.at) answer
