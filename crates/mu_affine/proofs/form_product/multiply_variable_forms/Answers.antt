use Rattle.mu_affine.proofs.Common.{◌∙◌, false≢true, form_meaning, IsAnswer, refl, subst, sym}
use Rattle.mu_affine.proofs.Showing.{not_true, not_false}
use Rattle.mu_affine.proofs.Products.{cross_is, multiply_forms-comm, product_outside}
use Rattle.mu_affine.proofs.Products.{product_refused}
use Rattle.mu_affine.proofs.form_product.multiply_variable_forms.Goals as goal

pub returns-then-not-place : goal.returns-then-not-place
returns-then-not-place c = product_outside c.args.place c.args.at c.args.left.now c.args.right.now (not_true _ c.if-not-place.true) c.requires.left c.requires.right

pub returns-then-are_mixed_factors : goal.returns-then-are_mixed_factors
returns-then-are_mixed_factors c =
    let kinds = c.if-are_mixed_factors.ensures.0 refl in
    let same = cross_is c.args.place c.args.at c.args.left.now c.args.right.now (not_false _ c.if-not-place.false) kinds.0 kinds.1 in
    subst (λ e. IsAnswer c.args.place e c.multiply_mixed_forms.result) (sym same) c.multiply_mixed_forms.ensures

pub returns-then-are_mixed_factors-2 : goal.returns-then-are_mixed_factors-2
returns-then-are_mixed_factors-2 c =
    let kinds = c.if-are_mixed_factors-2.ensures.0 refl in
    let same = cross_is c.args.place c.args.at c.args.right.now c.args.left.now (not_false _ c.if-not-place.false) kinds.0 kinds.1 in
    subst (λ e. IsAnswer c.args.place e c.multiply_mixed_forms-then-are_mixed_factors-2.result) (sym (multiply_forms-comm c.args.place c.args.at (form_meaning c.args.left.now) (form_meaning c.args.right.now) ∙ same)) c.multiply_mixed_forms-then-are_mixed_factors-2.ensures

pub returns : goal.returns
returns c = product_refused c.args.place c.args.at c.args.left.now c.args.right.now c.requires.left c.requires.right (λ k. false≢true (c.if-are_mixed_factors.ensures.1 k)) (λ k. false≢true (c.if-are_mixed_factors-2.ensures.1 k))
