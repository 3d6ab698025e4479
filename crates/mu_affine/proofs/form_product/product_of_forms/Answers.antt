use Rattle.mu_affine.proofs.Common.{false≢true, IsAnswer, refl, subst, sym}
use Rattle.mu_affine.proofs.Products.{times_left, times_right, constant_time}
use Rattle.mu_affine.proofs.form_product.product_of_forms.Goals as goal

pub returns-then-is_constant_factor : goal.returns-then-is_constant_factor
returns-then-is_constant_factor c =
    let constant = c.if-is_constant_factor.ensures.0 refl in
    let same = times_left c.args.place c.args.at c.args.left.now c.args.right.now constant (constant_time c.args.place c.args.left.now c.requires.left constant) c.requires.right c.den.ensures.positive c.den-2.ensures.positive in
    subst (λ e. IsAnswer c.args.place e c.multiply_form_at.result) (sym same) (c.multiply_form_at.ensures c.args.place c.requires.right)

pub returns-then-is_constant_factor-2 : goal.returns-then-is_constant_factor-2
returns-then-is_constant_factor-2 c =
    let constant = c.if-is_constant_factor-2.ensures.0 refl in
    let same = times_right c.args.place c.args.at c.args.left.now c.args.right.now constant (constant_time c.args.place c.args.right.now c.requires.right constant) c.requires.left c.den.ensures.positive c.den-2.ensures.positive in
    subst (λ e. IsAnswer c.args.place e c.multiply_form_at-then-is_constant_factor-2.result) (sym same) (c.multiply_form_at-then-is_constant_factor-2.ensures c.args.place c.requires.left)

pub multiply_variable_forms-requires : goal.multiply_variable_forms-requires
multiply_variable_forms-requires c = record {
  left = record { finished = c.requires.left; variable = λ k. false≢true (c.if-is_constant_factor.ensures.1 k); positive = c.den.ensures.positive };
  right = record { finished = c.requires.right; variable = λ k. false≢true (c.if-is_constant_factor-2.ensures.1 k); positive = c.den-2.ensures.positive };
}
