use Rattle.mu_affine.proofs.Common.{◌∙◌, FitsSigned, Product, sym, to_z-of_z, w128}
use Rattle.mu_affine.specs.Rounded.{product_of}
use Rattle.mu_affine.proofs.KeptNumbers.{kept_large, small_turn, kept_end, cast_small, product_turn}
use Rattle.mu_affine.proofs.rounded_form.round_form_products.Goals as goal

pub returns-then-exceeds_power_of_two-clause-none : goal.returns-then-exceeds_power_of_two-clause-none
returns-then-exceeds_power_of_two-clause-none c =
    let fits : FitsSigned w128 c.round_form_number-coef.result = record { sfits = c.round_form_number-coef.type_inv } in
    let large = rw (to_z-of_z w128 c.round_form_number-coef.result fits, c.round_form_number-coef.ensures) at c.exceeds_power_of_two.ensures in
    kept_large (product_of c.args.p) (λ (e : Product). e.coef) c.args.exact.now c.loop-e.e-index c.e-item.result c.loop-e-test.true c.e-item.is (sym large ∙ c.if-exceeds_power_of_two.true)

pub loop-e-preserved : goal.loop-e-preserved
loop-e-preserved c =
    let fits : FitsSigned w128 c.round_form_number-coef.result = record { sfits = c.round_form_number-coef.type_inv } in
    let own = rw (to_z-of_z w128 c.round_form_number-coef.result fits) at c.exceeds_power_of_two.ensures in
    let large = rw c.round_form_number-coef.ensures at own in
    record {
      so_far = product_turn c.args.p c.args.exact.now c.loop-e.e-index c.e-item.result c.loop-e.products.items c.push_rounded_product.new.products.items _ c.loop-e-test.true c.e-item.is c.loop-e.invariant.so_far
          (cast_small c.round_form_number-coef.result (sym own ∙ c.if-exceeds_power_of_two.false) ∙ c.round_form_number-coef.ensures) c.in_ok-push_rounded_product.ensures;
      small = small_turn (product_of c.args.p) (λ (e : Product). e.coef) c.args.exact.now c.loop-e.e-index c.e-item.result c.loop-e-test.true c.e-item.is c.loop-e.invariant.small (sym large ∙ c.if-exceeds_power_of_two.false);
    }

pub returns-clause-some : goal.returns-clause-some
returns-clause-some c =
    kept_end (product_of c.args.p) (λ (e : Product). e.coef) c.args.exact.now c.loop-e.e-index c.loop-e.products.items c.loop-e-test.false c.loop-e.invariant.so_far c.loop-e.invariant.small
