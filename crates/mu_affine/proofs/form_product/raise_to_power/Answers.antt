use Rattle.mu_affine.proofs.Common.{◌∙◌, ap, false≢true, Ok, refl, sym}
use Rattle.mu_affine.proofs.Multiplying.{power_refused, power_is, power_fails}
use Rattle.mu_affine.proofs.form_product.raise_to_power.Goals as goal

pub returns-then-not-is_constant_factor : goal.returns-then-not-is_constant_factor
returns-then-not-is_constant_factor c = power_refused c.args.place c.args.exp c.args.at c.args.base.now c.requires (λ k. false≢true (c.if-not-is_constant_factor.ensures.1 k))

pub returns-in-Ok : goal.returns-in-Ok
returns-in-Ok c =
    (power_is c.args.place c.args.exp c.args.at c.args.base.now c.in-Ok.power (c.if-not-is_constant_factor.ensures.0 refl) (sym c.in-Ok.ensures) ∙ ap Ok (sym c.constant.ensures.meaning), c.constant.ensures.finished c.args.place)

pub returns-in-Err : goal.returns-in-Err
returns-in-Err c = power_fails c.args.place c.args.exp c.args.at c.args.base.now c.in-Err.fault (c.if-not-is_constant_factor.ensures.0 refl) (sym c.in-Err.ensures)
