use Rattle.mu_affine.proofs.Common.{ExactForm, sym}
use Rattle.mu_affine.proofs.Checks.{time_fails, constant_fails}
use Rattle.mu_affine.proofs.Scalings.{form_scaled, form_unscaled_names, form_unscaled_pairs}
use Rattle.mu_affine.proofs.form_product.multiply_form_by.Goals as goal

pub returns-in-Err : goal.returns-in-Err
returns-in-Err c = λ p finished.
    let failed = rw (c.in-Err.is, c.as_slice.ensures) at c.in_ok-entries.ensures in
    form_unscaled_names p c.args.divide c.args.by c.args.form.now c.in-Err.fault finished failed

pub returns-in-Err-2 : goal.returns-in-Err-2
returns-in-Err-2 c = λ p finished.
    let failed = rw (c.in-Err-2.is, c.as_slice-2.ensures) at c.in_ok-products.ensures in
    form_unscaled_pairs p c.args.divide c.args.by c.args.form.now c.in-Err-2.fault finished failed

pub returns-in-Err-multiply_form_ratio : goal.returns-in-Err-multiply_form_ratio
returns-in-Err-multiply_form_ratio c = λ p finished. time_fails p.sizes _ c.in-Err-multiply_form_ratio.fault (sym c.in-Err-multiply_form_ratio.ensures)

pub returns-in-Err-multiply_form_ratio-2 : goal.returns-in-Err-multiply_form_ratio-2
returns-in-Err-multiply_form_ratio-2 c = λ p finished. constant_fails p.sizes _ c.in-Err-multiply_form_ratio-2.fault (sym c.in-Err-multiply_form_ratio-2.ensures)

pub returns : goal.returns
returns c = λ p finished.
    let names = rw (c.in-Ok.is, c.as_slice.ensures, ← c.new.ensures) at c.in_ok-entries.ensures in
    let pairs = rw (c.in-Ok-2.is, c.as_slice-2.ensures, ← c.new-2.ensures) at c.in_ok-products.ensures in
    let new : ExactForm = record { entries = c.new.result; products = c.new-2.result; time = c.in-Ok-multiply_form_ratio.time; constant = c.in-Ok-multiply_form_ratio-2.constant } in
    form_scaled p c.args.divide c.args.by c.args.form.now new c.requires.positive c.requires.nonzero finished names pairs (sym c.in-Ok-multiply_form_ratio.ensures) (sym c.in-Ok-multiply_form_ratio-2.ensures)
