use Rattle.mu_affine.proofs.Common
use Common.{◌+◌, ◌∙◌, FitsSigned, refl, rounded, rounded_entries, sym, to_z-of_z, w128}
use Rattle.mu_affine.proofs.FormLaws.{unfit_entries, form_made}
use Rattle.mu_affine.proofs.rounded_form.round_form.Goals as goal

pub returns-in_default-clause-none : goal.returns-in_default-clause-none
returns-in_default-clause-none c =
    let none = rw (c.in_default.is, c.as_slice.ensures) at c.in_ok-entries.ensures.none in
    let p = c.args.units.p in
    let form = c.args.form.now in
    unfit_entries (rounded_entries p form.entries) (rounded p form.time) (rounded (c.args.units.f + p) form.constant) none

pub returns-clause-some : goal.returns-clause-some
returns-clause-some c =
    let some = rw (c.in-Some.is, c.as_slice.ensures) at c.in_ok-entries.ensures.some in
    let time_fits : FitsSigned w128 c.round_form_number-time.result = record { sfits = c.round_form_number-time.type_inv } in
    let gamma_fits : FitsSigned w128 c.round_form_number-gamma.result = record { sfits = c.round_form_number-gamma.type_inv } in
    let fits = rw (c.as_slice-2.ensures.value, to_z-of_z w128 c.round_form_number-time.result time_fits, to_z-of_z w128 c.round_form_number-gamma.result gamma_fits) at (sym c.is_form_in_limits.ensures ∙ c.if-not-is_form_in_limits.false) in
    form_made c.args.units.p c.args.units.f c.args.form.now c.in-Some.entries.items c.new.result c.round_form_number-time.result c.round_form_number-gamma.result _ _ c.new.ensures some.0 c.round_form_number-time.ensures c.round_form_number-gamma.ensures refl
    (to_z-of_z w128 c.round_form_number-gamma.result gamma_fits) fits
