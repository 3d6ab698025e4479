use Rattle.mu_affine.proofs.Common.{[], ◌∙◌, ap, ExactForm, pos, rounded_form, whole}
use Rattle.std.proofs.lemmas.List.{get_or_read}
use Rattle.mu_affine.proofs.Placing.{one_form_holds, one_form_fails}
use Rattle.mu_affine.proofs.rounded_machine.round_machine_form.Goals as goal

pub returns-in_default-clause-err : goal.returns-in_default-clause-err
returns-in_default-clause-err c =
    let none = rw c.in_default.is at c.in_ok-form.ensures.none in
    one_form_fails c.args.units.p c.args.units.f c.args.forms.now c.args.place c.index-forms-place.result c.requires.place c.index-forms-place.is none

pub returns-clause-form : goal.returns-clause-form
returns-clause-form c =
    let some = rw c.in-Some.is at c.in_ok-form.ensures.some in
    let d : ExactForm = record { entries = []; products = []; time = whole (pos 0); constant = whole (pos 0) } in
    some.0 ∙ ap (rounded_form c.args.units.p c.args.units.f) (get_or_read c.args.forms.now c.args.place c.index-forms-place.result c.requires.place c.index-forms-place.is d)

pub returns-clause-ok : goal.returns-clause-ok
returns-clause-ok c =
    let some = rw c.in-Some.is at c.in_ok-form.ensures.some in
    one_form_holds c.args.units.p c.args.units.f c.args.forms.now c.args.place c.index-forms-place.result c.requires.place c.index-forms-place.is (rw some.0 at some.1)
