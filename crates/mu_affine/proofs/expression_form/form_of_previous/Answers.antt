use Rattle.mu_affine.proofs.Common.{◌∙◌, ap, arith, false≢true, Ok, sym}
use Rattle.mu_affine.proofs.expression_form.form_of_previous.Goals as goal

pub returns : goal.returns
returns c =
    (ap Ok (sym c.in_ok-form.ensures.meaning), c.in_ok-form.ensures.finished c.args.place (omega arith, λ e. absurd (false≢true (sym c.requires.outside ∙ e))))
