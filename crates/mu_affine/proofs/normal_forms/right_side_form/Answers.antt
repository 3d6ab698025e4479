use Rattle.mu_affine.proofs.Common
use Common.{◌∙◌, ap, constant_form, equation_context, form_of, forms_in, of_equations, Ok, sym}
use Rattle.mu_affine.proofs.Equations.{no_side}
use Rattle.mu_affine.proofs.normal_forms.right_side_form.Goals as goal

pub returns-in-None : goal.returns-in-None
returns-in-None c = (
  ap (form_of (equation_context c.args.sizes (forms_in c.args.solved.now))) (no_side c.args.equations.now c.args.firsts.now c.args.var c.requires.firsts c.requires.within c.in-None.ensures.lookup.3)
      ∙ ap (λ a. Ok (constant_form a)) (sym c.whole.ensures) ∙ ap Ok (sym c.constant.ensures.meaning),
  c.constant.ensures.finished (of_equations c.args.sizes),
)
