use Rattle.mu_affine.proofs.Common.{[], ◌++◌, ◌∙◌, ◌∷◌, ap, ExactEntry}
use Rattle.mu_affine.proofs.Fractions.{IsReduced-none}
use Rattle.mu_affine.proofs.Making.{IsFinished-name}
use Rattle.mu_affine.proofs.exact_form.ExactForm.name.Goals as goal

pub returns-clause-finished : goal.returns-clause-finished
returns-clause-finished c = λ p within.
    let e : ExactEntry = record { var = c.args.var; coef = c.whole.result } in
    IsFinished-name p _ c.args.var e within (ap (λ a. (c.args.var, a)) c.whole.ensures)
    (c.new.ensures ∙ c.in_ok-push.ensures.items ∙ ap (λ es. es ++ e ∷ []) c.new-entries.ensures.items) (c.new-3.ensures ∙ c.new-2.ensures.items) (rw c.whole-2.ensures IsReduced-none)
