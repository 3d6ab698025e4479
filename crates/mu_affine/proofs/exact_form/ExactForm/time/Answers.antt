use Rattle.mu_affine.proofs.Common.{◌∙◌}
use Rattle.mu_affine.proofs.Making.{IsFinished-constant, IsReduced-one}
use Rattle.mu_affine.proofs.exact_form.ExactForm.time.Goals as goal

pub returns-clause-finished : goal.returns-clause-finished
returns-clause-finished c = λ p. IsFinished-constant p _ (c.new-2.ensures ∙ c.new.ensures.items) (c.new-4.ensures ∙ c.new-3.ensures.items) (rw c.whole.ensures IsReduced-one)
