use Rattle.mu_affine.proofs.Common.{ap, Ok, sym}
use Rattle.mu_affine.proofs.expression_form.time.Goals as goal

pub returns-else-place : goal.returns-else-place
returns-else-place c = (rw c.if-place.false (ap Ok (sym c.time.ensures.meaning)), c.time.ensures.finished c.args.place)
