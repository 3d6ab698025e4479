use Rattle.qss_answers.proofs.Common.{inl, inr, refl}
use Rattle.qss_answers.proofs.comparison_basis.judge_with_start.Goals as goal

pub returns-in-Ok-2-clause-refused : goal.returns-in-Ok-2-clause-refused
returns-in-Ok-2-clause-refused c = inr (
  refl,
  c.in-Ok-2.ensures.accepted,
  λ start. let t = c.has_start.ensures.1 start in absurd (cc),
)

pub returns-in-Err-clause-refused : goal.returns-in-Err-clause-refused
returns-in-Err-clause-refused c = inl c.in-Err.ensures.rejected
