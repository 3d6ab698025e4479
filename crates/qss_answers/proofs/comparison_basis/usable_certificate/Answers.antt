use Rattle.qss_answers.proofs.Common.{inl, inr, refl}
use Rattle.qss_answers.proofs.comparison_basis.usable_certificate.Goals as goal

pub returns-in-Err-Refused-clause-stopped : goal.returns-in-Err-Refused-clause-stopped
returns-in-Err-Refused-clause-stopped c = inr (inl (inl (
  c.in-Err-Refused.why,
  rw c.in-Err-Refused.field-0-is at c.in-Err-Refused.ensures.refused,
  refl,
)))

pub returns-in-Err-clause-stopped : goal.returns-in-Err-clause-stopped
returns-in-Err-clause-stopped c = inr (elim c.in-Err.ensures.refused [
  | inl is ↦ inl (inr (c.in-Ok.c, c.in-Ok.ensures.read, is))
  | inr (told, verdict, other) ↦ inr (
    told,
    (c.in-Ok.c, record { read = c.in-Ok.ensures.read; verdict = verdict }, other),
  )
])
