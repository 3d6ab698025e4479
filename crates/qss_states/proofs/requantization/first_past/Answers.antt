-- The first that was found stays, and else this one is it where it is above its limit.
use Rattle.qss_states.proofs.Common
use Common.{ℕ, ◌∙◌, ◌≡◌, ap, if◌then◌else◌, None, Option, option_or, overflow_of, refl, Some, sym}
use Rattle.qss_states.proofs.requantization.first_past.Goals as goal

or_none : (o : Option ℕ) → option_or o None ≡ o
or_none None = refl
or_none (Some found) = refl

pub returns-then-past : goal.returns-then-past
returns-then-past c = c.first_or.ensures ∙ ap (λ b. option_or (overflow_of c.args.first) (if b then Some c.args.state else None)) (sym c.if-past.true)

pub returns : goal.returns
returns c = sym (or_none (overflow_of c.args.first)) ∙ ap (λ b. option_or (overflow_of c.args.first) (if b then Some c.args.state else None)) (sym c.if-past.false)
