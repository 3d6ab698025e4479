use Rattle.mu_num.proofs.Common.{◌*◌, ◌^◌, ◌∙◌, ◌≡◌, ap, arith, min}
use Rattle.mu_num.proofs.Reading.{power_more, raised_enough}
use Rattle.mu_num.proofs.literal.shift_literal_digits.Goals as goal

pub loop-preserved : goal.loop-preserved
loop-preserved c = rw (power_more c.args.number c.loop.counter) (omega (arith, c.append_decimal_digit-power.ensures.value, c.loop.invariant))

pub returns-clause-value : goal.returns-clause-value
returns-clause-value c =
    let last : c.loop.counter ≡ min c.args.count 20 = omega (arith, c.min-end.ensures) in
    c.loop.invariant ∙ ap (λ k. min (c.args.number * 10 ^ k) (2 ^ 64)) last ∙ raised_enough c.args.number c.args.count (omega arith)
