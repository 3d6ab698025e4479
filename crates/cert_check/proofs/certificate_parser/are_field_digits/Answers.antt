use Rattle.cert_check.proofs.Common.{◌∙◌, arith, below_more, sym}
use Rattle.cert_check.proofs.Digits.{not-digits, all-digits}
use Rattle.cert_check.proofs.certificate_parser.are_field_digits.Goals as goal

pub loop-byte-preserved : goal.loop-byte-preserved
loop-byte-preserved c = below_more _ _ c.loop-byte.invariant (sym c.is_ascii_digit.ensures.value ∙ c.if-not-is_ascii_digit.false)

pub returns-then-not-is_ascii_digit : goal.returns-then-not-is_ascii_digit
returns-then-not-is_ascii_digit c =
    sym (not-digits c.args.bytes.now c.loop-byte.byte-index c.loop-byte-test.true (sym c.is_ascii_digit.ensures.value ∙ c.if-not-is_ascii_digit.true))

pub returns : goal.returns
returns c = sym (all-digits c.args.bytes.now (λ i l. c.loop-byte.invariant i (omega (arith, c.loop-byte-test.false))))
