use Rattle.cert_check.proofs.Common
use Common.{◌+◌, ◌∙◌, ◌≡◌, ap, arith, digits_value, false, refl, take, take_all, true}
use Rattle.cert_check.proofs.Digits.{digit-low, value-more, value-above, value-here}
use Rattle.cert_check.proofs.certificate_parser.parse_field_digits.Goals as goal

pub overflow_sub-byte : goal.overflow_sub-byte
overflow_sub-byte c = (digit-low c.args.digits.now c.loop-byte.byte-index c.requires c.loop-byte-test.true).0

pub loop-byte-preserved : goal.loop-byte-preserved
loop-byte-preserved c = record {
  value = omega (arith, value-more c.args.digits.now c.loop-byte.byte-index c.requires c.loop-byte-test.true, c.from.ensures, c.loop-byte.invariant.value);
  small = c.if-value-gt-SUM_LIMIT.false;
}

pub overflow_add-value : goal.overflow_add-value
overflow_add-value c =
    let d = digit-low c.args.digits.now c.loop-byte.byte-index c.requires c.loop-byte-test.true in
    omega (arith, d.1)

pub returns : goal.returns
returns c =
    let all : take c.loop-byte.byte-index c.args.digits.now ≡ c.args.digits.now = take_all c.loop-byte.byte-index c.args.digits.now c.loop-byte-test.false in
    let value : c.loop-byte.value ≡ digits_value 10 c.args.digits.now = c.loop-byte.invariant.value ∙ ap (digits_value 10) all in
    rw (← value) (rw (value-here c.loop-byte.value c.loop-byte.invariant.small) refl)

pub returns-then-value : goal.returns-then-value
returns-then-value c =
    let e = value-more c.args.digits.now c.loop-byte.byte-index c.requires c.loop-byte-test.true in
    let far = value-above c.args.digits.now (c.loop-byte.byte-index + 1) (digits_value 10 (take (c.loop-byte.byte-index + 1) c.args.digits.now)) refl
    (omega (arith, e, c.loop-byte.invariant.value, c.if-value.true)) in
    rw far refl

pub returns-then-value-gt-SUM_LIMIT : goal.returns-then-value-gt-SUM_LIMIT
returns-then-value-gt-SUM_LIMIT c =
    let e = value-more c.args.digits.now c.loop-byte.byte-index c.requires c.loop-byte-test.true in
    let far = value-above c.args.digits.now (c.loop-byte.byte-index + 1) (digits_value 10 (take (c.loop-byte.byte-index + 1) c.args.digits.now)) refl
    (omega (arith, e, c.loop-byte.invariant.value, c.from.ensures, c.if-value-gt-SUM_LIMIT.true)) in
    rw far refl
