use Rattle.mu_num.proofs.Common.{◌-◌, ◌<◌, ◌∙◌, ◌≡◌, ap, arith, checked, inl, inr, pos, sym, to_z}
use Rattle.std.specs.Int.{w128}
use Rattle.std.proofs.lemmas.Int.{to_z_pos}
use Rattle.mu_num.proofs.Reading.{scaled_zero, scaled_up, scaled_up_out, scaled_down}
use Rattle.mu_num.proofs.Reading.{scaled_down_out, power_down_pos}
use Rattle.mu_num.proofs.literal.scale_literal_to_ratio.Goals.{then-number-gt-SMALL-via-then-number-gt-SMALL}
use Rattle.mu_num.proofs.literal.scale_literal_to_ratio.Goals.{then-number-gt-SMALL-via-else-number-gt-SMALL+then-down-up-gt18}
use Rattle.mu_num.proofs.literal.scale_literal_to_ratio.Goals as goal

pub returns-then-number-eq0 : goal.returns-then-number-eq0
returns-then-number-eq0 c = rw (c.whole.ensures, c.if-number-eq0.true) (sym (scaled_zero c.args.up c.args.down))

pub returns-then-value-gt-SMALL : goal.returns-then-value-gt-SMALL
returns-then-value-gt-SMALL c =
    let some : 0 < c.args.number = omega (arith, c.if-number-eq0.false) in
    sym (scaled_up_out c.args.number c.args.up c.args.down c.shift_literal_digits-value.result some c.shift_literal_digits-value.ensures.value c.if-value-gt-SMALL.true)

pub returns-then-down-up : goal.returns-then-down-up
returns-then-down-up c =
    let some : 0 < c.args.number = omega (arith, c.if-number-eq0.false) in
    let back : to_z w128 c.shift_literal_digits-value.result ≡ pos c.shift_literal_digits-value.result = to_z_pos w128 c.shift_literal_digits-value.result (omega (arith, c.if-value-gt-SMALL.false)) in
    c.reduced.ensures ∙ ap (λ z. checked (record { num = z; den = 1 })) back
    ∙ sym (scaled_up c.args.number c.args.up c.args.down c.shift_literal_digits-value.result some c.if-down-up.true c.shift_literal_digits-value.ensures.value c.if-value-gt-SMALL.false)

pub returns-then-number-gt-SMALL : goal.returns-then-number-gt-SMALL
returns-then-number-gt-SMALL c =
    let some : 0 < c.args.number = omega (arith, c.if-number-eq0.false) in
    elim c.then-number-gt-SMALL.branch [
      | then-number-gt-SMALL-via-then-number-gt-SMALL w ↦ sym (scaled_down_out c.args.number c.args.up c.args.down some c.if-down-up.false (inl w.if-number-gt-SMALL.true))
      | then-number-gt-SMALL-via-else-number-gt-SMALL+then-down-up-gt18 w ↦ sym (scaled_down_out c.args.number c.args.up c.args.down some c.if-down-up.false (inr w.if-down-up-gt18.true))
    ]

pub reduced-requires-2-clause-positive : goal.reduced-requires-2-clause-positive
reduced-requires-2-clause-positive c = power_down_pos (c.args.down - c.args.up) c.shift_literal_digits.result c.if-down-up-gt18.false c.shift_literal_digits.ensures.value

pub returns : goal.returns
returns c =
    let some : 0 < c.args.number = omega (arith, c.if-number-eq0.false) in
    let back : to_z w128 c.args.number ≡ pos c.args.number = to_z_pos w128 c.args.number (omega (arith, c.if-number-gt-SMALL.false)) in
    c.reduced-2.ensures ∙ ap (λ z. checked (record { num = z; den = c.shift_literal_digits.result })) back
    ∙ sym (scaled_down c.args.number c.args.up c.args.down c.shift_literal_digits.result some c.if-down-up.false c.if-number-gt-SMALL.false c.if-down-up-gt18.false c.shift_literal_digits.ensures.value)
