use Rattle.mu_affine.proofs.Common.{◌+◌, ◌∙◌, arith, Coefficient, rounded_row, row_fits}
use Rattle.mu_affine.proofs.Failing.{fail_turn, pass_turn}
use Rattle.mu_affine.proofs.Turns.{map_turn}
use Rattle.mu_affine.proofs.rounded_form.round_form_rows.Goals as goal

pub returns-in_default-clause-err : goal.returns-in_default-clause-err
returns-in_default-clause-err c =
    let none = rw c.in_default.is at c.in_ok-row.ensures.none in
    fail_turn (λ form. row_fits (rounded_row c.args.units.p c.args.units.f form)) Coefficient 1 c.args.forms.now c.loop-place.place c.index-forms-place.result c.loop-place-test.true c.index-forms-place.is
    c.loop-place.invariant.none (c.loop-place.place + 1) (omega arith) none

pub loop-place-preserved : goal.loop-place-preserved
loop-place-preserved c =
    let some = rw c.in-Some.is at c.in_ok-row.ensures.some in
    record {
      so_far = c.in_ok-push.ensures.items
          ∙ map_turn (rounded_row c.args.units.p c.args.units.f) c.args.forms.now c.loop-place.place c.index-forms-place.result c.loop-place.rows.items c.in-Some.row c.loop-place-test.true c.index-forms-place.is
          c.loop-place.invariant.so_far some.0;
      none = pass_turn (λ form. row_fits (rounded_row c.args.units.p c.args.units.f form)) Coefficient 1 c.args.forms.now c.loop-place.place c.index-forms-place.result c.loop-place-test.true c.index-forms-place.is
          c.loop-place.invariant.none (rw some.0 at some.1);
    }
