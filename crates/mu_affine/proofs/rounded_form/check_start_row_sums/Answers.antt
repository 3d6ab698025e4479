use Rattle.mu_affine.proofs.Common
use Common.{◌∙◌, arith, ExactForm, IsRightSide, length, rounded_row, row_fits_at_start, Start}
use Common.{subst, sym}
use Rattle.mu_affine.proofs.Failing.{fail_turn, pass_turn}
use Rattle.mu_affine.proofs.rounded_form.check_start_row_sums.Goals as goal

pub is_rounded_start_valid-requires-clause-form : goal.is_rounded_start_valid-requires-clause-form
is_rounded_start_valid-requires-clause-form c =
    subst (IsRightSide (length c.args.levels.now) (length c.args.values.now)) (sym c.index-forms-place.is)
    (c.requires.forms c.loop-place.place c.index-forms-place.result c.loop-place-test.true)

pub returns-then-not-branch-clause-err : goal.returns-then-not-branch-clause-err
returns-then-not-branch-clause-err c =
    fail_turn (λ (form : ExactForm). row_fits_at_start c.args.units.f c.args.levels.now c.args.values.now (rounded_row c.args.units.p c.args.units.f form)) Start 0 c.args.forms.now c.loop-place.place c.index-forms-place.result
    c.loop-place-test.true c.index-forms-place.is c.loop-place.invariant c.loop-place.place (omega arith) (sym c.in_ok-is_rounded_start_valid.ensures ∙ c.if-not-branch.true)

pub loop-place-preserved : goal.loop-place-preserved
loop-place-preserved c =
    pass_turn (λ (form : ExactForm). row_fits_at_start c.args.units.f c.args.levels.now c.args.values.now (rounded_row c.args.units.p c.args.units.f form)) Start 0 c.args.forms.now c.loop-place.place c.index-forms-place.result
    c.loop-place-test.true c.index-forms-place.is c.loop-place.invariant (sym c.in_ok-is_rounded_start_valid.ensures ∙ c.if-not-branch.false)
