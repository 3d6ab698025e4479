use Rattle.mu_affine.proofs.Common
use Common.{◌+◌, ◌∙◌, ◌≡◌, action_of, ap, arith, err_from_is_err_and, flat_action, FlatAction}
use Common.{FlatStatement, length, length-take-le, placed, sum_by, sym, take, take_all}
use Rattle.mu_affine.proofs.Placing.{forms_turn, forms_refused, placed_turn, ones}
use Rattle.mu_affine.proofs.Turns.{placed_map}
use Rattle.mu_affine.proofs.rounded_machine.round_machine_actions.Goals as goal

pub returns-in_err-action-clause-err : goal.returns-in_err-action-clause-err
returns-in_err-action-clause-err c =
    let p = err_from_is_err_and c.from_residual.result c.from_residual.ensures.1 in
    rw (p.1, p.2)
    (forms_refused c.args.units.p c.args.units.f c.args.forms.now c.args.first c.loop-place.place 1 (length c.args.body.now) _ (omega (arith, c.loop-place-test.true)) c.requires.within
    c.loop-place.invariant.none c.in_err-action.ensures.err)

pub loop-place-preserved : goal.loop-place-preserved
loop-place-preserved c =
    let before : c.args.first + c.loop-place.place ≡ c.args.first + sum_by (λ (one : FlatStatement). 1) (take c.loop-place.place c.args.body.now) =
    ap (λ k. c.args.first + k) (sym (ones (take c.loop-place.place c.args.body.now) ∙ length-take-le c.loop-place.place c.args.body.now (omega (arith, c.loop-place-test.true)))) in
    record {
      so_far = c.in_ok-push.ensures.items
          ∙ placed_turn (λ (one : FlatStatement). 1) (λ k (one : FlatStatement). action_of c.args.units.p c.args.units.f c.args.forms.now k (flat_action one)) c.args.first c.args.body.now c.loop-place.place
          c.index-body-place.result c.loop-place.actions.items (c.args.first + c.loop-place.place) c.in_ok-action.action c.loop-place-test.true c.index-body-place.is c.loop-place.invariant.so_far before
          c.in_ok-action.ensures.action;
      none = forms_turn c.args.units.p c.args.units.f c.args.forms.now c.args.first c.loop-place.place 1 (omega (arith, c.requires.within, c.loop-place-test.true)) c.loop-place.invariant.none c.in_ok-action.ensures.ok;
    }

pub returns-clause-actions : goal.returns-clause-actions
returns-clause-actions c =
    let make = action_of c.args.units.p c.args.units.f c.args.forms.now in
    c.loop-place.invariant.so_far
    ∙ ap (placed (λ (one : FlatStatement). 1) (λ k (one : FlatStatement). make k (flat_action one)) c.args.first) (take_all c.loop-place.place c.args.body.now c.loop-place-test.false)
    ∙ sym (placed_map flat_action (λ (a : FlatAction). 1) make c.args.first c.args.body.now)
