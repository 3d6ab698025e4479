use Rattle.mu_affine.proofs.Common
use Common.{◌∙◌, AffineErr, AffineForm, coefficient_count, CountedForms, err_from_is_err_and}
use Common.{ExactForm, flat_action, FlatStatement, form_meaning, IsNumberedAction, keep_actions}
use Common.{kept_so_far, length, map, of_clauses, Result, sym}
use Rattle.mu_affine.proofs.Counts.{counted_few}
use Rattle.mu_affine.proofs.Equations.{mapped_one}
use Rattle.mu_affine.proofs.Steps.{answer_fault}
use Rattle.mu_affine.proofs.KeptForms.{one_kept, keep_part_fault, keep_count_fault, keep_done}
use Rattle.mu_affine.proofs.KeptForms.{action_part, action_more, action_fails}
use Rattle.mu_affine.proofs.normal_forms.keep_normal_action_forms.Goals as goal

pub form_of_action-requires-clause-numbered : goal.form_of_action-requires-clause-numbered
form_of_action-requires-clause-numbered c = mapped_one flat_action (IsNumberedAction (of_clauses c.args.sizes) (length c.args.solved.now)) c.args.actions.now c.loop-action.action-index c.action-item.result c.requires.numbered c.loop-action-test.true c.action-item.is

pub returns-in_err-form : goal.returns-in_err-form
returns-in_err-form c =
    let q = err_from_is_err_and c.from_residual.result c.from_residual.ensures.1 in
    let fault : AffineErr = c.in_err-form.field-0.0 in
    let d : FlatStatement = c.action-item.result in
    let old : CountedForms = c.loop-action.kept in
    let part : Result AffineForm AffineErr = action_part c.args.sizes c.args.solved.now d in
    rw (q.1, q.2) (action_fails c.args.sizes c.args.solved.now c.args.actions.now c.loop-action.action-index d old (keep_actions c.args.sizes (map flat_action c.args.actions.now) (kept_so_far c.args.solved.now c.args.kept.now)) fault c.loop-action-test.true c.action-item.is c.loop-action.invariant.rest
    (keep_part_fault c.args.sizes part (kept_so_far c.args.solved.now old) fault (answer_fault (of_clauses c.args.sizes) part fault c.in_err-form.ensures)))

pub returns-in_err-push_counted_form : goal.returns-in_err-push_counted_form
returns-in_err-push_counted_form c =
    let q = err_from_is_err_and c.from_residual-in_err-push_counted_form.result c.from_residual-in_err-push_counted_form.ensures.1 in
    let fault : AffineErr = c.in_err-push_counted_form.field-0.0 in
    let d : FlatStatement = c.action-item.result in
    let old : CountedForms = c.loop-action.kept in
    let f : ExactForm = c.in_ok-form.form in
    let part : Result AffineForm AffineErr = action_part c.args.sizes c.args.solved.now d in
    rw (q.1, q.2) (action_fails c.args.sizes c.args.solved.now c.args.actions.now c.loop-action.action-index d old (keep_actions c.args.sizes (map flat_action c.args.actions.now) (kept_so_far c.args.solved.now c.args.kept.now)) fault c.loop-action-test.true c.action-item.is c.loop-action.invariant.rest
    (keep_count_fault c.args.sizes part (kept_so_far c.args.solved.now old) (form_meaning f) fault c.in_ok-form.ensures.0 (c.in_err-push_counted_form.ensures (of_clauses c.args.sizes) c.in_ok-form.ensures.1)))

pub loop-action-preserved : goal.loop-action-preserved
loop-action-preserved c =
    let d : FlatStatement = c.action-item.result in
    let old : CountedForms = c.loop-action.kept in
    let new : CountedForms = c.push_counted_form.new.kept in
    let f : ExactForm = c.in_ok-form.form in
    let part : Result AffineForm AffineErr = action_part c.args.sizes c.args.solved.now d in
    let kept = c.in_ok-push_counted_form.ensures (of_clauses c.args.sizes) c.in_ok-form.ensures.1 in
    record {
      rest = sym (action_more c.args.sizes c.args.solved.now c.args.actions.now c.loop-action.action-index d old new c.loop-action-test.true c.action-item.is (keep_done c.args.sizes c.args.solved.now part old new f c.in_ok-form.ensures.0 kept.0 kept.1)) ∙ c.loop-action.invariant.rest;
      kept = one_kept c.args.sizes old new f c.loop-action.invariant.kept c.in_ok-form.ensures.1 kept.1 (counted_few old.count (coefficient_count c.args.sizes (form_meaning f)) new.count kept.0);
    }
