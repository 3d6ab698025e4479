use Rattle.mu_affine.proofs.Common
use Common.{◌∙◌, ◌≡◌, AffineErr, AffineForm, All, ap, coefficient_count, CountedForms}
use Common.{err_from_is_err_and, ExactForm, flat_action, flat_branch, FlatBranch, form_meaning}
use Common.{IsFaultOf, IsNumberedAction, IsNumberedBranch, keep_actions, keep_branches, kept_so_far}
use Common.{length, map, of_clauses, Ok, Result, subst, sym}
use Rattle.mu_affine.proofs.Counts.{counted_few}
use Rattle.mu_affine.proofs.Equations.{mapped_one}
use Rattle.mu_affine.proofs.Steps.{answer_fault}
use Rattle.mu_affine.proofs.KeptForms.{one_kept, keep_part_fault, keep_count_fault, keep_done}
use Rattle.mu_affine.proofs.KeptForms.{condition_part, branch_more, condition_fails, body_fails}
use Rattle.mu_affine.proofs.normal_forms.keep_normal_branch_forms.Goals as goal

pub form_of_condition-requires-clause-left : goal.form_of_condition-requires-clause-left
form_of_condition-requires-clause-left c = (mapped_one flat_branch (IsNumberedBranch (of_clauses c.args.sizes) (length c.args.solved.now)) c.args.branches.now c.loop-branch.branch-index c.branch-item.result c.requires.numbered c.loop-branch-test.true c.branch-item.is).left

pub form_of_condition-requires-clause-right : goal.form_of_condition-requires-clause-right
form_of_condition-requires-clause-right c = (mapped_one flat_branch (IsNumberedBranch (of_clauses c.args.sizes) (length c.args.solved.now)) c.args.branches.now c.loop-branch.branch-index c.branch-item.result c.requires.numbered c.loop-branch-test.true c.branch-item.is).right

pub keep_normal_action_forms-requires-clause-numbered : goal.keep_normal_action_forms-requires-clause-numbered
keep_normal_action_forms-requires-clause-numbered c =
    subst (λ xs. All (IsNumberedAction (of_clauses c.args.sizes) (length c.args.solved.now)) (map flat_action xs)) (sym c.deref.ensures.value)
    (mapped_one flat_branch (IsNumberedBranch (of_clauses c.args.sizes) (length c.args.solved.now)) c.args.branches.now c.loop-branch.branch-index c.branch-item.result c.requires.numbered c.loop-branch-test.true c.branch-item.is).body

pub keep_normal_action_forms-requires-clause-kept : goal.keep_normal_action_forms-requires-clause-kept
keep_normal_action_forms-requires-clause-kept c =
    let old : CountedForms = c.loop-branch.kept in
    let new : CountedForms = c.push_counted_form.new.kept in
    let f : ExactForm = c.in_ok-form.form in
    let kept = c.in_ok-push_counted_form.ensures (of_clauses c.args.sizes) c.in_ok-form.ensures.1 in
    one_kept c.args.sizes old new f c.loop-branch.invariant.kept c.in_ok-form.ensures.1 kept.1 (counted_few old.count (coefficient_count c.args.sizes (form_meaning f)) new.count kept.0)

pub returns-in_err-form : goal.returns-in_err-form
returns-in_err-form c =
    let q = err_from_is_err_and c.from_residual.result c.from_residual.ensures.1 in
    let fault : AffineErr = c.in_err-form.field-0.0 in
    let d : FlatBranch = c.branch-item.result in
    let old : CountedForms = c.loop-branch.kept in
    let part : Result AffineForm AffineErr = condition_part c.args.sizes c.args.solved.now d in
    rw (q.1, q.2) (condition_fails c.args.sizes c.args.solved.now c.args.branches.now c.loop-branch.branch-index d old (keep_branches c.args.sizes (map flat_branch c.args.branches.now) (kept_so_far c.args.solved.now c.args.kept.now)) fault c.loop-branch-test.true c.branch-item.is c.loop-branch.invariant.rest
    (keep_part_fault c.args.sizes part (kept_so_far c.args.solved.now old) fault (answer_fault (of_clauses c.args.sizes) part fault c.in_err-form.ensures)))

pub returns-in_err-push_counted_form : goal.returns-in_err-push_counted_form
returns-in_err-push_counted_form c =
    let q = err_from_is_err_and c.from_residual-in_err-push_counted_form.result c.from_residual-in_err-push_counted_form.ensures.1 in
    let fault : AffineErr = c.in_err-push_counted_form.field-0.0 in
    let d : FlatBranch = c.branch-item.result in
    let old : CountedForms = c.loop-branch.kept in
    let f : ExactForm = c.in_ok-form.form in
    let part : Result AffineForm AffineErr = condition_part c.args.sizes c.args.solved.now d in
    rw (q.1, q.2) (condition_fails c.args.sizes c.args.solved.now c.args.branches.now c.loop-branch.branch-index d old (keep_branches c.args.sizes (map flat_branch c.args.branches.now) (kept_so_far c.args.solved.now c.args.kept.now)) fault c.loop-branch-test.true c.branch-item.is c.loop-branch.invariant.rest
    (keep_count_fault c.args.sizes part (kept_so_far c.args.solved.now old) (form_meaning f) fault c.in_ok-form.ensures.0 (c.in_err-push_counted_form.ensures (of_clauses c.args.sizes) c.in_ok-form.ensures.1)))

pub returns-in_err-keep_normal_action_forms : goal.returns-in_err-keep_normal_action_forms
returns-in_err-keep_normal_action_forms c =
    let q = err_from_is_err_and c.from_residual-in_err-keep_normal_action_forms.result c.from_residual-in_err-keep_normal_action_forms.ensures.1 in
    let fault : AffineErr = c.in_err-keep_normal_action_forms.field-0.0 in
    let d : FlatBranch = c.branch-item.result in
    let old : CountedForms = c.loop-branch.kept in
    let between : CountedForms = c.push_counted_form.new.kept in
    let f : ExactForm = c.in_ok-form.form in
    let part : Result AffineForm AffineErr = condition_part c.args.sizes c.args.solved.now d in
    let kept = c.in_ok-push_counted_form.ensures (of_clauses c.args.sizes) c.in_ok-form.ensures.1 in
    let failed : IsFaultOf (keep_actions c.args.sizes (flat_branch d).body (kept_so_far c.args.solved.now between)) fault =
    subst (λ xs. IsFaultOf (keep_actions c.args.sizes (map flat_action xs) (kept_so_far c.args.solved.now between)) fault) c.deref.ensures.value c.in_err-keep_normal_action_forms.ensures in
    rw (q.1, q.2) (body_fails c.args.sizes c.args.solved.now c.args.branches.now c.loop-branch.branch-index d old between (keep_branches c.args.sizes (map flat_branch c.args.branches.now) (kept_so_far c.args.solved.now c.args.kept.now)) fault c.loop-branch-test.true c.branch-item.is c.loop-branch.invariant.rest
    (keep_done c.args.sizes c.args.solved.now part old between f c.in_ok-form.ensures.0 kept.0 kept.1) failed)

pub loop-branch-preserved : goal.loop-branch-preserved
loop-branch-preserved c =
    let d : FlatBranch = c.branch-item.result in
    let old : CountedForms = c.loop-branch.kept in
    let between : CountedForms = c.push_counted_form.new.kept in
    let new : CountedForms = c.keep_normal_action_forms.new.kept in
    let f : ExactForm = c.in_ok-form.form in
    let part : Result AffineForm AffineErr = condition_part c.args.sizes c.args.solved.now d in
    let kept = c.in_ok-push_counted_form.ensures (of_clauses c.args.sizes) c.in_ok-form.ensures.1 in
    let body : keep_actions c.args.sizes (flat_branch d).body (kept_so_far c.args.solved.now between) ≡ Ok (kept_so_far c.args.solved.now new) =
    ap (λ xs. keep_actions c.args.sizes (map flat_action xs) (kept_so_far c.args.solved.now between)) (sym c.deref.ensures.value) ∙ c.in_ok-keep_normal_action_forms.ensures.0 in
    record {
      rest = sym (branch_more c.args.sizes c.args.solved.now c.args.branches.now c.loop-branch.branch-index d old between new c.loop-branch-test.true c.branch-item.is (keep_done c.args.sizes c.args.solved.now part old between f c.in_ok-form.ensures.0 kept.0 kept.1) body) ∙ c.loop-branch.invariant.rest;
      kept = c.in_ok-keep_normal_action_forms.ensures.1;
    }
