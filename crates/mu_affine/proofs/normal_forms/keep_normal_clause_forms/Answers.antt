use Rattle.mu_affine.proofs.Common
use Common.{◌∙◌, ◌≡◌, AffineErr, All, ap, CountedForms, err_from_is_err_and, flat_branch}
use Common.{flat_clause, FlatClause, IsFaultOf, IsNumberedBranch, keep_branches, keep_clauses}
use Common.{kept_so_far, length, map, of_clauses, Ok, subst, sym}
use Rattle.mu_affine.proofs.Equations.{mapped_one}
use Rattle.mu_affine.proofs.KeptForms.{clause_more, clause_fails}
use Rattle.mu_affine.proofs.normal_forms.keep_normal_clause_forms.Goals as goal

pub keep_normal_branch_forms-requires-clause-numbered : goal.keep_normal_branch_forms-requires-clause-numbered
keep_normal_branch_forms-requires-clause-numbered c =
    subst (λ xs. All (IsNumberedBranch (of_clauses c.args.sizes) (length c.args.solved.now)) (map flat_branch xs)) (sym c.deref.ensures.value)
    (mapped_one flat_clause (All (IsNumberedBranch (of_clauses c.args.sizes) (length c.args.solved.now))) c.args.clauses.now c.loop-clause.clause-index c.clause-item.result c.requires.numbered c.loop-clause-test.true c.clause-item.is)

pub returns-in_err-keep_normal_branch_forms : goal.returns-in_err-keep_normal_branch_forms
returns-in_err-keep_normal_branch_forms c =
    let q = err_from_is_err_and c.from_residual.result c.from_residual.ensures.1 in
    let fault : AffineErr = c.in_err-keep_normal_branch_forms.field-0.0 in
    let d : FlatClause = c.clause-item.result in
    let old : CountedForms = c.loop-clause.kept in
    let failed : IsFaultOf (keep_branches c.args.sizes (flat_clause d) (kept_so_far c.args.solved.now old)) fault =
    subst (λ xs. IsFaultOf (keep_branches c.args.sizes (map flat_branch xs) (kept_so_far c.args.solved.now old)) fault) c.deref.ensures.value c.in_err-keep_normal_branch_forms.ensures in
    rw (q.1, q.2) (clause_fails c.args.sizes c.args.solved.now c.args.clauses.now c.loop-clause.clause-index d old (keep_clauses c.args.sizes (map flat_clause c.args.clauses.now) (kept_so_far c.args.solved.now c.args.kept.now)) fault c.loop-clause-test.true c.clause-item.is c.loop-clause.invariant.rest failed)

pub loop-clause-preserved : goal.loop-clause-preserved
loop-clause-preserved c =
    let d : FlatClause = c.clause-item.result in
    let old : CountedForms = c.loop-clause.kept in
    let new : CountedForms = c.keep_normal_branch_forms.new.kept in
    let branches : keep_branches c.args.sizes (flat_clause d) (kept_so_far c.args.solved.now old) ≡ Ok (kept_so_far c.args.solved.now new) =
    ap (λ xs. keep_branches c.args.sizes (map flat_branch xs) (kept_so_far c.args.solved.now old)) (sym c.deref.ensures.value) ∙ c.in_ok-keep_normal_branch_forms.ensures.0 in
    record {
      rest = sym (clause_more c.args.sizes c.args.solved.now c.args.clauses.now c.loop-clause.clause-index d old new c.loop-clause-test.true c.clause-item.is branches) ∙ c.loop-clause.invariant.rest;
      kept = c.in_ok-keep_normal_branch_forms.ensures.1;
    }
