-- The branch at the place has the condition at the place.
use Rattle.qss_run.proofs.Common.{◌∙◌, AreBranches, arith, subst, sym}
use Rattle.qss_run.proofs.run_conditions.Conditions.condition.Goals as goal

pub returns-clause-value : goal.returns-clause-value
returns-clause-value c =
    let branches = subst (AreBranches c.args.m.now) (sym c.as_slice.ensures.value) c.requires.fits.branches in
    c.condition_at_branch.ensures.value ∙ (branches.each c.args.place (omega (arith, c.requires.place, branches.as_many))).own
