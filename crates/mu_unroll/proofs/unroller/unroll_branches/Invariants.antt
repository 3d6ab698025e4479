use Rattle.mu_unroll.proofs.Common.{drop, flat_branch, progress_of}
use Rattle.mu_unroll.proofs.Walks.{IsBetweenItems, step_in}
use Rattle.mu_unroll.proofs.WalkSteps.{branch_steps}
use Rattle.mu_unroll.proofs.unroller.unroll_branches.Given as goal

abbrev pub invariant-loop-one : goal.invariant-loop-one
invariant-loop-one l =
    IsBetweenItems (branch_steps (drop l.one-index l.branches)) l.initial.env
    (step_in (branch_steps l.branches) l.initial.env (progress_of flat_branch l.initial.output))
    l.env (progress_of flat_branch l.output)
