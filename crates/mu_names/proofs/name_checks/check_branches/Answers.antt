use Rattle.mu_names.proofs.Common
use Common.{◌+◌, ◌∙◌, ap, branch, branches_faults, drop, least_of, map, name_kind_at}
use Rattle.mu_names.specs.Naming.{branch_faults}
use Rattle.mu_names.proofs.LeastLemmas.{noted_first}
use Rattle.mu_names.proofs.Shapes.{branches_from}
use Rattle.mu_names.proofs.name_checks.check_branches.Goals as goal

pub loop-one-preserved : goal.loop-one-preserved
loop-one-preserved c =
    let d = name_kind_at c.args.declared.now in
    let loops = c.args.loops.now.items in
    let same = c.loop-one.invariant.1 in
    let x = branch c.one-item.result in (
      noted_first _ _ (branch_faults d loops x)
          (branches_faults d loops (map branch (drop (c.loop-one.one-index + 1) c.args.branches.now)))
          (branches_faults d loops (map branch (drop c.loop-one.one-index c.args.branches.now)))
          (c.in_ok-check_branch.ensures.faults
          ∙ ap (λ ls. least_of c.loop-one.least (branch_faults d ls x)) same)
          (ap (branches_faults d loops) (branches_from c.args.branches.now c.loop-one.one-index c.one-item.result c.loop-one-test.true c.one-item.is))
          ∙ c.loop-one.invariant.0,
      c.in_ok-check_branch.ensures.loops ∙ same,
    )
