use Rattle.mu_unroll.proofs.Common.{◌+◌, drop, flat_branch, progress_of}
use Rattle.mu_unroll.proofs.Walks.{item_done, item_fault, items_begin, items_done, raised}
use Rattle.mu_unroll.proofs.WalkSteps.{branch_none, branch_split, branch_step, branch_steps}
use Rattle.mu_unroll.proofs.unroller.unroll_branches.Goals as goal

pub loop-one-init : goal.loop-one-init
loop-one-init c =
    items_begin (branch_steps c.args.branches.now) c.args.env.now
    (progress_of flat_branch c.args.output.now)

pub unroll_branch-requires : goal.unroll_branch-requires
unroll_branch-requires c =
    record { placed = rw c.loop-one.invariant.names.declared c.requires.placed }

pub loop-one-preserved : goal.loop-one-preserved
loop-one-preserved c =
    let i = c.loop-one.one-index in
    let xs = c.args.branches.now in
    let p = progress_of flat_branch c.loop-one.output in
    item_done (branch_steps (drop i xs)) (branch_step c.one-item.result)
    (branch_steps (drop (i + 1) xs)) c.args.env.now _ c.loop-one.env c.unroll_branch.new.env p
    (progress_of flat_branch c.unroll_branch.new.output)
    c.loop-one.invariant (branch_split c.args.env.now xs i c.one-item.result p c.loop-one-test.true
    c.one-item.is) c.in_ok-unroll_branch.ensures.ok c.in_ok-unroll_branch.ensures.env

pub returns-in_err-unroll_branch-clause-err : goal.returns-in_err-unroll_branch-clause-err
returns-in_err-unroll_branch-clause-err c =
    let i = c.loop-one.one-index in
    let xs = c.args.branches.now in
    let p = progress_of flat_branch c.loop-one.output in
    raised c.from_residual.result _ _ c.from_residual.ensures.1
    (item_fault (branch_steps (drop i xs)) (branch_step c.one-item.result)
    (branch_steps (drop (i + 1) xs)) c.args.env.now _ c.loop-one.env p _
    c.loop-one.invariant (branch_split c.args.env.now xs i c.one-item.result p c.loop-one-test.true
    c.one-item.is) c.in_err-unroll_branch.ensures.err)

pub returns-clause-ok : goal.returns-clause-ok
returns-clause-ok c = items_done (branch_steps (drop c.loop-one.one-index c.args.branches.now))
    c.args.env.now _ c.loop-one.env (progress_of flat_branch c.loop-one.output) c.loop-one.invariant
    (branch_none c.args.env.now c.args.branches.now c.loop-one.one-index
    (progress_of flat_branch c.loop-one.output) c.loop-one-test.false)

pub returns-clause-env : goal.returns-clause-env
returns-clause-env c = c.loop-one.invariant.names
