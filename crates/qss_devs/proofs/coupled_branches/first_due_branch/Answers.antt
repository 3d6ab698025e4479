-- The first flag that is set.
use Rattle.qss_devs.proofs.Common
use Common.{◌<◌, ◌∙◌, ◌≡◌, arith, Bool, due_flags, false, first_is, flags_from, length, List}
use Common.{position-none, sym}
use Rattle.std.proofs.Common.{below_more}
use Rattle.qss_devs.proofs.DueFlags.{length-due, length-flags, flag_from}
use Rattle.qss_devs.proofs.coupled_branches.first_due_branch.Goals as goal

pub loop-branch-preserved : goal.loop-branch-preserved
loop-branch-preserved c =
    below_more _ _ c.loop-branch.invariant (sym c.is_branch_due.ensures ∙ c.if-is_branch_due.false)

pub returns-then-is_branch_due : goal.returns-then-is_branch_due
returns-then-is_branch_due c =
    let due : List Bool = due_flags c.args.truths.now in
    let count = c.args.count in
    let first = c.args.first in
    let branch = c.loop-branch.branch in
    let many : length (flags_from first count due) ≡ count =
    length-flags due first count (omega (arith, length-due c.requires.flags, c.requires.inside)) in
    let below : branch < count = c.loop-branch-test.true in
    sym (first_is false (λ flag. flag) (flags_from first count due) branch (omega (arith, many, below))
    (λ k h. flag_from due first count k (omega (arith, h, below)) ∙ c.loop-branch.invariant k h)
    (flag_from due first count branch below
    ∙ sym c.is_branch_due.ensures
    ∙ c.if-is_branch_due.true))

pub returns : goal.returns
returns c =
    let due : List Bool = due_flags c.args.truths.now in
    let count = c.args.count in
    let first = c.args.first in
    let many : length (flags_from first count due) ≡ count =
    length-flags due first count (omega (arith, length-due c.requires.flags, c.requires.inside)) in
    sym (position-none false (λ flag. flag) (flags_from first count due)
    (λ k h. flag_from due first count k (omega (arith, h, many))
    ∙ c.loop-branch.invariant k (omega (arith, h, many, c.loop-branch-test.false))))
