use Rattle.mu_unroll.proofs.Common.{Branch, branch, meant_at, refl}
use Rattle.mu_unroll.proofs.FoldedSteps.{branch_same, branches_pushed}
use Rattle.mu_unroll.proofs.Orders.{statements_same}
use Rattle.mu_unroll.proofs.loop_folding.fold_branches.Goals as goal

pub loop-one-preserved : goal.loop-one-preserved
loop-one-preserved c =
    let declared = meant_at c.args.declared.now in
    let one = c.one-item.result in
    let cond = one.cond in
    let copy : Branch = record {
      cond = record {
        left = c.in_ok-left.left;
        rel = cond.rel;
        right = c.in_ok-right.right;
        at = cond.at;
      };
      body = c.in_ok-body.body;
    } in
    branches_pushed declared c.loop-one.all.items c.push.new.self.items copy c.args.branches.now
    c.loop-one.one-index one c.in_ok-push.ensures.items c.loop-one-test.true c.one-item.is
    c.loop-one.invariant
    (branch_same declared (branch copy) (branch one) c.in_ok-left.ensures c.in_ok-right.ensures refl
    refl
    (statements_same declared c.in_ok-body.body.items one.body.items
    (rw c.deref.ensures.value at c.in_ok-body.ensures)))
