-- None of the list.
use Rattle.qss_order2.proofs.Common
use Common.{◌≡◌, arith, exceeds, false, index_of, rise_change_weight, subst}
use Rattle.qss_order2.proofs.order2_limits.has_bend_past_limit.Goals as goal

pub returns : goal.returns
returns c e j among =
    let found = index_of c.args.list.now j among in
    subst (λ k. exceeds 94 (rise_change_weight c.args.f.now.machine c.args.changes.now k) ≡ false)
    found.2 (c.loop-state.invariant found.0 (omega (arith, found.1, c.loop-state-test.false)))
