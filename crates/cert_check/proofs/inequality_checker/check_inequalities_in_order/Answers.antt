use Rattle.cert_check.proofs.Common.{certificate_data, None, system}
use Rattle.cert_check.proofs.InOrder.{passed, found, finished}
use Rattle.cert_check.proofs.inequality_checker.check_inequalities_in_order.Goals as goal

pub returns-then-is_some : goal.returns-then-is_some
returns-then-is_some c =
    c.loop-inequality.invariant c.check_inequality-fault.result
    (found (system c.args.m.now) (certificate_data c.args.x.now) c.args.inequalities.now c.loop-inequality.inequality-index _ c.check_inequality-fault.result
    c.loop-inequality-test.true c.check_inequality-fault.ensures c.if-is_some.ensures)

pub loop-inequality-preserved : goal.loop-inequality-preserved
loop-inequality-preserved c = λ f rest.
    c.loop-inequality.invariant f
    (passed (system c.args.m.now) (certificate_data c.args.x.now) c.args.inequalities.now c.loop-inequality.inequality-index _ c.check_inequality-fault.result f
    c.loop-inequality-test.true c.check_inequality-fault.ensures c.if-is_some.ensures rest)

pub returns : goal.returns
returns c =
    c.loop-inequality.invariant None
    (finished (system c.args.m.now) (certificate_data c.args.x.now) c.args.inequalities.now c.loop-inequality.inequality-index c.loop-inequality-test.false)
