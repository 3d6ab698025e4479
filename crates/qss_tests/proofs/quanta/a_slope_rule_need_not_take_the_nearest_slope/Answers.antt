use Rattle.qss_tests.proofs.quanta.a_slope_rule_need_not_take_the_nearest_slope.Goals as goal

pub unreachable-assert : goal.unreachable-assert
unreachable-assert g c = c.assert-panic.result

pub unreachable-assert-2 : goal.unreachable-assert-2
unreachable-assert-2 g c = c.assert-panic-2.result
