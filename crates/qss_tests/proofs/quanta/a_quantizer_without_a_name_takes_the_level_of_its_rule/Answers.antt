use Rattle.qss_tests.proofs.quanta.a_quantizer_without_a_name_takes_the_level_of_its_rule.Goals as goal

pub unreachable-assert : goal.unreachable-assert
unreachable-assert g c = c.assert-panic.result

pub unreachable-assert-2 : goal.unreachable-assert-2
unreachable-assert-2 g c = c.assert-panic-2.result
