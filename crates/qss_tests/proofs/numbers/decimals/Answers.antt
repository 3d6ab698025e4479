use Rattle.qss_tests.proofs.numbers.decimals.Goals as goal

pub unreachable-assert : goal.unreachable-assert
unreachable-assert g c = c.assert-panic.result
