use Rattle.qss_tests.proofs.canonical.copied_flat_model.Goals as goal

pub unreachable-assert_eq : goal.unreachable-assert_eq
unreachable-assert_eq g c = c.assert_eq-assert_failed.result

pub unreachable-assert_eq-2 : goal.unreachable-assert_eq-2
unreachable-assert_eq-2 g c = c.assert_eq-assert_failed-2.result

pub unreachable-assert_eq-3 : goal.unreachable-assert_eq-3
unreachable-assert_eq-3 g c = c.assert_eq-assert_failed-3.result

pub unreachable-assert_eq-4 : goal.unreachable-assert_eq-4
unreachable-assert_eq-4 g c = c.assert_eq-assert_failed-4.result

pub unreachable-assert_eq-5 : goal.unreachable-assert_eq-5
unreachable-assert_eq-5 g c = c.assert_eq-assert_failed-5.result
