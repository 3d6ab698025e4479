use Rattle.qss_tests.proofs.numbers.quotients_and_ticks.Goals as goal

pub unreachable-assert_eq : goal.unreachable-assert_eq
unreachable-assert_eq g c = c.assert_eq-assert_failed.result

pub unreachable-assert_eq-2 : goal.unreachable-assert_eq-2
unreachable-assert_eq-2 g c = c.assert_eq-assert_failed-2.result

pub unreachable-assert_eq-3 : goal.unreachable-assert_eq-3
unreachable-assert_eq-3 g c = c.assert_eq-assert_failed-3.result

pub unreachable-assert_eq-4 : goal.unreachable-assert_eq-4
unreachable-assert_eq-4 g c = c.assert_eq-assert_failed-4.result

pub unreachable-assert_eq-5 : goal.unreachable-assert_eq-5
unreachable-assert_eq-5 g c = c.assert_eq-assert_failed-5.result

pub unreachable-assert_eq-6 : goal.unreachable-assert_eq-6
unreachable-assert_eq-6 g c = c.assert_eq-assert_failed-6.result

pub unreachable-assert_eq-7 : goal.unreachable-assert_eq-7
unreachable-assert_eq-7 g c = c.assert_eq-assert_failed-7.result

pub unreachable-assert_eq-8 : goal.unreachable-assert_eq-8
unreachable-assert_eq-8 g c = c.assert_eq-assert_failed-8.result

pub unreachable-assert_eq-9 : goal.unreachable-assert_eq-9
unreachable-assert_eq-9 g c = c.assert_eq-assert_failed-9.result

pub unreachable-assert_eq-10 : goal.unreachable-assert_eq-10
unreachable-assert_eq-10 g c = c.assert_eq-assert_failed-10.result

pub unreachable-assert_eq-11 : goal.unreachable-assert_eq-11
unreachable-assert_eq-11 g c = c.assert_eq-assert_failed-11.result
