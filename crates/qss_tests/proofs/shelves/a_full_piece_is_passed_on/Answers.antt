use Rattle.qss_tests.proofs.shelves.a_full_piece_is_passed_on.Goals as goal

pub unreachable-assert : goal.unreachable-assert
unreachable-assert g c = c.assert-panic.result

pub unreachable-assert_eq : goal.unreachable-assert_eq
unreachable-assert_eq g c = c.assert_eq-assert_failed.result

pub unreachable-assert_eq-2 : goal.unreachable-assert_eq-2
unreachable-assert_eq-2 g c = c.assert_eq-assert_failed-2.result
