use Rattle.qss_tests.proofs.shelves.a_file_is_read_whole.Goals as goal

pub unreachable-assert_eq : goal.unreachable-assert_eq
unreachable-assert_eq g c = c.assert_eq-assert_failed.result

pub unreachable-assert : goal.unreachable-assert
unreachable-assert g c = c.assert-panic.result

pub unreachable-assert-2 : goal.unreachable-assert-2
unreachable-assert-2 g c = c.assert-panic-2.result

pub unreachable-assert-3 : goal.unreachable-assert-3
unreachable-assert-3 g c = c.assert-panic-3.result
