use Rattle.qss_tests.proofs.shelves.real_files_are_read.Goals as goal

pub unreachable-assert_eq : goal.unreachable-assert_eq
unreachable-assert_eq g c = c.assert_eq-assert_failed.result

pub unreachable-assert : goal.unreachable-assert
unreachable-assert g c = c.assert-panic.result
