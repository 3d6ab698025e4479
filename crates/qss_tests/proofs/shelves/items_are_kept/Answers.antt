use Rattle.qss_tests.proofs.shelves.items_are_kept.Goals as goal

pub unreachable-assert_eq : goal.unreachable-assert_eq
unreachable-assert_eq g c = c.assert_eq-assert_failed.result
