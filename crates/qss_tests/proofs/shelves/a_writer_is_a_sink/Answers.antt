use Rattle.qss_tests.proofs.shelves.a_writer_is_a_sink.Goals as goal

pub unreachable-assert : goal.unreachable-assert
unreachable-assert g c = c.assert-panic.result

pub unreachable-assert-2 : goal.unreachable-assert-2
unreachable-assert-2 g c = c.assert-panic-2.result

pub unreachable-assert-3 : goal.unreachable-assert-3
unreachable-assert-3 g c = c.assert-panic-3.result

pub unreachable-assert-4 : goal.unreachable-assert-4
unreachable-assert-4 g c = c.assert-panic-4.result

pub unreachable-assert-5 : goal.unreachable-assert-5
unreachable-assert-5 g c = c.assert-panic-5.result

pub unreachable-assert-6 : goal.unreachable-assert-6
unreachable-assert-6 g c = c.assert-panic-6.result
