use Rattle.qss_tests.proofs.certificate_lines.what_no_call_shows_has_its_line.Goals as goal

pub unreachable-assert_eq : goal.unreachable-assert_eq
unreachable-assert_eq g c = c.assert_eq-assert_failed.result
