use Rattle.cert_check.proofs.Common.{◌++◌, ◌≡◌, lines_text, row_lines, take}
use Rattle.cert_check.proofs.certificate_writer.write_certificate_rows.Given as goal

abbrev pub invariant-loop-i : goal.invariant-loop-i
invariant-loop-i l = l.text.items ≡ l.initial.text.items ++ lines_text (row_lines l.keyword (take l.i l.matrix))
