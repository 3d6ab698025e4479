use Rattle.cert_check.proofs.Common.{[], ◌≡◌, get_or, take}
use Rattle.cert_check.proofs.certificate_writer.certificate_matrix_row.Given as goal

abbrev pub invariant-loop-j : goal.invariant-loop-j
invariant-loop-j l = l.row.items ≡ take l.j (get_or l.matrix l.i [])
