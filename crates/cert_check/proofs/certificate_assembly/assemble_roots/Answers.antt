use Rattle.cert_check.proofs.Wanted.{g1-fits, g2-fits}
use Rattle.cert_check.proofs.certificate_assembly.assemble_roots.Goals as goal

pub certificate_matrix_at-requires-clause-due : goal.certificate_matrix_at-requires-clause-due
certificate_matrix_at-requires-clause-due c = g1-fits c.args.n c.args.rows.now c.requires.rows

pub certificate_matrix_at-requires-2-clause-due : goal.certificate_matrix_at-requires-2-clause-due
certificate_matrix_at-requires-2-clause-due c = g2-fits c.args.n c.args.rows.now c.requires.rows
