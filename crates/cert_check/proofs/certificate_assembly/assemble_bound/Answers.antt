use Rattle.cert_check.proofs.Wanted.{p-fits}
use Rattle.cert_check.proofs.certificate_assembly.assemble_bound.Goals as goal

pub certificate_matrix_at-requires-clause-due : goal.certificate_matrix_at-requires-clause-due
certificate_matrix_at-requires-clause-due c = p-fits c.args.n c.args.rows.now c.requires.rows
