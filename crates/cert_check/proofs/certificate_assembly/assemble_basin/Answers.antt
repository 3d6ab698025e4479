use Rattle.cert_check.proofs.Wanted.{count-after-g2}
use Rattle.cert_check.proofs.certificate_assembly.assemble_basin.Goals as goal

pub certificate_number_at-requires-clause-due : goal.certificate_number_at-requires-clause-due
certificate_number_at-requires-clause-due c = count-after-g2 c.args.n 1

pub certificate_vector_at-requires-2-clause-due : goal.certificate_vector_at-requires-2-clause-due
certificate_vector_at-requires-2-clause-due c = count-after-g2 c.args.n 2

pub certificate_vector_at-requires-3-clause-due : goal.certificate_vector_at-requires-3-clause-due
certificate_vector_at-requires-3-clause-due c = count-after-g2 c.args.n 3

pub certificate_vector_at-requires-4-clause-due : goal.certificate_vector_at-requires-4-clause-due
certificate_vector_at-requires-4-clause-due c = count-after-g2 c.args.n 4
