use Rattle.cert_check.proofs.Wanted.{count-after-g2}
use Rattle.cert_check.proofs.certificate_assembly.assemble_ellipsoid.Goals as goal

pub certificate_vector_at-requires-2-clause-due : goal.certificate_vector_at-requires-2-clause-due
certificate_vector_at-requires-2-clause-due c = count-after-g2 c.args.n 7

pub certificate_vector_at-requires-3-clause-due : goal.certificate_vector_at-requires-3-clause-due
certificate_vector_at-requires-3-clause-due c = count-after-g2 c.args.n 8

pub certificate_vector_at-requires-4-clause-due : goal.certificate_vector_at-requires-4-clause-due
certificate_vector_at-requires-4-clause-due c = count-after-g2 c.args.n 9

pub certificate_vector_at-requires-5-clause-due : goal.certificate_vector_at-requires-5-clause-due
certificate_vector_at-requires-5-clause-due c = count-after-g2 c.args.n 10
