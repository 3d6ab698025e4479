use Rattle.cert_check.proofs.Common.{ap, arith, length}
use Rattle.cert_check.proofs.Clauses.{clauses-few}
use Rattle.cert_check.proofs.certificate_scope.scope.Goals as goal

pub overflow_cast-result : goal.overflow_cast-result
overflow_cast-result c = omega (arith, clauses-few c.args.m.now, ap length c.as_slice-clauses.ensures)
