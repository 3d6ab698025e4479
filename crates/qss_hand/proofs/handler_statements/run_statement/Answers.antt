-- There are few states.
use Rattle.qss_hand.proofs.Common.{ap, arith, length}
use Rattle.qss_hand.proofs.handler_statements.run_statement.Goals as goal

pub overflow_cast-states : goal.overflow_cast-states
overflow_cast-states c = omega (arith, ap length c.as_slice.ensures, c.args.m.now.has_variables.few)
