use Rattle.mu_parser.proofs.Common.{refl}
use Rattle.mu_parser.proofs.awaited_expression.apply_expression_move.Goals as goal

pub returns-in-Moves : goal.returns-in-Moves
returns-in-Moves c = rw c.in-Moves.is refl

pub returns-in-Opens : goal.returns-in-Opens
returns-in-Opens c = rw c.in-Opens.is refl

pub returns-in-Ends : goal.returns-in-Ends
returns-in-Ends c = rw c.in-Ends.is c.follow_complete_expression.ensures

pub returns-in-Wrong : goal.returns-in-Wrong
returns-in-Wrong c = rw c.in-Wrong.is refl
