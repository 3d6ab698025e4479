use Rattle.mu_parser.proofs.Common.{◌∙◌, ap, frames_of, symbol_view}
use Rattle.std.proofs.Common.{reverse}
use Rattle.mu_grammar.specs.SumMachine.{begin_sum}
use Rattle.mu_grammar.specs.ConditionMachine.{left_move}
use Rattle.mu_parser.proofs.expression.condition.begin_condition_left.Goals as goal

-- src/expression/condition.rt:179:1
pub returns : goal.returns
returns c =
    let x = symbol_view c.args.symbol in
    c.move_condition_left.ensures ∙ ap (λ m. left_move (reverse c.args.places.items) m x) (c.in_ok-next.ensures ∙ ap (λ fs. begin_sum (frames_of fs) x) c.new-frames.ensures.items)
