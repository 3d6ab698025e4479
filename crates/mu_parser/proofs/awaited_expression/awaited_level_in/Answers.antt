use Rattle.mu_parser.proofs.Common.{◌+◌, ◌∙◌, ap, frames_of, position_of, sym}
use Rattle.mu_grammar.specs.States.{outside}
use Rattle.mu_parser.specs.SectionViews.{waiting_of}
use Rattle.mu_grammar.proofs.Levels.{depth_at_add}
use Rattle.mu_parser.proofs.awaited_expression.awaited_level_in.Goals as goal

pub returns : goal.returns
returns c =
    ap (λ n. n + c.expression_depth_at.result) c.outside.ensures.level
    ∙ ap (λ n. outside (waiting_of c.args.waiting.now) + n) c.expression_depth_at.ensures
    ∙ sym (depth_at_add (outside (waiting_of c.args.waiting.now)) (position_of c.args.position.now) (frames_of c.args.frames.now))
