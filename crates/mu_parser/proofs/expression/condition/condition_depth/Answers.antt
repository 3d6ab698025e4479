use Rattle.mu_parser.proofs.Common.{◌∙◌, ap, frames_of, position_of}
use Rattle.mu_grammar.specs.SumMachine.{depth_at}
use Rattle.mu_grammar.proofs.Levels.{levels_before, levels_left, levels_right, levels_behind}
use Rattle.mu_parser.proofs.expression.condition.condition_depth.Goals as goal

-- src/condition.rt:225:1
pub returns-in-Before : goal.returns-in-Before
returns-in-Before c = rw c.in-Before.is (levels_before c.args.outside c.in-Before.places.items c.len.result (c.len.ensures ∙ c.in-Before.places.ok.0))

-- src/condition.rt:225:1
pub returns-in-Left : goal.returns-in-Left
returns-in-Left c =
    rw c.in-Left.is (levels_left c.args.outside c.in-Left.places.items (position_of c.in-Left.position) (frames_of c.in-Left.frames.items) c.len-in-Left.result c.expression_depth_at.result (c.len-in-Left.ensures ∙ c.in-Left.places.ok.0) (c.expression_depth_at.ensures ∙ ap (λ fs. depth_at 0 (position_of c.in-Left.position) (frames_of fs)) c.deref.ensures.value))

-- src/condition.rt:225:1
pub returns-in-Right : goal.returns-in-Right
returns-in-Right c =
    rw c.in-Right.is (levels_right c.args.outside c.in-Right.brackets (position_of c.in-Right.position) (frames_of c.in-Right.frames.items) c.expression_depth_at-in-Right.result (c.expression_depth_at-in-Right.ensures ∙ ap (λ fs. depth_at 0 (position_of c.in-Right.position) (frames_of fs)) c.deref-in-Right.ensures.value))

-- src/condition.rt:225:1
pub returns-in-Behind : goal.returns-in-Behind
returns-in-Behind c = rw c.in-Behind.is (levels_behind c.args.outside c.in-Behind.brackets)
