use Rattle.mu_parser.proofs.Common.{◌+◌, ◌∙◌, ap, branch_of, statement, sym}
use Rattle.mu_grammar.specs.States.{branch_level}
use Rattle.mu_parser.specs.SectionViews.{loop_of}
use Rattle.mu_grammar.proofs.Levels.{levels_stacked}
use Rattle.mu_parser.proofs.section.statement.statement_level.Goals as goal

pub returns-clause-value : goal.returns-clause-value
returns-clause-value c =
    ap (λ n. n + c.len.result) c.branch_statement_level.ensures.value
    ∙ ap (λ n. branch_level (branch_of c.args.branch.now) + n) (c.len.ensures ∙ c.args.loops.now.ok.0)
    ∙ sym (levels_stacked (branch_level (branch_of c.args.branch.now)) (loop_of statement) c.args.loops.now.items)
