use Rattle.mu_parser.proofs.Common.{◌∙◌, advances, ap, sym}
use Rattle.mu_grammar.specs.ModelMachine.{meets}
use Rattle.mu_parser.specs.SectionViews.{then_of}
use Rattle.mu_parser.proofs.parser.parse_fixed_token.Goals as goal

pub returns-then-comes : goal.returns-then-comes
returns-then-comes c =
    ap advances c.resume_parse.ensures ∙ ap (λ is. meets is (then_of c.args.then)) (sym c.if-comes.true ∙ c.is-comes.ensures)

pub returns : goal.returns
returns c = ap (λ is. meets is (then_of c.args.then)) (sym c.if-comes.false ∙ c.is-comes.ensures)
