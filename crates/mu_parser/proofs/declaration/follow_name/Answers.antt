use Rattle.mu_parser.proofs.Common.{◌∙◌, ◌≡◌, effect_of, if_ok_map, sym, symbol_view}
use Rattle.mu_grammar.specs.DeclarationMachine.{follow_name, follow_size}
use Rattle.mu_grammar.proofs.Follows.{no_size}
use Rattle.mu_parser.specs.SectionViews.{component_of}
use Rattle.mu_parser.proofs.declaration.follow_name.Goals as goal

pub returns : goal.returns
returns c =
    let d = component_of c.args.component in
    let x = symbol_view c.args.symbol in
    if_ok_map c.follow_declaration_size.result
    (λ e. effect_of e ≡ follow_size d x)
    (λ e. effect_of e ≡ follow_name d x)
    (λ e h. h ∙ sym (no_size d x (sym c.opens_declaration_size-opens.ensures ∙ c.if-opens.false)))
    c.follow_declaration_size.ensures
