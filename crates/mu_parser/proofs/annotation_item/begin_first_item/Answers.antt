use Rattle.mu_parser.proofs.Common
use Common.{◌∙◌, ◌≡◌, advances, ap, effect_of, if_ok_map, place_of, sym, symbol_view}
use Rattle.mu_grammar.specs.DeclarationMachine.{begin_item, begin_first_item}
use Rattle.mu_grammar.proofs.Follows.{closes_first, item_first}
use Rattle.mu_parser.proofs.annotation_item.begin_first_item.Goals as goal

pub returns-then-closes : goal.returns-then-closes
returns-then-closes c =
    ap advances c.close_item_list.ensures
    ∙ sym (closes_first (place_of c.args.place) (symbol_view c.args.symbol) (sym c.closes_item_list-closes.ensures ∙ c.if-closes.true))

pub returns : goal.returns
returns c =
    let p = place_of c.args.place in
    let x = symbol_view c.args.symbol in
    if_ok_map c.begin_item.result
    (λ e. effect_of e ≡ begin_item p x)
    (λ e. effect_of e ≡ begin_first_item p x)
    (λ e h. h ∙ sym (item_first p x (sym c.closes_item_list-closes.ensures ∙ c.if-closes.false)))
    c.begin_item.ensures
