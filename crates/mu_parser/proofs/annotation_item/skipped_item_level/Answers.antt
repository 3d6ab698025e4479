use Rattle.mu_parser.proofs.Common.{◌+◌, ◌∙◌, ap, place_of, sym}
use Rattle.mu_grammar.specs.States.{place_level}
use Rattle.mu_grammar.proofs.Levels.{levels_reversed}
use Rattle.mu_parser.proofs.annotation_item.skipped_item_level.Goals as goal

pub returns : goal.returns
returns c =
    ap (λ n. n + c.len.result) c.item_level.ensures.level
    ∙ ap (λ n. place_level (place_of c.args.place.now) + n) (c.len.ensures ∙ c.args.brackets.now.ok.0)
    ∙ sym (levels_reversed (place_level (place_of c.args.place.now)) c.args.brackets.now.items)
