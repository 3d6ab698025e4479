use Rattle.mu_parser.proofs.Common.{◌∙◌, ap}
use Rattle.mu_grammar.specs.ReaderMachines.{allow}
use Rattle.mu_parser.proofs.parser.advance_parse.Goals as goal

pub returns : goal.returns
returns c = c.limit_parse_depth.ensures ∙ ap (allow 64) c.in_ok-effect.ensures
