use Rattle.qss_guarantees.proofs.Properties.{print_prints}
use Rattle.qss_guarantees.proofs.command_laws.print_prints_canonical_text.Goals as goal

pub returns : goal.returns
returns c source answer h = print_prints source answer h
