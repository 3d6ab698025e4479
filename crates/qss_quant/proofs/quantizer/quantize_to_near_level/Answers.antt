use Rattle.qss_quant.proofs.Common.{rules}
use Rattle.qss_quant.proofs.RuleAnswers.{near_answer}
use Rattle.qss_quant.proofs.quantizer.quantize_to_near_level.Goals as goal

pub returns : goal.returns
returns c = near_answer c.args.state c.args.old c.args.unit _ (search rules) (search rules)
