use Rattle.qss_machine.proofs.Common.{◌^◌, arith}
use Rattle.qss_machine.proofs.Loops.{product_is, product_bound}
use Rattle.qss_machine.proofs.form_values.multiply_form_gamma.Goals as goal

pub returns-clause-value : goal.returns-clause-value
returns-clause-value c = product_is c.args.gamma c.args.unit (2 ^ 78) (2 ^ 44) c.ranges.gamma c.ranges.unit c.requires.gamma c.requires.unit (omega arith)

pub returns-clause-bound : goal.returns-clause-bound
returns-clause-bound c =
    rw (product_is c.args.gamma c.args.unit (2 ^ 78) (2 ^ 44) c.ranges.gamma c.ranges.unit c.requires.gamma c.requires.unit (omega arith))
    (product_bound c.args.gamma c.args.unit (2 ^ 78) (2 ^ 44) c.requires.gamma c.requires.unit)
