use Rattle.mu_num.proofs.Common.{◌<◌, ◌^◌, arith, ints, pow_below}
use Rattle.mu_num.proofs.powers_of_two.unit.Goals as goal

pub returns : goal.returns
returns c = let small : 2 ^ c.args.bits < 2 ^ 127 = pow_below c.args.bits 127 (omega (arith, c.requires)) in omega (arith, ints)
