use Rattle.mu_num.proofs.Decimals.{decimal_in, decimal_out}
use Rattle.mu_num.proofs.number_laws.decimals_are_right.Goals as goal

pub returns : goal.returns
returns c = record { in_range = decimal_in; out_of_range = decimal_out }
