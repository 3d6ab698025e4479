use Rattle.mu_num.proofs.Kept.{kept_times, kept_times_size}
use Rattle.mu_num.proofs.powers_of_two.multiply_by_power.Goals as goal

pub returns : goal.returns
returns c =
    record {
      value = kept_times c.args.num c.args.unit c.requires.num c.requires.unit;
      size = kept_times_size c.args.num c.args.unit c.requires.num c.requires.unit;
    }
