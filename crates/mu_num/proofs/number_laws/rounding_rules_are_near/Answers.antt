use Rattle.mu_num.proofs.NearLevels.{floor-free, near-free, inward-free}
use Rattle.mu_num.proofs.number_laws.rounding_rules_are_near.Goals as goal

pub returns : goal.returns
returns c = record { floor = floor-free; near = near-free; inward = inward-free }
