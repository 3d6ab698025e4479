use Rattle.mu_num.proofs.Quotients.{floor_meets, ceiling_meets, nearest_meets, floor_only}
use Rattle.mu_num.proofs.Quotients.{ceiling_only, nearest_only}
use Rattle.mu_num.proofs.number_laws.quotients_are_right.Goals as goal

pub returns : goal.returns
returns c = record {
  floor_meets = floor_meets;
  ceiling_meets = ceiling_meets;
  nearest_meets = nearest_meets;
  one_floor = floor_only;
  one_ceiling = ceiling_only;
  one_nearest = nearest_only;
}
