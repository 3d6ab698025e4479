-- The inequalities allow one number.
use Rattle.mu_num.proofs.Common.{ceiling_of, FitsSigned, IsCeiling, to_z-of_z, w128}
use Rattle.mu_num.proofs.Quotients.{ceiling_meets, ceiling_only}
use Rattle.mu_num.proofs.division.ceil_div.Goals as goal

pub returns : goal.returns
returns c =
    let of_n = c.ranges.n in
    let of_d = c.ranges.d in
    let fits : FitsSigned w128 c.ceil_div_by_floor.result = record { sfits = c.ceil_div_by_floor.type_inv } in
    let is : IsCeiling c.args.n c.args.d c.ceil_div_by_floor.result = rw (to_z-of_z w128 c.args.n of_n, to_z-of_z w128 c.args.d of_d) at c.ceil_div_by_floor.ensures in
    rw (to_z-of_z w128 c.ceil_div_by_floor.result fits) (record { ceiling = is; value = ceiling_only c.args.n c.args.d c.ceil_div_by_floor.result (ceiling_of c.args.n c.args.d) c.requires is (ceiling_meets c.args.n c.args.d c.requires) })
