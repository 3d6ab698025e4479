-- The library's quotient is the number of the definition, which satisfies the inequalities.
use Rattle.mu_num.proofs.Common.{◌∙◌, FitsSigned, IsFloor, subst, sym, to_z-of_z, w128}
use Rattle.mu_num.proofs.Quotients.{floor_meets}
use Rattle.mu_num.proofs.division.floor_div_euclid.Goals as goal

pub returns-clause-floor : goal.returns-clause-floor
returns-clause-floor c =
    let of_n = c.ranges.n in
    let of_d = c.ranges.d in
    let fits : FitsSigned w128 c.div_euclid.result = record { sfits = c.div_euclid.type_inv } in
    let value = simp to_z-of_z at c.div_euclid.ensures in
    subst (IsFloor c.args.n c.args.d) (sym (to_z-of_z w128 c.div_euclid.result fits ∙ value)) (floor_meets c.args.n c.args.d c.requires)
