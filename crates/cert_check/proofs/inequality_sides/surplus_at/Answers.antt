use Rattle.cert_check.proofs.Common
use Common.{◌∙◌, ◌≡◌, arith, certificate_data, diagonal_surplus, FitsSigned, ints, rules, to_z-of_z}
use Common.{w128}
use Rattle.cert_check.proofs.inequality_sides.surplus_at.Goals as goal

pub returns-clause-value : goal.returns-clause-value
returns-clause-value c =
    let fits : FitsSigned w128 c.total.result = search rules in
    let cell : FitsSigned w128 c.get.result = search rules in
    let bound : FitsSigned w128 c.side_diagonal_at.result = search rules in
    let a = rw c.get.ensures at (simp to_z-of_z at c.in_ok-entry.ensures.total) in
    let b = rw c.side_diagonal_at.ensures at (simp to_z-of_z at c.in_ok-part.ensures.total) in
    let value : c.in_ok-part.part.total ≡ diagonal_surplus (certificate_data c.args.x.now) c.args.i c.args.j = omega (arith, ints, c.new.ensures.total) in
    rw to_z-of_z (c.total.ensures.value ∙ value)
