use Rattle.cert_check.proofs.Common
use Common.{◌∙◌, ◌≡◌, arith, FitsSigned, ints, rules, scaled_offset, to_z-of_z, vector, w128}
use Rattle.cert_check.proofs.inequality_sides.side_gap_at.Goals as goal

pub returns-clause-value : goal.returns-clause-value
returns-clause-value c =
    let fits : FitsSigned w128 c.total.result = search rules in
    let first : FitsSigned w128 c.at.result = search rules in
    let second : FitsSigned w128 c.at-2.result = search rules in
    let factor : FitsSigned w128 c.args.factor.now = search rules in
    let a = rw c.at.ensures at (simp to_z-of_z at c.in_ok-first.ensures.total) in
    let b = rw c.at-2.ensures at (simp to_z-of_z at c.in_ok-part.ensures.total) in
    let value : c.in_ok-part.part.total ≡ scaled_offset (vector c.args.start.now) c.args.factor.now (vector c.args.base.now) c.args.k = omega (arith, ints, c.new.ensures.total) in
    rw to_z-of_z (c.total.ensures.value ∙ value)
