use Rattle.cert_check.proofs.Common
use Common.{◌∙◌, ◌≡◌, arith, certificate_data, FitsSigned, ints, level_range, refl, rules}
use Common.{to_z-of_z, w128}
use Rattle.cert_check.proofs.inequality_sides.level_reach_at.Goals as goal

pub returns-clause-value : goal.returns-clause-value
returns-clause-value c =
    let fits : FitsSigned w128 c.total.result = search rules in
    let first : FitsSigned w128 c.at.result = search rules in
    let second : FitsSigned w128 c.at-2.result = search rules in
    let third : FitsSigned w128 c.at-3.result = search rules in
    let a = rw c.at.ensures at (simp to_z-of_z at c.in_ok-centre.ensures.total) in
    let b = rw c.at-2.ensures at (simp to_z-of_z at c.in_ok-state.ensures.total) in
    let d = rw c.at-3.ensures at (simp to_z-of_z at c.in_ok-level.ensures.total) in
    let value : c.in_ok-level.level.total ≡ level_range (certificate_data c.args.x.now) c.args.j = omega (arith, ints, c.new.ensures.total) in
    rw to_z-of_z (c.total.ensures.value ∙ value)

pub returns-in_err-level-clause-in_range : goal.returns-in_err-level-clause-in_range
returns-in_err-level-clause-in_range c =
    let first : FitsSigned w128 c.at.result = search rules in
    let second : FitsSigned w128 c.at-2.result = search rules in
    let third : FitsSigned w128 c.at-3.result = search rules in
    let a = rw c.at.ensures at (simp to_z-of_z at c.in_ok-centre.ensures.weight) in
    let b = rw c.at-2.ensures at (simp to_z-of_z at c.in_ok-state.ensures.weight) in
    let far = rw c.at-3.ensures at ((simp to_z-of_z at c.in_err-level.ensures.out_of_range).0 refl) in
    (λ some. let never = rw c.from_residual-in_err-level.ensures at some in cc, λ within. absurd (omega (arith, c.new.ensures.weight)))
