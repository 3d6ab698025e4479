use Rattle.cert_check.proofs.Common
use Common.{arith, below_more, beyond, centre_slope, certificate_data, FitsSigned, more, refl}
use Common.{rules, system, table, to_z-of_z, w128}
use Rattle.cert_check.proofs.inequality_sides.weighted_rest_at.Goals as goal

pub loop-j-preserved : goal.loop-j-preserved
loop-j-preserved c =
    let cell : FitsSigned w128 c.get.result = search rules in
    let number : FitsSigned w128 c.in_ok-rest_slope_at.field-0 = search rules in
    let step = more (table c.args.x.now.pm c.args.i) (centre_slope (system c.args.m.now) (certificate_data c.args.x.now)) c.loop-j.j _ _ _ _ _ _
    c.loop-j.invariant.total c.loop-j.invariant.weight c.get.ensures c.in_ok-rest_slope_at.ensures.value
    (simp to_z-of_z at c.in_ok-sum.ensures.total) (simp to_z-of_z at c.in_ok-sum.ensures.weight) in
    record {
      rests = below_more _ _ c.loop-j.invariant.rests (c.in_ok-rest_slope_at.ensures.in_range.0 refl);
      total = step.0;
      weight = step.1;
    }

pub returns-in_err-sum-clause-in_range : goal.returns-in_err-sum-clause-in_range
returns-in_err-sum-clause-in_range c =
    let cell : FitsSigned w128 c.get.result = search rules in
    let number : FitsSigned w128 c.in_ok-rest_slope_at.field-0 = search rules in
    let far = (simp to_z-of_z at c.in_err-sum.ensures.out_of_range).0 refl in
    let out = beyond (table c.args.x.now.pm c.args.i) (centre_slope (system c.args.m.now) (certificate_data c.args.x.now)) c.loop-j.j c.args.m.now.n _ _ _ c.loop-j-test.true
    c.loop-j.invariant.weight c.get.ensures c.in_ok-rest_slope_at.ensures.value far in
    (λ some. let never = rw c.from_residual-in_err-sum.ensures at some in cc, λ within. absurd (omega (arith, within.whole)))
