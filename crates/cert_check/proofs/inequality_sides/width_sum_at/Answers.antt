use Rattle.cert_check.proofs.Common
use Common.{arith, below_more, beyond, certificate_data, FitsSigned, level_error, product, refl}
use Common.{rules, system, to_z-of_z, w128}
use Rattle.cert_matrix.proofs.Weights.{sizes-more}
use Rattle.cert_check.proofs.inequality_sides.width_sum_at.Goals as goal

pub loop-j-preserved : goal.loop-j-preserved
loop-j-preserved c =
    let entry : FitsSigned w128 c.in_ok-product_entry.field-0 = search rules in
    let number : FitsSigned w128 c.in_ok-width_at.field-0 = search rules in
    let step = sizes-more (product c.args.m.now.n (certificate_data c.args.x.now).pm (system c.args.m.now).coef c.args.i) (level_error (certificate_data c.args.x.now)) c.loop-j.j _ _ _ _ _ _
    c.loop-j.invariant.total c.loop-j.invariant.weight c.in_ok-product_entry.ensures.value c.in_ok-width_at.ensures.value
    (simp to_z-of_z at c.in_ok-sum.ensures.total) (simp to_z-of_z at c.in_ok-sum.ensures.weight) in
    record {
      entries = below_more _ _ c.loop-j.invariant.entries (c.in_ok-product_entry.ensures.in_range.0 refl);
      widths = below_more _ _ c.loop-j.invariant.widths (c.in_ok-width_at.ensures.in_range.0 refl);
      total = step.0;
      weight = step.1;
    }

pub returns-in_err-sum-clause-in_range : goal.returns-in_err-sum-clause-in_range
returns-in_err-sum-clause-in_range c =
    let entry : FitsSigned w128 c.in_ok-product_entry.field-0 = search rules in
    let number : FitsSigned w128 c.in_ok-width_at.field-0 = search rules in
    let far = (simp to_z-of_z at c.in_err-sum.ensures.out_of_range).0 refl in
    let out = beyond (product c.args.m.now.n (certificate_data c.args.x.now).pm (system c.args.m.now).coef c.args.i) (level_error (certificate_data c.args.x.now)) c.loop-j.j c.args.m.now.n _ _ _ c.loop-j-test.true
    c.loop-j.invariant.weight c.in_ok-product_entry.ensures.value c.in_ok-width_at.ensures.value far in
    (λ some. let never = rw c.from_residual-in_err-sum.ensures at some in cc, λ within. absurd (omega (arith, within.whole)))
