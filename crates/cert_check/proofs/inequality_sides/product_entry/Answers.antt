use Rattle.cert_check.proofs.Common
use Common.{arith, beyond, FitsSigned, more, refl, rules, table, to_z-of_z, w128}
use Rattle.cert_check.proofs.inequality_sides.product_entry.Goals as goal

pub loop-k-preserved : goal.loop-k-preserved
loop-k-preserved c =
    let first : FitsSigned w128 c.get.result = search rules in
    let second : FitsSigned w128 c.get-in-loop-k.result = search rules in
    let step = more (table c.args.x.now.pm c.args.i) (λ h. table c.args.m.now.coef h c.args.j) c.loop-k.k _ _ _ _ _ _
    c.loop-k.invariant.total c.loop-k.invariant.weight c.get.ensures c.get-in-loop-k.ensures
    (simp to_z-of_z at c.in_ok-sum.ensures.total) (simp to_z-of_z at c.in_ok-sum.ensures.weight) in
    record { total = step.0; weight = step.1 }

pub returns-in_err-sum-clause-in_range : goal.returns-in_err-sum-clause-in_range
returns-in_err-sum-clause-in_range c =
    let first : FitsSigned w128 c.get.result = search rules in
    let second : FitsSigned w128 c.get-in-loop-k.result = search rules in
    let far = (simp to_z-of_z at c.in_err-sum.ensures.out_of_range).0 refl in
    let out = beyond (table c.args.x.now.pm c.args.i) (λ h. table c.args.m.now.coef h c.args.j) c.loop-k.k c.args.m.now.n _ _ _ c.loop-k-test.true
    c.loop-k.invariant.weight c.get.ensures c.get-in-loop-k.ensures far in
    (λ some. let never = rw c.from_residual.ensures at some in cc, λ within. absurd (omega arith))
