use Rattle.cert_matrix.proofs.Common
use Common.{◌<◌, arith, FitsSigned, get_or, length, pos, refl, rules, table, to_z-of_z, vector}
use Common.{w128}
use Rattle.cert_matrix.proofs.Weights.{more, beyond}
use Rattle.cert_matrix.proofs.matrix.multiply_matrix_row.Goals as goal

pub loop-j-preserved : goal.loop-j-preserved
loop-j-preserved c =
    let cell : FitsSigned w128 c.get.result = search rules in
    let number : FitsSigned w128 (get_or c.args.y.now c.loop-j.j (pos 0)) = search rules in
    let step = more (table c.args.m.now c.args.i) (vector c.args.y.now) c.loop-j.j _ _ _ _ _ _
    c.loop-j.invariant.total c.loop-j.invariant.weight c.get.ensures refl
    (simp to_z-of_z at c.in_ok-sum.ensures.total) (simp to_z-of_z at c.in_ok-sum.ensures.weight) in
    record { total = step.0; weight = step.1 }

pub returns-in_err-sum-clause-in_range : goal.returns-in_err-sum-clause-in_range
returns-in_err-sum-clause-in_range c =
    let cell : FitsSigned w128 c.get.result = search rules in
    let number : FitsSigned w128 (get_or c.args.y.now c.loop-j.j (pos 0)) = search rules in
    let far = (simp to_z-of_z at c.in_err-sum.ensures.out_of_range).0 refl in
    let test : c.loop-j.j < length c.args.m.now = omega (arith, c.loop-j-test.true, c.size-j-end.ensures.size) in
    let out = beyond (table c.args.m.now c.args.i) (vector c.args.y.now) c.loop-j.j (length c.args.m.now) _ _ _ test
    c.loop-j.invariant.weight c.get.ensures refl far in
    (λ some. let never = rw c.from_residual.ensures at some in cc, λ within. absurd (omega arith))
