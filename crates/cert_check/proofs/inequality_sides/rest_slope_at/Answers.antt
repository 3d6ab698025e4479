use Rattle.cert_check.proofs.Common
use Common.{◌*◌, ◌∙◌, ◌≡◌, arith, beyond-base, centre_slope, certificate_data, FitsSigned, ints}
use Common.{refl, rules, system, table, to_z-of_z, unsigned_abs, vector, w128}
use Rattle.cert_matrix.proofs.Weights.{more-from}
use Rattle.cert_check.proofs.inequality_sides.rest_slope_at.Goals as goal

pub loop-k-preserved : goal.loop-k-preserved
loop-k-preserved c =
    let cell : FitsSigned w128 c.get.result = search rules in
    let number : FitsSigned w128 c.at-in-loop-k.result = search rules in
    let step = more-from (table c.args.m.now.coef c.args.j) (vector c.args.x.now.c) c.loop-k.k
    c.in_ok-sum.sum.total _ _ _ _ c.in_ok-sum.sum.weight _ _
    c.loop-k.invariant.total c.loop-k.invariant.weight c.get.ensures c.at-in-loop-k.ensures
    (simp to_z-of_z at c.in_ok-sum-2.ensures.total) (simp to_z-of_z at c.in_ok-sum-2.ensures.weight) in
    record { total = step.0; weight = step.1 }

pub returns-in_err-sum-2-clause-in_range : goal.returns-in_err-sum-2-clause-in_range
returns-in_err-sum-2-clause-in_range c =
    let base : FitsSigned w128 c.at.result = search rules in
    let cell : FitsSigned w128 c.get.result = search rules in
    let number : FitsSigned w128 c.at-in-loop-k.result = search rules in
    let start : c.in_ok-sum.sum.weight ≡ unsigned_abs (vector c.args.m.now.constant c.args.j) * 1 =
    simp to_z-of_z at c.in_ok-sum.ensures.weight ∙ rw (c.new.ensures.weight, c.at.ensures) (omega arith) in
    let far = (simp to_z-of_z at c.in_err-sum-2.ensures.out_of_range).0 refl in
    let out = beyond-base (table c.args.m.now.coef c.args.j) (vector c.args.x.now.c) c.loop-k.k c.args.m.now.n _ _
    c.in_ok-sum.sum.weight _ c.loop-k-test.true
    c.loop-k.invariant.weight c.get.ensures c.at-in-loop-k.ensures far in
    (λ some. let never = rw c.from_residual-in_err-sum-2.ensures at some in cc, λ within. absurd (omega arith))

pub returns-clause-value : goal.returns-clause-value
returns-clause-value c =
    let all : c.loop-k.k ≡ c.args.m.now.n = omega (arith, c.loop-k-test.false, c.loop-k.auto.k-end) in
    let base : FitsSigned w128 c.at.result = search rules in
    let fits : FitsSigned w128 c.total.result = search rules in
    let start : c.in_ok-sum.sum.total ≡ vector c.args.m.now.constant c.args.j =
    simp to_z-of_z at c.in_ok-sum.ensures.total ∙ rw (c.new.ensures.total, c.at.ensures) (omega (arith, ints)) in
    let value : c.loop-k.sum.total ≡ centre_slope (system c.args.m.now) (certificate_data c.args.x.now) c.args.j =
    (rw all at c.loop-k.invariant.total) ∙ rw start (omega (arith, ints)) in
    rw to_z-of_z (c.total.ensures.value ∙ value)
