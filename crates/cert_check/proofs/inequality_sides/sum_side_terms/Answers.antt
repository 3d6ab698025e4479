use Rattle.cert_check.proofs.Common
use Common.{◌∙◌, ◌≡◌, arith, beyond, FitsSigned, ints, more, pos, refl, rules, sum_below}
use Common.{sum_below-same, to_z-of_z, vector, w128}
use Rattle.cert_check.proofs.inequality_sides.sum_side_terms.Goals as goal

pub loop-i-preserved : goal.loop-i-preserved
loop-i-preserved c =
    let fits : FitsSigned w128 c.at.result = search rules in
    let step = more (vector c.args.numbers.now) (λ _. pos 1) c.loop-i.i _ _ _ (pos 1) _ _
    c.loop-i.invariant.total c.loop-i.invariant.weight c.at.ensures refl
    (simp to_z-of_z at c.in_ok-sum.ensures.total) (simp to_z-of_z at c.in_ok-sum.ensures.weight) in
    record { total = step.0; weight = step.1 }

pub returns-in_err-sum-clause-in_range : goal.returns-in_err-sum-clause-in_range
returns-in_err-sum-clause-in_range c =
    let fits : FitsSigned w128 c.at.result = search rules in
    let far = (simp to_z-of_z at c.in_err-sum.ensures.out_of_range).0 refl in
    let out = beyond (vector c.args.numbers.now) (λ _. pos 1) c.loop-i.i c.args.n _ (pos 1) _ c.loop-i-test.true
    c.loop-i.invariant.weight c.at.ensures refl far in
    (λ some. let never = rw c.from_residual.ensures at some in cc, λ within. absurd (omega arith))

pub returns-clause-value : goal.returns-clause-value
returns-clause-value c =
    let all : c.loop-i.i ≡ c.args.n = omega (arith, c.loop-i-test.false, c.loop-i.auto.i-end) in
    let fits : FitsSigned w128 c.total.result = search rules in
    let value : c.loop-i.sum.total ≡ sum_below c.args.n (vector c.args.numbers.now) =
    (rw all at c.loop-i.invariant.total) ∙ sum_below-same c.args.n _ _ (λ i h. omega (arith, ints)) in
    rw to_z-of_z (c.total.ensures.value ∙ value)
