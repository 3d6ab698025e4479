use Rattle.cert_check.proofs.Common
use Common.{◌+ℤ◌, ◌∙◌, ◌≡◌, abs_of, arith, below_more, beyond-base, centre_slope, certificate_data}
use Common.{FitsSigned, ints, refl, rules, slope_limit, system, table, to_z-of_z, unsigned_abs}
use Common.{vector, w128}
use Rattle.cert_matrix.proofs.Weights.{sizes-from}
use Rattle.cert_check.proofs.inequality_sides.slope_bound_at.Goals as goal

pub loop-k-preserved : goal.loop-k-preserved
loop-k-preserved c =
    let cell : FitsSigned w128 c.get.result = search rules in
    let number : FitsSigned w128 c.in_ok-reach_sum_at.field-0 = search rules in
    let step = sizes-from (table c.args.m.now.coef c.args.j) (λ i. vector c.args.x.now.z i +ℤ vector c.args.x.now.q i) c.loop-k.k
    c.in_ok-sum.sum.total _ _ _ _ c.in_ok-sum.sum.weight _ _
    c.loop-k.invariant.total c.loop-k.invariant.weight c.get.ensures c.in_ok-reach_sum_at.ensures.value
    (simp to_z-of_z at c.in_ok-sum-2.ensures.total) (simp to_z-of_z at c.in_ok-sum-2.ensures.weight) in
    record {
      reaches = below_more _ _ c.loop-k.invariant.reaches (c.in_ok-reach_sum_at.ensures.in_range.0 refl);
      total = step.0;
      weight = step.1;
    }

pub returns-in_err-sum-2-clause-in_range : goal.returns-in_err-sum-2-clause-in_range
returns-in_err-sum-2-clause-in_range c =
    let base : FitsSigned w128 c.in_ok-rest.rest = search rules in
    let cell : FitsSigned w128 c.get.result = search rules in
    let number : FitsSigned w128 c.in_ok-reach_sum_at.field-0 = search rules in
    let start : c.in_ok-sum.sum.weight ≡ unsigned_abs (centre_slope (system c.args.m.now) (certificate_data c.args.x.now) c.args.j) =
    simp to_z-of_z at c.in_ok-sum.ensures.weight ∙ rw (c.new.ensures.weight, c.in_ok-rest.ensures.value) (omega arith) in
    let far = (simp to_z-of_z at c.in_err-sum-2.ensures.out_of_range).0 refl in
    let out = beyond-base (table c.args.m.now.coef c.args.j) (λ i. vector c.args.x.now.z i +ℤ vector c.args.x.now.q i) c.loop-k.k c.args.m.now.n _ _
    c.in_ok-sum.sum.weight _ c.loop-k-test.true
    c.loop-k.invariant.weight c.get.ensures c.in_ok-reach_sum_at.ensures.value far in
    (λ some. let never = rw c.from_residual-in_err-sum-2.ensures at some in cc, λ within. absurd (omega (arith, within.bound)))

pub returns-clause-value : goal.returns-clause-value
returns-clause-value c =
    let all : c.loop-k.k ≡ c.args.m.now.n = omega (arith, c.loop-k-test.false, c.loop-k.auto.k-end) in
    let base : FitsSigned w128 c.in_ok-rest.rest = search rules in
    let fits : FitsSigned w128 c.total.result = search rules in
    let start : c.in_ok-sum.sum.total ≡ abs_of (centre_slope (system c.args.m.now) (certificate_data c.args.x.now) c.args.j) =
    simp to_z-of_z at c.in_ok-sum.ensures.total ∙ rw (c.new.ensures.total, c.in_ok-rest.ensures.value) (omega (arith, ints)) in
    let value : c.loop-k.sum.total ≡ slope_limit (system c.args.m.now) (certificate_data c.args.x.now) c.args.j =
    (rw all at c.loop-k.invariant.total) ∙ rw start (omega (arith, ints)) in
    rw to_z-of_z (c.total.ensures.value ∙ value)

pub returns-clause-in_range : goal.returns-clause-in_range
returns-clause-in_range c =
    let all : c.loop-k.k ≡ c.args.m.now.n = omega (arith, c.loop-k-test.false, c.loop-k.auto.k-end) in
    let base : FitsSigned w128 c.in_ok-rest.rest = search rules in
    let start : c.in_ok-sum.sum.weight ≡ unsigned_abs (centre_slope (system c.args.m.now) (certificate_data c.args.x.now) c.args.j) =
    simp to_z-of_z at c.in_ok-sum.ensures.weight ∙ rw (c.new.ensures.weight, c.in_ok-rest.ensures.value) (omega arith) in
    let weight = rw all at c.loop-k.invariant.weight in (
      λ _. record {
        rest = c.in_ok-rest.ensures.in_range.0 refl;
        reaches = λ k h. c.loop-k.invariant.reaches k (omega arith);
        bound = omega (arith, c.loop-k.sum.in_range);
      },
      λ _. refl,
    )
