use Rattle.cert_propose.proofs.Common
use Common.{◌*ℤ◌, ◌+ℤ◌, ◌+◌, ◌^◌, ◌∙◌, ◌≡◌, ◌≤◌, abs_of, ap, arith, beyond-base, FitsSigned, refl}
use Common.{rules, Some, sum_below, sym, to_z-of_z, w128, weight}
use Rattle.cert_matrix.proofs.Weights.{sizes-from}
use Rattle.cert_propose.proofs.Ranges.{within, beyond}
use Rattle.cert_propose.proofs.candidate_matrices.sum_candidate_sizes.Goals as goal

pub loop-k-preserved : goal.loop-k-preserved
loop-k-preserved p c = λ f g left right.
    let x : FitsSigned w128 c.left.result = search rules in
    let y : FitsSigned w128 c.right.result = search rules in
    let inv = c.loop-k.invariant f g left right in
    sizes-from f g c.loop-k.k c.args.start.total _ _ _ _ c.args.start.weight _ _ inv.0 inv.1
    (left c.loop-k.k _ c.loop-k-test.true c.left.ensures) (right c.loop-k.k _ c.loop-k-test.true c.right.ensures)
    (simp to_z-of_z at c.in_ok-sum.ensures.total) (simp to_z-of_z at c.in_ok-sum.ensures.weight)

pub returns-in_err-sum : goal.returns-in_err-sum
returns-in_err-sum p c = λ f g left right.
    let x : FitsSigned w128 c.left.result = search rules in
    let y : FitsSigned w128 c.right.result = search rules in
    let inv = c.loop-k.invariant f g left right in
    let far = (simp to_z-of_z at c.in_err-sum.ensures.out_of_range).0 refl in
    let out = beyond-base f g c.loop-k.k c.args.n _ _ c.args.start.weight _ c.loop-k-test.true inv.1
    (left c.loop-k.k _ c.loop-k-test.true c.left.ensures) (right c.loop-k.k _ c.loop-k-test.true c.right.ensures) far in
    c.from_residual.ensures ∙ sym (beyond _ _ out)

pub returns : goal.returns
returns p c = λ f g left right.
    let all : c.loop-k.k ≡ c.args.n = omega (arith, c.loop-k-test.false, c.loop-k.auto.k-end) in
    let fits : FitsSigned w128 c.total.result = search rules in
    let inv = rw all at (c.loop-k.invariant f g left right) in
    let value : c.total.result ≡ c.args.start.total +ℤ sum_below c.args.n (λ k. abs_of (f k) *ℤ g k) = c.total.ensures.value ∙ inv.0 in
    let small : c.args.start.weight + weight c.args.n f g ≤ 2 ^ 126 = omega (arith, inv.1, c.loop-k.sum.in_range) in
    rw to_z-of_z (ap Some value ∙ sym (within _ _ small))
