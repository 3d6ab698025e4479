use Rattle.cert_propose.proofs.Common
use Common.{◌*ℤ◌, ◌+ℤ◌, ◌+◌, ◌^◌, ◌∙◌, ◌≡◌, ◌≤◌, ap, arith, beyond-base, FitsSigned, ints, refl}
use Common.{rules, Some, sum_below, sym, to_z-of_z, unsigned_abs, w128, weight}
use Rattle.cert_matrix.proofs.Weights.{more-from}
use Rattle.cert_propose.proofs.Ranges.{within, beyond}
use Rattle.cert_propose.proofs.candidate_matrices.sum_candidate_products.Goals as goal

pub loop-k-preserved : goal.loop-k-preserved
loop-k-preserved p c = λ f g left right.
    let x : FitsSigned w128 c.left.result = search rules in
    let y : FitsSigned w128 c.right.result = search rules in
    let inv = c.loop-k.invariant f g left right in
    more-from f g c.loop-k.k c.in_ok-sum.sum.total _ _ _ _ c.in_ok-sum.sum.weight _ _ inv.0 inv.1
    (left c.loop-k.k _ c.loop-k-test.true c.left.ensures) (right c.loop-k.k _ c.loop-k-test.true c.right.ensures)
    (simp to_z-of_z at c.in_ok-sum-2.ensures.total) (simp to_z-of_z at c.in_ok-sum-2.ensures.weight)

pub returns-in_err-sum : goal.returns-in_err-sum
returns-in_err-sum p c = λ f g left right.
    let base : FitsSigned w128 c.args.base = search rules in
    let far = (simp to_z-of_z at c.in_err-sum.ensures.out_of_range).0 refl in
    c.from_residual.ensures ∙ sym (beyond _ _ (omega (arith, far, c.new.ensures.weight)))

pub returns-in_err-sum-2 : goal.returns-in_err-sum-2
returns-in_err-sum-2 p c = λ f g left right.
    let x : FitsSigned w128 c.left.result = search rules in
    let y : FitsSigned w128 c.right.result = search rules in
    let base : FitsSigned w128 c.args.base = search rules in
    let inv = c.loop-k.invariant f g left right in
    let far = (simp to_z-of_z at c.in_err-sum-2.ensures.out_of_range).0 refl in
    let start = simp to_z-of_z at c.in_ok-sum.ensures.weight in
    let out = beyond-base f g c.loop-k.k c.args.n _ _ c.in_ok-sum.sum.weight _ c.loop-k-test.true inv.1
    (left c.loop-k.k _ c.loop-k-test.true c.left.ensures) (right c.loop-k.k _ c.loop-k-test.true c.right.ensures) far in
    c.from_residual-in_err-sum-2.ensures ∙ sym (beyond _ _ (omega (arith, out, start, c.new.ensures.weight)))

pub returns : goal.returns
returns p c = λ f g left right.
    let all : c.loop-k.k ≡ c.args.n = omega (arith, c.loop-k-test.false, c.loop-k.auto.k-end) in
    let base : FitsSigned w128 c.args.base = search rules in
    let fits : FitsSigned w128 c.total.result = search rules in
    let inv = rw all at (c.loop-k.invariant f g left right) in
    let first : c.in_ok-sum.sum.total ≡ c.args.base = (simp to_z-of_z at c.in_ok-sum.ensures.total) ∙ rw c.new.ensures.total (omega (arith, ints)) in
    let start : c.in_ok-sum.sum.weight ≡ unsigned_abs c.args.base = (simp to_z-of_z at c.in_ok-sum.ensures.weight) ∙ rw c.new.ensures.weight (omega arith) in
    let value : c.total.result ≡ c.args.base +ℤ sum_below c.args.n (λ k. f k *ℤ g k) = c.total.ensures.value ∙ inv.0 ∙ rw first refl in
    let small : unsigned_abs c.args.base + weight c.args.n f g ≤ 2 ^ 126 = omega (arith, start, inv.1, c.loop-k.sum.in_range) in
    rw to_z-of_z (ap Some value ∙ sym (within _ _ small))
