use Rattle.cert_propose.proofs.Common
use Common.{◌+ℤ◌, ◌+◌, ◌^◌, ◌∙◌, ◌≡◌, ◌≤◌, ap, arith, FitsSigned, ints, neg_ℤ, rules, Some, sym}
use Common.{to_z-of_z, unsigned_abs, w128}
use Rattle.cert_propose.proofs.Ranges.{within}
use Rattle.cert_propose.proofs.candidate_matrices.add_candidate_negatives.Goals as goal

pub returns : goal.returns
returns c =
    let fits : FitsSigned w128 c.total.result = search rules in
    let x : FitsSigned w128 c.args.x = search rules in
    let y : FitsSigned w128 c.args.y = search rules in
    let first = simp to_z-of_z at c.in_ok-minus.ensures.total in
    let second = simp to_z-of_z at c.in_ok-sum.ensures.total in
    let first_weight = simp to_z-of_z at c.in_ok-minus.ensures.weight in
    let second_weight = simp to_z-of_z at c.in_ok-sum.ensures.weight in
    let value : c.total.result ≡ neg_ℤ c.args.x +ℤ neg_ℤ c.args.y = omega (arith, ints, c.total.ensures.value, first, second, c.new.ensures.total) in
    let small : unsigned_abs (neg_ℤ c.args.x) + unsigned_abs (neg_ℤ c.args.y) ≤ 2 ^ 126 = omega (arith, ints, first_weight, second_weight, c.new.ensures.weight, c.in_ok-sum.sum.in_range) in
    rw to_z-of_z (ap Some value ∙ sym (within _ _ small))
