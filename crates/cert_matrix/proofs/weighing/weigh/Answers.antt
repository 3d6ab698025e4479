use Rattle.cert_matrix.proofs.Common
use Common.{arith, FitsSigned, get_or, ints, pos, refl, rules, to_z-of_z, w128}
use Rattle.cert_matrix.proofs.Products.{products-drop, weights-drop}
use Rattle.cert_matrix.proofs.weighing.weigh.Goals as goal

pub loop-term-preserved : goal.loop-term-preserved
loop-term-preserved c =
    let left : FitsSigned w128 (get_or c.args.terms.now c.loop-term.term-index (pos 0, pos 0)).0 = search rules in
    let right : FitsSigned w128 (get_or c.args.terms.now c.loop-term.term-index (pos 0, pos 0)).1 = search rules in
    let total = simp to_z-of_z at c.in_ok-sum.ensures.total in
    let weight = simp to_z-of_z at c.in_ok-sum.ensures.weight in
    let p = products-drop c.args.terms.now c.loop-term.term-index (pos 0, pos 0) c.loop-term-test.true in
    let w = weights-drop c.args.terms.now c.loop-term.term-index (pos 0, pos 0) c.loop-term-test.true in
    record { total = omega (arith, ints, c.loop-term.invariant.total); weight = omega (arith, c.loop-term.invariant.weight) }

pub returns-in_err-sum-clause-out_of_range : goal.returns-in_err-sum-clause-out_of_range
returns-in_err-sum-clause-out_of_range c =
    let left : FitsSigned w128 (get_or c.args.terms.now c.loop-term.term-index (pos 0, pos 0)).0 = search rules in
    let right : FitsSigned w128 (get_or c.args.terms.now c.loop-term.term-index (pos 0, pos 0)).1 = search rules in
    let beyond = (simp to_z-of_z at c.in_err-sum.ensures.out_of_range).0 refl in
    let w = weights-drop c.args.terms.now c.loop-term.term-index (pos 0, pos 0) c.loop-term-test.true in
    (λ _. omega (arith, beyond, c.loop-term.invariant.weight), λ _. rw c.from_residual.ensures refl)
