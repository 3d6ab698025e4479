use Rattle.qss_trace.proofs.Common
use Common.{ℤ, ◌*ℤ◌, ◌^◌, ◌∙◌, ◌≡◌, ap, arith, FitsSigned, get_or, pos, rules, table, to_z}
use Common.{to_z-of_z, vector, w128}
use Rattle.qss_trace.proofs.Turns.{total_step}
use Rattle.qss_trace.proofs.trace_sums.trace_level_sum.Goals as goal

pub loop-k-preserved : goal.loop-k-preserved
loop-k-preserved c =
    let cell : FitsSigned w128 c.get.result = search rules in
    let level : FitsSigned w128 (get_or c.args.levels.now c.loop-k.k (pos 0)) = search rules in
    let is : c.trace_level_term-sum.result ≡ table c.args.a.now.coef c.args.j c.loop-k.k *ℤ vector c.args.levels.now c.loop-k.k =
    (simp to_z-of_z at c.trace_level_term-sum.ensures.value) ∙ ap (λ (z : ℤ). z *ℤ vector c.args.levels.now c.loop-k.k) c.get.ensures in
    let turn = total_step (λ i. table c.args.a.now.coef c.args.j i *ℤ vector c.args.levels.now i) c.loop-k.k c.args.a.now.n (to_z w128 c.loop-k.sum-bits)
    c.trace_level_term-sum.result (2 ^ 108) c.loop-k.invariant.so_far c.loop-k.invariant.bound is c.trace_level_term-sum.ensures.bound c.loop-k-test.true (omega (arith, c.requires.size_limit.few)) in
    record { so_far = turn.0; bound = turn.1 }
