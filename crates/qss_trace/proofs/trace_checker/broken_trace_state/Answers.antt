use Rattle.qss_trace.proofs.Common
use Common.{ℤ, arith, below_more, FitsSigned, IsMet, left_of, refl, rules, subst, to_z-of_z, w128}
use Rattle.qss_trace.proofs.trace_checker.broken_trace_state.Goals as goal

pub loop-j-init : goal.loop-j-init
loop-j-init c = λ k h. absurd (omega arith)

pub returns-then-not-is_trace_fact_met : goal.returns-then-not-is_trace_fact_met
returns-then-not-is_trace_fact_met c =
    let left : FitsSigned w128 c.trace_fact_sides-sides.result.left = search rules in
    let right : FitsSigned w128 c.trace_fact_sides-sides.result.right = search rules in
    let fails : IsMet c.args.fact c.trace_fact_sides-sides.result.left c.trace_fact_sides-sides.result.right → ⊥ = λ met. let yes = c.is_trace_fact_met.ensures.1 met in let no = c.if-not-is_trace_fact_met.true in cc in (
      refl,
      record {
        state = c.loop-j-test.true;
        there = c.requires.there;
        left_is = rw to_z-of_z c.trace_fact_sides-sides.ensures.left;
        right_is = rw to_z-of_z c.trace_fact_sides-sides.ensures.right;
        fails = simp to_z-of_z fails;
      },
      c.loop-j.invariant,
    )

pub loop-j-preserved : goal.loop-j-preserved
loop-j-preserved c =
    let met : IsMet c.args.fact c.trace_fact_sides-sides.result.left c.trace_fact_sides-sides.result.right = c.is_trace_fact_met.ensures.0 c.if-not-is_trace_fact_met.false in
    let P : ℤ → Type 0 = λ z. IsMet c.args.fact z c.trace_fact_sides-sides.result.right in
    let Q : ℤ → Type 0 = λ z. IsMet c.args.fact (left_of c.args.m.now c.args.t.now c.args.fact c.args.place c.loop-j.j) z in
    below_more _ _ c.loop-j.invariant (subst Q c.trace_fact_sides-sides.ensures.right (subst P c.trace_fact_sides-sides.ensures.left met))

pub returns : goal.returns
returns c = λ j h. c.loop-j.invariant j (omega (arith, c.loop-j-test.false))
