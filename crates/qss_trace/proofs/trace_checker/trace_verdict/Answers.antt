use Rattle.qss_trace.proofs.Common
use Common.{ℕ, ◌<◌, arith, below_more, count_of, IsFoundAt, IsVerdict, None, refl, subst, sym}
use Common.{TraceVerdict}
use Rattle.qss_trace.proofs.Found.{first-broken, all-hold}
use Rattle.qss_trace.proofs.trace_checker.trace_verdict.Goals as goal

pub loop-place-init : goal.loop-place-init
loop-place-init c = λ i h. absurd (omega arith)

pub returns-in-Some : goal.returns-in-Some
returns-in-Some c =
    let h : c.loop-place.place < count_of c.args.t.now = omega (arith, c.loop-place-test.true, c.places-place-end.ensures) in
    let found = rw c.in-Some.is at c.broken_trace_place.ensures in
    let P : TraceVerdict → Type 0 = λ v. IsVerdict c.args.m.now c.args.t.now v in
    subst P (sym c.broken_trace_verdict.ensures) (
      c.in-Some.broken.fact,
      c.in-Some.broken.state,
      refl,
      refl,
      first-broken c.args.m.now c.args.t.now c.loop-place.place c.in-Some.broken h c.loop-place.invariant found,
    )

pub loop-place-preserved : goal.loop-place-preserved
loop-place-preserved c =
    let P : ℕ → Type 0 = λ i. IsFoundAt c.args.m.now c.args.t.now i None in
    below_more P c.loop-place.place c.loop-place.invariant (rw c.in_default.is at c.broken_trace_place.ensures)

pub returns : goal.returns
returns c =
    all-hold c.args.m.now c.args.t.now (λ i h. c.loop-place.invariant i (omega (arith, c.loop-place-test.false, c.places-place-end.ensures)))
