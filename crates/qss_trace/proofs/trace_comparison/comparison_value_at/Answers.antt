use Rattle.qss_trace.proofs.Common
use Common.{ℤ, ◌∙◌, ◌≡◌, arith, difference, form, sym, table, take, value_of, vector}
use Rattle.cert_check.proofs.Gaps.{taken, form-same, form_range-same}
use Rattle.qss_trace.proofs.Turns.{if-some-map, parts-in-range}
use Rattle.qss_trace.proofs.trace_comparison.comparison_value_at.Goals as goal

pub returns-clause-in_range : goal.returns-clause-in_range
returns-clause-in_range c =
    let same = taken c.args.t1.now.n c.loop-j.gaps (difference c.args.t1.now c.args.t2.now c.args.i1 c.args.i2) (λ k l. c.loop-j.invariant.gaps k (omega (arith, c.loop-j-test.false))) in
    let ranged = rw c.requires.size at c.quad.ensures.in_range in (
      λ some. record {
        parts = λ j h. parts-in-range c.args.t1.now c.args.t2.now c.args.i1 c.args.i2 j c.requires.same c.requires.first c.requires.second h;
        form = form_range-same c.args.t1.now.n (table c.args.p.now) (vector (take c.args.t1.now.n c.loop-j.gaps)) (difference c.args.t1.now c.args.t2.now c.args.i1 c.args.i2) same (ranged.0 some);
      },
      λ r. ranged.1 (form_range-same c.args.t1.now.n (table c.args.p.now) (difference c.args.t1.now c.args.t2.now c.args.i1 c.args.i2) (vector (take c.args.t1.now.n c.loop-j.gaps))
          (λ k l. sym (same k l)) r.form),
    )

pub returns-clause-value : goal.returns-clause-value
returns-clause-value c =
    let same = taken c.args.t1.now.n c.loop-j.gaps (difference c.args.t1.now c.args.t2.now c.args.i1 c.args.i2) (λ k l. c.loop-j.invariant.gaps k (omega (arith, c.loop-j-test.false))) in
    if-some-map c.quad.result (λ (v : ℤ). v ≡ form c.args.t1.now.n (table c.args.p.now) (vector (take c.args.t1.now.n c.loop-j.gaps)))
    (λ (v : ℤ). v ≡ value_of c.args.p.now c.args.t1.now c.args.t2.now c.args.i1 c.args.i2)
    (λ v e. e ∙ form-same c.args.t1.now.n (table c.args.p.now) (vector (take c.args.t1.now.n c.loop-j.gaps)) (difference c.args.t1.now c.args.t2.now c.args.i1 c.args.i2) same)
    (rw c.requires.size at c.quad.ensures.value)
