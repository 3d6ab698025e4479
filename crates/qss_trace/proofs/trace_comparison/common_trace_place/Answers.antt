use Rattle.qss_trace.proofs.Common.{◌%◌, ◌*◌, ◌/◌, ◌∙◌, ◌≡◌, ap, ap₂, arith}
use Rattle.qss_trace.proofs.Turns.{partner-divides}
use Rattle.qss_trace.proofs.trace_comparison.common_trace_place.Goals.{then-tick-from-ne0-via-then-tick-from-ne0}
use Rattle.qss_trace.proofs.trace_comparison.common_trace_place.Goals.{then-tick-from-ne0-via-else-tick-from-ne0+then-place-from}
use Rattle.qss_trace.proofs.trace_comparison.common_trace_place.Goals as goal

pub returns-then-tick-from-ne0-clause-none : goal.returns-then-tick-from-ne0-clause-none
returns-then-tick-from-ne0-clause-none c = λ e i2 common.
    let tick : c.from.result * c.from-2.result ≡ i2 * c.args.t1.now.refine = ap₂ (λ a b. a * b) c.from.ensures c.from-2.ensures ∙ common.tick in
    let divides = partner-divides (c.from.result * c.from-2.result) c.args.t1.now.refine i2 c.args.t1.now.has_refine.some tick in
    let rest : c.from.result * c.from-2.result % c.from-4.result ≡ 0 = ap (λ r. c.from.result * c.from-2.result % r) c.from-4.ensures ∙ divides.0 in
    let div : c.from.result * c.from-2.result / c.from-3.result ≡ i2 = ap (λ r. c.from.result * c.from-2.result / r) c.from-3.ensures ∙ divides.1 in
    elim c.then-tick-from-ne0.branch [
      | then-tick-from-ne0-via-then-tick-from-ne0 w ↦ w.if-tick-from-ne0.true rest
      | then-tick-from-ne0-via-else-tick-from-ne0+then-place-from w ↦ omega (arith, w.if-place-from.true, w.from-else-tick-from-ne0.ensures, w.places.ensures, div, common.second)
    ]
