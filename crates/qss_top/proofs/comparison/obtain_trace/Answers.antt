use Rattle.qss_top.proofs.Common.{inl, refl, traced as given_trace}
use Rattle.qss_top.specs.Tasks.{given_in}
use Rattle.qss_top.proofs.Comparing.{found_result}
use Rattle.qss_top.proofs.comparison.obtain_trace.Goals as goal

pub returns-in-Given : goal.returns-in-Given
returns-in-Given g c = rw c.in-Given.is (record {
  obtained = inl (
    given_in c.in-Given.source,
    (refl, refl),
    found_result c.args.basis.m.now c.args.basis.c.now c.args.run (given_in c.in-Given.source) c.given_trace.result c.trace_or_outcome.result c.given_trace.ensures.trace
        c.given_trace.ensures.stopped c.trace_or_outcome.ensures.trace
        c.trace_or_outcome.ensures.stopped,
  );
})

pub returns-in-Ok : goal.returns-in-Ok
returns-in-Ok g c =
    let is = found_result c.args.basis.m.now c.args.basis.c.now c.args.run _ c.traced_side.result c.trace_or_outcome-in-Ok.result
    c.traced_side.ensures.side c.traced_side.ensures.stopped
    c.trace_or_outcome-in-Ok.ensures.trace c.trace_or_outcome-in-Ok.ensures.stopped in
    let same = rw c.deref.ensures.value at is in
    rw c.in-InFile.is (record {
      obtained = inl (given_trace c.in-Ok.bytes.items, (c.in-Ok.bytes, refl, c.in-Ok.ensures), same);
    })
