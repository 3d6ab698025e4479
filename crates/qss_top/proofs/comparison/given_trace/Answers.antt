use Rattle.qss_top.proofs.Common.{◌∙◌, ◌≡◌, inl, inr, refl, sym}
use Rattle.qss_answers.proofs.ComparisonEnds.{taken_so}
use Rattle.qss_top.proofs.comparison.given_trace.Goals as goal

pub returns-in-First : goal.returns-in-First
returns-in-First c = rw c.in-First.is (record {
  trace = c.first_side.ensures.side;
  stopped = c.first_side.ensures.stopped;
  memory = c.first_side.ensures.memory;
})

pub returns-in-Second : goal.returns-in-Second
returns-in-Second c = rw c.in-Second.is (record {
  trace = c.second_side.ensures.side;
  stopped = c.second_side.ensures.stopped;
  memory = c.second_side.ensures.memory;
})

pub returns-in-Traced : goal.returns-in-Traced
returns-in-Traced c = rw c.in-Traced.is (record {
  trace = tt;
  stopped =
      inr (inl (inr (inl (c.args.basis.scope, c.if-bytes-gt-TRACE_LIMIT.true, refl))));
  memory = λ e. cc e;
})

pub returns-in-Traced-2 : goal.returns-in-Traced-2
returns-in-Traced-2 c =
    let is = sym c.in-Traced.is ∙ c.in-Traced-2.is in
    let same : c.in-Traced.bytes ≡ c.in-Traced-2.bytes = cc is in
    rw c.in-Traced-2.is (record {
      trace = c.traced_side.ensures.side;
      stopped = c.traced_side.ensures.stopped;
      memory = taken_so _ c.traced_side.result (rw same at c.if-bytes-gt-TRACE_LIMIT.false);
    })
