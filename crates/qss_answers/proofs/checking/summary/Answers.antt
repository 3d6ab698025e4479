use Rattle.qss_answers.proofs.Common.{◌∙◌, ◌≡◌, ap}
use Rattle.qss_trace.specs.Trace.{count_of}
use Rattle.qss_answers.proofs.checking.summary.Goals as goal

pub returns : goal.returns
returns c =
    let places : c.places-places.result ≡ count_of c.args.t.now = c.places-places.ensures in
    let text = rw places at c.in_ok-text.ensures.ok in
    ap (λ v. v.items) c.into_bytes.ensures.value ∙ text
