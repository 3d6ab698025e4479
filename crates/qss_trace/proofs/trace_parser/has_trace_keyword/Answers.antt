use Rattle.qss_trace.proofs.Common.{◌∙◌, fields_of}
use Rattle.cert_check.proofs.Fields.{first-is, first-none, empty-same}
use Rattle.qss_trace.proofs.trace_parser.has_trace_keyword.Goals as goal

pub returns-in-Some : goal.returns-in-Some
returns-in-Some c = rw (first-is (fields_of c.args.found.now) c.in-Some.field.now c.in-Some.ensures.value) c.eq.ensures

pub returns-in-None : goal.returns-in-None
returns-in-None c =
    rw (first-none (fields_of c.args.found.now) c.in-None.ensures.value) (c.is_empty.ensures ∙ empty-same c.args.keyword.now)
