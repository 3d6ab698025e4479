use Rattle.qss_trace.proofs.Common.{◌∙◌, ap, fields_of, number_within, sym}
use Rattle.cert_check.proofs.Fields.{field-is, field-never}
use Rattle.qss_trace.proofs.trace_parser.trace_number_at.Goals as goal

pub returns-in-Some : goal.returns-in-Some
returns-in-Some c =
    c.trace_number_within.ensures ∙ ap (number_within c.args.limit) (sym (field-is (fields_of c.args.found.now) c.args.place c.in-Some.field.now c.requires c.in-Some.ensures.value))

pub returns-in-None : goal.returns-in-None
returns-in-None c = absurd (field-never (fields_of c.args.found.now) c.args.place c.requires c.in-None.ensures.value)
