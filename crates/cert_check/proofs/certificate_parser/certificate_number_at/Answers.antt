use Rattle.cert_check.proofs.Common.{◌∙◌, ap, fields_of, number_in, sym}
use Rattle.cert_check.proofs.Fields.{field-is, field-never}
use Rattle.cert_check.proofs.certificate_parser.certificate_number_at.Goals as goal

pub returns-in-Some-clause-value : goal.returns-in-Some-clause-value
returns-in-Some-clause-value c =
    c.number.ensures.value ∙ ap number_in (sym (field-is (fields_of c.args.found.now) c.args.place c.in-Some.field.now c.requires c.in-Some.ensures.value))

pub returns-in-None-clause-value : goal.returns-in-None-clause-value
returns-in-None-clause-value c = absurd (field-never (fields_of c.args.found.now) c.args.place c.requires c.in-None.ensures.value)
