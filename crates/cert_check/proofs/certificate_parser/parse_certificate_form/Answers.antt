use Rattle.cert_check.proofs.Common
use Common.{ℕ, ◌<◌, ◌≡◌, ◌⊎◌, fields_of, FirstTakesMemory, length, map, Memory, rules, Some}
use Common.{text_fault}
use Rattle.cert_check.proofs.Kept.{form-refused}
use Rattle.cert_check.proofs.Turns.{err-as}
use Rattle.cert_check.proofs.certificate_parser.parse_certificate_form.Goals as goal

pub returns-in_err-row-clause-refused : goal.returns-in_err-row-clause-refused
returns-in_err-row-clause-refused c =
    let some : 0 < length c.args.records.now = search rules in
    err-as c.from_residual.result c.in_err-row.field-0.0
    (λ why. ((why ≡ Memory) × FirstTakesMemory 1 (map fields_of c.args.records.now)) ⊎ ((n : ℕ) → text_fault n (map fields_of c.args.records.now) ≡ Some why))
    c.from_residual.ensures.1 (form-refused c.args.records.now c.index-records-0.result c.in_err-row.field-0.0 some c.index-records-0.is c.in_err-row.ensures.refused)
