use Rattle.cert_check.proofs.Common.{[], ◌∷◌, ◌≡◌, fields_of, map, signed_decimal, take}
use Rattle.csv.specs.Records.{partial_of}
use Rattle.cert_check.proofs.certificate_writer.certificate_record.Given as goal

abbrev pub invariant-loop-number : goal.invariant-loop-number
invariant-loop-number l = record {
  fields : fields_of l.record ≡ l.keyword ∷ map signed_decimal (take l.number-index l.numbers);
  partial : partial_of l.record ≡ [];
}
