use Rattle.cert_check.proofs.Common
use Common.{ℕ, ◌<◌, ◌≡◌, default_config, fields_of, is_flexible, List, map, Reached, Some}
use Common.{strip_bom, true}
use Rattle.csv.specs.Reading.{Ready, source_of}
use Rattle.csv.specs.declared.parser.State.TheVariants as st
use Rattle.csv.specs.declared.reader.Trim.TheVariants as trim
use Rattle.cert_check.proofs.certificate_parser.parse_certificate_records.Given as goal

abbrev pub invariant-loop-record : goal.invariant-loop-record
invariant-loop-record l =
    (l.record-iterator.rdr.now.trim ≡ trim.None) × Ready l.record-iterator.rdr.now × (0 < l.record-iterator.left) × (l.record-iterator.rdr.now.config ≡ default_config)
    × (y : List ℕ) × (source_of (λ s. Some s.now) l.record-iterator.rdr.now ≡ Some y)
    × Reached default_config st.StartRecord (strip_bom l.fn.bytes) (map fields_of l.records.items) l.record-iterator.rdr.now.state y
    × (is_flexible l.record-iterator.rdr.now ≡ true)
