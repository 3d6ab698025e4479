use Rattle.qss_trace.proofs.Common
use Common.{ℕ, ◌<◌, ◌≡◌, default_config, IsDraftOf, List, Reached, Some, strip_bom, true}
use Rattle.csv.specs.Reading.{Ready, is_flexible, source_of}
use Rattle.csv.specs.declared.parser.State.TheVariants as st
use Rattle.csv.specs.declared.reader.Trim.TheVariants as trim
use Rattle.qss_trace.proofs.trace_parser.parse_trace_text.Given as goal

abbrev pub invariant-loop-record : goal.invariant-loop-record
invariant-loop-record l =
    (l.record-iterator.rdr.now.trim ≡ trim.None) × Ready l.record-iterator.rdr.now × (0 < l.record-iterator.left) × (l.record-iterator.rdr.now.config ≡ default_config)
    × (y : List ℕ) × (seen : List (List (List ℕ))) × (source_of (λ s. Some s.now) l.record-iterator.rdr.now ≡ Some y)
    × Reached default_config st.StartRecord (strip_bom l.fn.bytes) seen l.record-iterator.rdr.now.state y
    × (is_flexible l.record-iterator.rdr.now ≡ true) × (l.draft.n ≡ l.fn.n) × IsDraftOf seen l.draft
