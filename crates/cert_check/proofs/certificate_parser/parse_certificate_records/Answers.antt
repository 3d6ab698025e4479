use Rattle.cert_check.proofs.Common
use Common.{[], ℕ, ◌∙◌, ◌∷◌, ◌≡◌, default_config, false, false≢true, fields_of, inl, inr}
use Common.{is_flexible, List, map, map-append, Option, Reached, refl, Some, strip_bom, sym, true}
use Rattle.std.proofs.Common.{Bor}
use Rattle.csv.specs.Reading.{ExplainsRead, stops_reader}
use Rattle.csv.specs.declared.error.ErrorKind.{ErrorKind}
use Rattle.csv.specs.declared.reader.Reader.{Reader}
use Rattle.csv.proofs.ReadFacts.{rows-end, rows-more}
use Rattle.csv.specs.declared.error.ErrorKind.TheVariants as kind
use Rattle.csv.specs.declared.parser.State.TheVariants as st
use Rattle.cert_check.proofs.certificate_parser.parse_certificate_records.Goals as goal

-- an error of a reader of records that may differ in length stops it
explains-stops : {R : Type 0} (rem : R → Option (List ℕ)) (old new : Reader R) (k : ErrorKind) → is_flexible old ≡ true → ExplainsRead rem old new false k → stops_reader k ≡ true
explains-stops rem old new (kind.Io e) flexible h = refl
explains-stops rem old new kind.OutOfMemory flexible h = refl
explains-stops rem old new (kind.UnequalLengths pos expected len) flexible h = absurd (false≢true (sym h.0 ∙ flexible))
explains-stops rem old new (kind.Utf8 pos err) flexible h = absurd (false≢true h.0)
explains-stops rem old new (kind.Serialize text) flexible h = absurd h
explains-stops rem old new (kind.Deserialize pos err) flexible h = absurd h

pub certificate_allocation_failure-requires : goal.certificate_allocation_failure-requires
certificate_allocation_failure-requires c =
    let inv = c.loop-record.invariant in
    let s = rw (c.in-Some.is, c.in-Err.is) at ((c.next.ensures.steps inv.2 inv.0).0 inv.1) in
    explains-stops (λ (s : Bor (List ℕ)). Some s.now) c.loop-record.record-iterator.rdr.now c.next.new.self.rdr.now c.in-Err.error.kind inv.7 s

pub loop-record-init : goal.loop-record-init
unfolding Reached
loop-record-init c =
    let fr = c.from_reader-reader.ensures in
    let f = c.flexible.ensures in
    let e = c.has_headers.ensures in
    let start = c.into_iter-record-iterator.ensures.into_iter_gives ∙ refl in
    let rdr = c.byte_records-record-items.ensures.rdr in
    let left = c.byte_records-record-items.ensures.left in
    rw (start, rdr, c.new-records.ensures.items) (
      rw (f, e) at fr.trim ∙ c.new.ensures.trim,
      inr (inr (rw (f, e) at fr.has_headers, fr.headers)),
      left,
      rw (f, e) at fr.config ∙ c.new.ensures.config,
      strip_bom c.args.bytes.now,
      fr.source,
      (sym fr.state, refl),
      rw f at fr.flexible,
    )

pub loop-record-preserved : goal.loop-record-preserved
loop-record-preserved c =
    let inv = c.loop-record.invariant in
    let s = rw (c.in-Some.is, c.in-Ok.is) at ((c.next.ensures.steps inv.2 inv.0).0 inv.1) in
    let items = c.in_ok-push-in-Ok.ensures.items in
    let flexible = rw (c.in-Some.is, c.in-Ok.is) at ((c.next.ensures.steps inv.2 inv.0).3) in
    let m = rows-more (λ (s : Bor (List ℕ)). Some s.now) c.loop-record.record-iterator.rdr.now c.next.new.self.rdr.now (fields_of c.in-Ok.record) default_config st.StartRecord (strip_bom c.args.bytes.now) inv.4 (map fields_of c.loop-record.records.items) inv.3 inv.5 inv.6 s.0 in
    (s.0.3 ∙ inv.0, inl s.1, s.2, s.0.2 ∙ inv.3, m.0, m.1, rw (items, map-append fields_of c.loop-record.records.items (c.in-Ok.record ∷ [])) m.2, flexible ∙ inv.7)

pub returns : goal.returns
returns c =
    let inv = c.loop-record.invariant in
    let s = rw c.in-None.is at ((c.next.ensures.steps inv.2 inv.0).0 inv.1) in
    (c.loop-record.record-iterator.rdr.now.state, inv.4, inv.6, rows-end (λ (s : Bor (List ℕ)). Some s.now) c.loop-record.record-iterator.rdr.now c.next.new.self.rdr.now [] default_config inv.4 inv.3 inv.5 s)
