use Rattle.qss_trace.proofs.Common
use Common.{[], ℕ, ◌++◌, ◌-◌, ◌^◌, ◌∙◌, ◌∷◌, ◌≡◌, ◌≤◌, ◌⊎◌, ap, arith, default_config, fields_of}
use Common.{get_or, get_or-append_right, inl, inr, IsCutInto, IsDraftOf, IsRefusedFor, length}
use Common.{length-append, List, Memory, Reached, record_fault, refl, Some, State, strip-≤}
use Common.{strip_bom, sym, TextErr, trace_fault}
use Rattle.std.proofs.Common.{Bor}
use Rattle.csv.proofs.ReadFacts.{rows-end, rows-more}
use Rattle.cert_check.proofs.Cut.{rows-few}
use Rattle.qss_trace.proofs.Cutting.{records-few, rest-of}
use Rattle.qss_trace.proofs.Ended.{err-map}
use Rattle.qss_trace.proofs.Keeping.{fault-is}
use Rattle.qss_trace.proofs.Taken.{err-as}
use Rattle.csv.specs.declared.parser.State.TheVariants as st
use Rattle.qss_trace.proofs.trace_parser.parse_trace_text.Goals as goal

-- the last of the records of few bytes has few fields
last-few : (bytes : List ℕ) (seen : List (List (List ℕ))) (fields : List (List ℕ)) (s : State) (ys : List ℕ) → length bytes ≤ 2 ^ 24
    → Reached default_config st.StartRecord (strip_bom bytes) (seen ++ fields ∷ []) s ys → length fields ≤ 2 ^ 30
last-few bytes seen fields s ys short r =
    let rows = seen ++ fields ∷ [] in
    let few = rows-few default_config st.StartRecord s (strip_bom bytes) ys rows (2 ^ 30) (omega (arith, strip-≤ bytes, short)) r (length seen) [] (omega (arith, length-append seen (fields ∷ []))) in
    let none : length seen - length seen ≡ 0 = omega arith in
    let at : get_or rows (length seen) [] ≡ fields = get_or-append_right seen (fields ∷ []) (length seen) (length seen) [] refl (omega arith) ∙ ap (λ k. get_or (fields ∷ []) k []) none in
    omega (arith, ap length at, few)

-- what a rejected record states about the text
told : (bytes : List ℕ) (n m taken : ℕ) (seen : List (List (List ℕ))) (fields : List (List ℕ)) (e : TextErr) (more : List (List (List ℕ))) → m ≡ n → taken ≡ length seen
    → IsCutInto bytes ((seen ++ fields ∷ []) ++ more) → ((why : TextErr) → record_fault m (length seen) fields ≡ Some why → trace_fault m ((seen ++ fields ∷ []) ++ more) ≡ Some why)
    → (e ≡ Memory) ⊎ (record_fault m taken fields ≡ Some e) → IsRefusedFor n bytes e
told bytes n m taken seen fields e more same at cut is (inl memory) = inl memory
told bytes n m taken seen fields e more same at cut is (inr bad) =
    inr (
      (seen ++ fields ∷ []) ++ more,
      cut,
      ap (λ k. trace_fault k ((seen ++ fields ∷ []) ++ more)) (sym same) ∙ is e (ap (λ k. record_fault m k fields) (sym at) ∙ bad),
    )

pub loop-record-init : goal.loop-record-init
unfolding Reached
loop-record-init c =
    let fr = c.from_reader-reader.ensures in
    let f = c.flexible.ensures in
    let e = c.has_headers.ensures in
    let start = c.into_iter-record-iterator.ensures.into_iter_gives ∙ refl in
    let rdr = c.byte_records-record-items.ensures.rdr in
    let left = c.byte_records-record-items.ensures.left in
    rw (start, rdr) (
      rw (f, e) at fr.trim ∙ c.new.ensures.trim,
      inr (inr (rw (f, e) at fr.has_headers, fr.headers)),
      left,
      rw (f, e) at fr.config ∙ c.new.ensures.config,
      strip_bom c.args.bytes.now,
      [],
      fr.source,
      (sym fr.state, refl),
      rw f at fr.flexible,
      c.empty_trace_draft-draft.ensures.size,
      c.empty_trace_draft-draft.ensures.draft,
    )

pub take_trace_record-requires-clause-count_limit : goal.take_trace_record-requires-clause-count_limit
take_trace_record-requires-clause-count_limit c =
    let inv = c.loop-record.invariant in
    omega (arith, inv.10.taken_is, records-few c.args.bytes.now inv.5 c.loop-record.record-iterator.rdr.now.state inv.4 inv.7, c.requires.short)

pub take_trace_record-requires-clause-fields : goal.take_trace_record-requires-clause-fields
take_trace_record-requires-clause-fields c =
    let inv = c.loop-record.invariant in
    let s = rw (c.in-Some.is, c.in-Ok.is) at ((c.next.ensures.steps inv.2 inv.0).0 inv.1) in
    let m = rows-more (λ (s : Bor (List ℕ)). Some s.now) c.loop-record.record-iterator.rdr.now c.next.new.self.rdr.now (fields_of c.in-Ok.record) default_config st.StartRecord (strip_bom c.args.bytes.now) inv.4 inv.5 inv.3 inv.6 inv.7 s.0 in
    last-few c.args.bytes.now inv.5 (fields_of c.in-Ok.record) c.next.new.self.rdr.now.state m.0 c.requires.short m.2

pub returns-in_err-take_trace_record-in-Ok-clause-refused : goal.returns-in_err-take_trace_record-in-Ok-clause-refused
returns-in_err-take_trace_record-in-Ok-clause-refused c =
    let inv = c.loop-record.invariant in
    let d = c.loop-record.draft in
    let is = inv.10 in
    let s = rw (c.in-Some.is, c.in-Ok.is) at ((c.next.ensures.steps inv.2 inv.0).0 inv.1) in
    let m = rows-more (λ (s : Bor (List ℕ)). Some s.now) c.loop-record.record-iterator.rdr.now c.next.new.self.rdr.now (fields_of c.in-Ok.record) default_config st.StartRecord (strip_bom c.args.bytes.now) inv.4 inv.5 inv.3 inv.6 inv.7 s.0 in
    let rest = rest-of c.args.bytes.now (inv.5 ++ fields_of c.in-Ok.record ∷ []) c.next.new.self.rdr.now.state m.0 m.2 in
    err-as c.from_residual.result c.in_err-take_trace_record-in-Ok.field-0.0 (λ why. IsRefusedFor c.args.n c.args.bytes.now why) c.from_residual.ensures.1 (
    told c.args.bytes.now c.args.n d.n d.taken inv.5 (fields_of c.in-Ok.record) c.in_err-take_trace_record-in-Ok.field-0.0 rest.0 inv.9 is.taken_is rest.1
    (λ why bad. fault-is d.n inv.5 (fields_of c.in-Ok.record) why d.scale d.refine d.q.items d.states.items d.levels.items is.keeps bad rest.0)
    c.in_err-take_trace_record-in-Ok.ensures.refused
    )

pub loop-record-preserved : goal.loop-record-preserved
loop-record-preserved c =
    let inv = c.loop-record.invariant in
    let s = rw (c.in-Some.is, c.in-Ok.is) at ((c.next.ensures.steps inv.2 inv.0).0 inv.1) in
    let flexible = rw (c.in-Some.is, c.in-Ok.is) at ((c.next.ensures.steps inv.2 inv.0).3) in
    let m = rows-more (λ (s : Bor (List ℕ)). Some s.now) c.loop-record.record-iterator.rdr.now c.next.new.self.rdr.now (fields_of c.in-Ok.record) default_config st.StartRecord (strip_bom c.args.bytes.now) inv.4 inv.5 inv.3 inv.6 inv.7 s.0 in
    (s.0.3 ∙ inv.0, inl s.1, s.2, s.0.2 ∙ inv.3, m.0, inv.5 ++ fields_of c.in-Ok.record ∷ [], m.1, m.2, flexible ∙ inv.8, c.in_ok-take_trace_record-in-Ok.ensures.size ∙ inv.9, c.in_ok-take_trace_record-in-Ok.ensures.takes inv.5 inv.10)

pub finish_trace_draft-requires-clause-count_limit : goal.finish_trace_draft-requires-clause-count_limit
finish_trace_draft-requires-clause-count_limit c =
    let inv = c.loop-record.invariant in
    omega (arith, inv.10.taken_is, records-few c.args.bytes.now inv.5 c.loop-record.record-iterator.rdr.now.state inv.4 inv.7, c.requires.short)

pub returns-clause-refused : goal.returns-clause-refused
returns-clause-refused c =
    let inv = c.loop-record.invariant in
    let d = c.loop-record.draft in
    let s = rw c.in-None.is at ((c.next.ensures.steps inv.2 inv.0).0 inv.1) in
    let cut : IsCutInto c.args.bytes.now inv.5 = (c.loop-record.record-iterator.rdr.now.state, inv.4, inv.7, rows-end (λ (s : Bor (List ℕ)). Some s.now) c.loop-record.record-iterator.rdr.now c.next.new.self.rdr.now [] default_config inv.4 inv.3 inv.6 s) in
    err-map c.finish_trace_draft.result (λ why. (seen : List (List (List ℕ))) → IsDraftOf seen d → trace_fault d.n seen ≡ Some why) (λ why. IsRefusedFor c.args.n c.args.bytes.now why)
    (λ why h. inr (inv.5, cut, ap (λ n. trace_fault n inv.5) (sym inv.9) ∙ h inv.5 inv.10)) c.finish_trace_draft.ensures.refused
