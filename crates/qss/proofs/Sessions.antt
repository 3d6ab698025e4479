-- The call that an observer sees of a run of the program computes its specification.
use Rattle.std.proofs.Common.{◌≡◌, ◌≢◌, ◌⊎◌, ◌<◌, ◌≤◌, Bool, true, ℕ, List, [], ◌++◌, refl, sym, ap}
use Rattle.std.proofs.Common.{◌∙◌, subst, ◌∷◌, inl, inr, None, Some, append-nil, append_assoc}
use Rattle.std.proofs.Common.{codes, arith, false, Result, Ok, Err, is_err, OnOk}
use Rattle.std.specs.declared.option.Option.{Option}
use Rattle.std.specs.Io.KnownBytes.{Appends}
use Rattle.mu_io.specs.FaultCounts.{HasOneMoreFault}
use Rattle.mu_io.specs.Readings.{Reading}
use Rattle.mu_io.specs.Sinks.{AppendsPrefix}
use Rattle.qss_cli.specs.Commands.{Command}
use Rattle.qss_top.specs.MachineAnswers.{Answer, IsMessageText}
use Rattle.qss_top.specs.ReadAnswers.{DeterminesAnswer}
use Rattle.qss_top.specs.Calls.{IsTrueToReads, Call, ComputesSpecification}
use Rattle.qss_top.specs.WrittenTexts.{IsCutText, IsPrefix, IsUsageReported, IsLineWritten}
use Rattle.qss_top.specs.Statuses.{leaves_out}
use Rattle.qss_top.specs.declared.status.Status.{Status}
use Rattle.qss_top.specs.Sessions.{IsAccepted, IsSession, seen}
use Rattle.qss.specs.FinalStatuses.{IsFinalStatus, line_of}
use Rattle.qss_top.specs.declared.status.Status.TheVariants as ends

-- what holds for a success, if the result is no error
pub if_ok : {A E : Type 0} (res : Result A E) (P : Type 0) → is_err res ≡ false → OnOk res P → P
if_ok (Ok a) P e h = h
if_ok (Err x) P e h = absurd (cc e)

-- a count that was incremented is not 0
pub is_counted : (before now : ℕ) → HasOneMoreFault before now → 0 < now
is_counted before now e = omega arith

-- the final status is `WriteFault` only if a write to standard output failed
pub write_failed : (r final : Status) (own before now : ℕ) → IsFinalStatus r final own before now
    → (r ≡ ends.WriteFault → 0 < before) → before ≤ now → final ≡ ends.WriteFault → 0 < now
write_failed r final own before now (inl (e, which)) failed later w =
    let counted : 0 < before = failed (sym e ∙ w) in omega arith
write_failed r final own before now (inr (inl (e, ok, counted))) failed later w =
    is_counted before now counted
write_failed r final own before now (inr (inr (e, counted, f, m))) failed later w =
    absurd (cc (e, w))

append_none : (xs ys : List ℕ) → xs ++ ys ≡ [] → xs ≡ []
append_none [] ys e = refl
append_none (x ∷ xs) ys e = absurd (cc e)

-- a prefix of no bytes is empty
pub prefix_of_none : (xs whole : List ℕ) → whole ≡ [] → IsPrefix xs whole → xs ≡ []
prefix_of_none xs whole e (rest, parts) = append_none xs rest (parts ∙ e)

pub prefix_of_prefix : (xs ys zs : List ℕ) → IsPrefix xs ys → IsPrefix ys zs → IsPrefix xs zs
prefix_of_prefix xs ys zs (r, e) (q, f) =
    (r ++ q, sym (append_assoc xs r q) ∙ ap (λ (s : List ℕ). s ++ q) e ∙ f)

-- `Ok` and `Overflow` are not `WriteFault`
pub not_turned : (r : Status) → (r ≡ ends.Ok) ⊎ (r ≡ ends.Overflow) → r ≢ ends.WriteFault
not_turned r (inl o) f = cc (o, f)
not_turned r (inr o) f = cc (o, f)

-- ---- from the answer of one status to that of another

module _ (command : Command) (reads : List Reading) where
  by_answer : (IsSuch Others : Answer → Type 0)
      → ((answer : Answer) → IsSuch answer → Others answer)
      → DeterminesAnswer command IsSuch [] reads → DeterminesAnswer command Others [] reads
  by_answer IsSuch Others then d = record {
    names = d.names;
    contents = d.contents;
    answer = d.answer;
    specified = d.specified;
    read = d.read;
    such = then d.answer d.such;
  }

  abbrev IsWhole : Status → (text line : List ℕ) → Answer → Type 0
  IsWhole status text line answer = (status ≡ answer.status) × (text ≡ answer.out)
      × IsMessageText answer.line line

  -- a prefix of an answer's text
  cut_answer : (status : Status) (text line cut : List ℕ) → IsPrefix cut text
      → DeterminesAnswer command (IsWhole status text line) [] reads
      → DeterminesAnswer command (λ answer. IsPrefix cut answer.out) [] reads
  cut_answer status text line cut part = by_answer (IsWhole status text line)
      (λ answer. IsPrefix cut answer.out)
      (λ answer such. subst (λ (out : List ℕ). IsPrefix cut out) such.1 part)

  -- a prefix of a prefix
  cut_prefix : (text cut : List ℕ) → IsPrefix cut text
      → DeterminesAnswer command (λ answer. IsPrefix text answer.out) [] reads
      → DeterminesAnswer command (λ answer. IsPrefix cut answer.out) [] reads
  cut_prefix text cut part = by_answer (λ answer. IsPrefix text answer.out)
      (λ answer. IsPrefix cut answer.out)
      (λ answer such. prefix_of_prefix cut text answer.out part such)

  -- the text of a run that overflows
  whole_text : (text line : List ℕ)
      → DeterminesAnswer command (IsWhole ends.Overflow text line) [] reads
      → DeterminesAnswer command (IsCutText text) [] reads
  whole_text text line = by_answer (IsWhole ends.Overflow text line) (IsCutText text)
      (λ answer such. inr (sym such.0, such.1))

abbrev fault_line : List ℕ
fault_line = codes "write fault\n"

abbrev memory_line : List ℕ
memory_line = codes "out of memory\n"

-- invalid arguments are reported at status 2 or 8 only
usage_only : (s : Status) (line : List ℕ) → s ≢ ends.Usage → s ≢ ends.Memory
    → IsUsageReported s line → ⊥
usage_only s line u m (inl (e, f)) = u e
usage_only s line u m (inr (e, f)) = m e

module _ (text line cut : List ℕ) (reads : List Reading) where
  -- the flush of standard output failed after `Ok` or `Overflow`
  to_write_fault : (found : Option Command) (r : Status) → (r ≡ ends.Ok) ⊎ (r ≡ ends.Overflow)
      → IsPrefix cut text → ComputesSpecification found (seen r text line reads)
      → ComputesSpecification found (seen ends.WriteFault cut fault_line reads)
  to_write_fault None r (inl e) part h =
      absurd (usage_only r line (λ u. cc (e, u)) (λ m. cc (e, m)) h.2)
  to_write_fault None r (inr e) part h =
      absurd (usage_only r line (λ u. cc (e, u)) (λ m. cc (e, m)) h.2)
  to_write_fault (Some command) r (inl e) part h =
      let h' = subst (λ (s : Status). ComputesSpecification (Some command) (seen s text line reads))
      e h in
      (refl, cut_answer command reads ends.Ok text line cut part h')
  to_write_fault (Some command) r (inr e) part h =
      let h' = subst (λ (s : Status). ComputesSpecification (Some command) (seen s text line reads))
      e h in
      (refl, cut_answer command reads ends.Overflow text line cut part h')

  -- a write to standard output failed before the flush
  still_write_fault : (found : Option Command) → IsPrefix cut text
      → ComputesSpecification found (seen ends.WriteFault text line reads)
      → ComputesSpecification found (seen ends.WriteFault cut fault_line reads)
  still_write_fault None part h =
      absurd (usage_only ends.WriteFault line (λ u. cc u) (λ m. cc m) h.2)
  still_write_fault (Some command) part h = (refl, cut_prefix command reads text cut part h.1)

  still_memory : (found : Option Command)
      → ComputesSpecification found (seen ends.Memory text line reads)
      → ComputesSpecification found (seen ends.Memory text memory_line reads)
  still_memory None h = (h.0, h.1, inr (refl, refl))
  still_memory (Some command) h = (refl, h.1)

  -- an allocation for the line failed, and nothing was written
  empty_memory : (found : Option Command) (r : Status) → text ≡ []
      → ComputesSpecification found (seen r text line reads)
      → ComputesSpecification found (seen ends.Memory text memory_line reads)
  empty_memory None r none h = (h.0, h.1, inr (refl, refl))
  empty_memory (Some command) r none h = (refl, inl none)

  -- an allocation for the line of an overflow failed
  overflow_memory : (found : Option Command)
      → ComputesSpecification found (seen ends.Overflow text line reads)
      → ComputesSpecification found (seen ends.Memory text memory_line reads)
  overflow_memory None h =
      absurd (usage_only ends.Overflow line (λ u. cc u) (λ m. cc m) h.2)
  overflow_memory (Some command) h = (refl, inr (whole_text command reads text line h))

-- ---- the call

module _ (found : Option Command) (goes : Bool) (text line : List ℕ) (reads : List Reading)
    (own gone told : List ℕ) (own_faults out_faults err_faults : ℕ) where
  -- the session at this status, if the cause of a write fault is known
  abbrev Seen : Status → Type 0
  Seen final = (final ≡ ends.WriteFault → 0 < out_faults)
      → IsSession found (seen final gone told reads) out_faults err_faults

  -- the session for a text and a line
  whole : (final : Status) (shown : List ℕ)
      → ComputesSpecification found (seen final gone shown reads)
      → IsAccepted shown told err_faults → Seen final
  whole final shown computes accepted failed = record {
    text = gone;
    line = shown;
    computes = computes;
    text_accepted = inl refl;
    line_accepted = accepted;
    write_failed = failed;
  }

  in_memory : ComputesSpecification found (seen ends.Memory text line reads) → IsPrefix gone text
      → (gone ≡ text) ⊎ (0 < out_faults) → IsAccepted memory_line told err_faults
      → Seen ends.Memory
  in_memory computes part passed accepted failed = record {
    text = text;
    line = memory_line;
    computes = still_memory text line gone reads found computes;
    text_accepted = by passed;
    line_accepted = accepted;
    write_failed = failed;
  }
    where
      by : (gone ≡ text) ⊎ (0 < out_faults) → (gone ≡ text)
          ⊎ ((ends.Memory ≡ ends.Memory) × IsAccepted text gone out_faults)
      by (inl e) = inl e
      by (inr counted) = inr (refl, inr (part, counted))

  module _ (r : Status) (left : leaves_out goes r ≡ true → text ≡ [])
      (own_line : (r ≢ ends.WriteFault) → (own ≡ line) ⊎ (0 < own_faults))
      (computes : ComputesSpecification found (seen r text line reads)) where
    -- the status that was returned is the final one, and an allocation for the line did not fail
    kept_line : own_faults ≡ 0 → r ≢ ends.WriteFault → own ≡ line
    kept_line none other = by (own_line other)
      where
        by : (own ≡ line) ⊎ (0 < own_faults) → own ≡ line
        by (inl e) = e
        by (inr counted) = absurd (omega arith)

    at_text : (s : Status) → s ≡ r → gone ≡ text → own ≡ line
        → ComputesSpecification found (seen s gone own reads)
    at_text s e same shown =
        subst (λ (s : Status). ComputesSpecification found (seen s gone own reads)) (sym e)
        (subst (λ (l : List ℕ). ComputesSpecification found (seen r gone l reads)) (sym shown)
        (subst (λ (t : List ℕ). ComputesSpecification found (seen r t line reads)) (sym same)
        computes))

    at : (s : Status) → s ≡ r → ComputesSpecification found (seen s text line reads)
    at s e = subst (λ (s : Status). ComputesSpecification found (seen s text line reads)) (sym e)
        computes

    nothing : leaves_out goes r ≡ true → IsPrefix gone text → gone ≡ text
    nothing leaves part =
        prefix_of_none gone text (left leaves) part ∙ sym (left leaves)

    module _ (part : IsPrefix gone text) where
      -- nothing is written to standard output at the final status
      quiet : (s : Status) → s ≡ r → leaves_out goes s ≡ true → s ≢ ends.WriteFault
          → own_faults ≡ 0 → IsAccepted own told err_faults → Seen s
      quiet s e leaves other none accepted = whole s own
          (at_text s e (nothing (ap (leaves_out goes) (sym e) ∙ leaves) part)
          (kept_line none (λ f. other (e ∙ f)))) accepted

      full : (s : Status) → s ≡ r → s ≢ ends.WriteFault → gone ≡ text
          → own_faults ≡ 0 → IsAccepted own told err_faults → Seen s
      full s e other same none accepted = whole s own
          (at_text s e same (kept_line none (λ f. other (e ∙ f)))) accepted

    -- the final status is the returned one
    module _ (part : IsPrefix gone text)
        (passed : (r ≡ ends.Ok) ⊎ (r ≡ ends.Overflow) → gone ≡ text)
        (passed_or_failed : r ≢ ends.WriteFault → (gone ≡ text) ⊎ (0 < out_faults)) where
      kept : (s : Status) → s ≡ r
          → (own_faults ≡ 0) ⊎ ((s ≡ ends.WriteFault) ⊎ (s ≡ ends.Memory))
          → IsAccepted (line_of s own) told err_faults → Seen s
      kept ends.WriteFault e which accepted = whole ends.WriteFault fault_line
          (still_write_fault text line gone reads found part (at ends.WriteFault e)) accepted
      kept ends.Memory e which accepted = in_memory (at ends.Memory e) part
          (passed_or_failed (λ f. cc (e, f))) accepted
      kept ends.Ok e which accepted = full part ends.Ok e (λ f. cc f)
          (passed (inl (sym e))) (only which) accepted
        where
          only : (own_faults ≡ 0) ⊎ ((ends.Ok ≡ ends.WriteFault) ⊎ (ends.Ok ≡ ends.Memory))
              → own_faults ≡ 0
          only (inl n) = n
          only (inr (inl f)) = absurd (cc f)
          only (inr (inr f)) = absurd (cc f)
      kept ends.Overflow e which accepted = full part ends.Overflow e (λ f. cc f)
          (passed (inr (sym e))) (only which) accepted
        where
          only : (own_faults ≡ 0)
              ⊎ ((ends.Overflow ≡ ends.WriteFault) ⊎ (ends.Overflow ≡ ends.Memory))
              → own_faults ≡ 0
          only (inl n) = n
          only (inr (inl f)) = absurd (cc f)
          only (inr (inr f)) = absurd (cc f)
      kept ends.Rejected e which accepted = quiet part ends.Rejected e refl (λ f. cc f)
          (only which) accepted
        where
          only : (own_faults ≡ 0)
              ⊎ ((ends.Rejected ≡ ends.WriteFault) ⊎ (ends.Rejected ≡ ends.Memory))
              → own_faults ≡ 0
          only (inl n) = n
          only (inr (inl f)) = absurd (cc f)
          only (inr (inr f)) = absurd (cc f)
      kept ends.Usage e which accepted = quiet part ends.Usage e refl (λ f. cc f)
          (only which) accepted
        where
          only : (own_faults ≡ 0)
              ⊎ ((ends.Usage ≡ ends.WriteFault) ⊎ (ends.Usage ≡ ends.Memory))
              → own_faults ≡ 0
          only (inl n) = n
          only (inr (inl f)) = absurd (cc f)
          only (inr (inr f)) = absurd (cc f)
      kept ends.ReadFault e which accepted = quiet part ends.ReadFault e refl (λ f. cc f)
          (only which) accepted
        where
          only : (own_faults ≡ 0)
              ⊎ ((ends.ReadFault ≡ ends.WriteFault) ⊎ (ends.ReadFault ≡ ends.Memory))
              → own_faults ≡ 0
          only (inl n) = n
          only (inr (inl f)) = absurd (cc f)
          only (inr (inr f)) = absurd (cc f)
      kept ends.ModelRefused e which accepted = quiet part ends.ModelRefused e refl (λ f. cc f)
          (only which) accepted
        where
          only : (own_faults ≡ 0)
              ⊎ ((ends.ModelRefused ≡ ends.WriteFault) ⊎ (ends.ModelRefused ≡ ends.Memory))
              → own_faults ≡ 0
          only (inl n) = n
          only (inr (inl f)) = absurd (cc f)
          only (inr (inr f)) = absurd (cc f)
      kept ends.CertRefused e which accepted = quiet part ends.CertRefused e refl (λ f. cc f)
          (only which) accepted
        where
          only : (own_faults ≡ 0)
              ⊎ ((ends.CertRefused ≡ ends.WriteFault) ⊎ (ends.CertRefused ≡ ends.Memory))
              → own_faults ≡ 0
          only (inl n) = n
          only (inr (inl f)) = absurd (cc f)
          only (inr (inr f)) = absurd (cc f)

    -- an allocation for the line failed
    module _ (part : IsPrefix gone text) (none_at_ok : r ≡ ends.Ok → own_faults ≡ 0)
        (passed : (r ≡ ends.Ok) ⊎ (r ≡ ends.Overflow) → gone ≡ text) (counted : 0 < own_faults)
      where
        left_empty : leaves_out goes r ≡ true
            → ComputesSpecification found (seen ends.Memory gone memory_line reads)
        left_empty leaves =
            let none = prefix_of_none gone text (left leaves) part in
            empty_memory gone line gone reads found r none
            (subst (λ (t : List ℕ). ComputesSpecification found (seen r t line reads))
            (sym (nothing leaves part)) computes)

        turned_memory : (s : Status) → s ≡ r → s ≢ ends.WriteFault → s ≢ ends.Memory
            → ComputesSpecification found (seen ends.Memory gone memory_line reads)
        turned_memory ends.WriteFault e w m = absurd (w refl)
        turned_memory ends.Memory e w m = absurd (m refl)
        turned_memory ends.Ok e w m =
            let z = none_at_ok (sym e) in absurd (omega arith)
        turned_memory ends.Overflow e w m =
            overflow_memory gone line gone reads found
            (subst (λ (t : List ℕ). ComputesSpecification found
            (seen ends.Overflow t line reads)) (sym (passed (inr (sym e)))) (at ends.Overflow e))
        turned_memory ends.Rejected e w m = left_empty (ap (leaves_out goes) (sym e))
        turned_memory ends.Usage e w m = left_empty (ap (leaves_out goes) (sym e))
        turned_memory ends.ReadFault e w m = left_empty (ap (leaves_out goes) (sym e))
        turned_memory ends.ModelRefused e w m = left_empty (ap (leaves_out goes) (sym e))
        turned_memory ends.CertRefused e w m = left_empty (ap (leaves_out goes) (sym e))

    pub session : (final : Status) (out_before : ℕ)
        → IsFinalStatus r final own_faults out_before out_faults → IsPrefix gone text
        → (r ≡ ends.Ok → own_faults ≡ 0)
        → ((r ≡ ends.Ok) ⊎ (r ≡ ends.Overflow) → final ≢ ends.WriteFault → gone ≡ text)
        → (r ≢ ends.WriteFault → (gone ≡ text) ⊎ (0 < out_faults))
        → IsAccepted (line_of final own) told err_faults → Seen final
    session final out_before (inl (e, which)) part none_at_ok passed failed accepted =
        kept part (λ ok. passed ok (λ f. not_turned r ok (sym e ∙ f))) failed final e
        (moved which) accepted
      where
        moved : (own_faults ≡ 0) ⊎ ((r ≡ ends.WriteFault) ⊎ (r ≡ ends.Memory))
            → (own_faults ≡ 0) ⊎ ((final ≡ ends.WriteFault) ⊎ (final ≡ ends.Memory))
        moved (inl n) = inl n
        moved (inr (inl f)) = inr (inl (e ∙ f))
        moved (inr (inr f)) = inr (inr (e ∙ f))
    session final out_before (inr (inl (e, ok, counted))) part none_at_ok passed failed accepted =
        subst (λ (s : Status). Seen s) (sym e) (whole ends.WriteFault fault_line
        (to_write_fault text line gone reads found r ok part computes)
        (subst (λ (s : Status). IsAccepted (line_of s own) told err_faults) e accepted))
    session final out_before (inr (inr (e, counted, w, m))) part none_at_ok passed failed accepted =
        subst (λ (s : Status). Seen s) (sym e) (whole ends.Memory memory_line
        (turned_memory part none_at_ok (λ ok. passed ok (λ f. cc (e, f))) counted r refl w m)
        (subst (λ (s : Status). IsAccepted (line_of s own) told err_faults) e accepted))

-- ---- the call of `qss_main`, and then `finish`

module _ (found : Option Command) (goes : Bool) (r final : Status) (t0 h0 t1 h1 t2 : List ℕ)
    (l0 l1 told : List ℕ) (f0 f1 before now err_faults : ℕ) (from to : List Reading)
    (none : t0 ≡ []) (empty : h0 ≡ []) (unwritten : l0 ≡ []) (no_fault : f0 ≡ 0)
    (unread : from ≡ []) where
  before_empty : t0 ++ h0 ≡ []
  before_empty = ap (λ (t : List ℕ). t ++ h0) none ∙ empty

  -- the line that `qss_main` wrote, unless an allocation failed
  own_line : (line : List ℕ) → IsLineWritten line (Some l0) (Some l1) f0 f1
      → (l1 ≡ line) ⊎ (0 < f1)
  own_line line (inl e) = inl (e ∙ ap (λ (l : List ℕ). l ++ line) unwritten)
  own_line line (inr (part, counted)) = inr (is_counted f0 f1 counted)

  passed_prefix : AppendsPrefix (Some t1) (Some t2) h1 → IsPrefix t2 (t1 ++ h1)
  passed_prefix p = (
    p.rest,
    ap (λ (t : List ℕ). t ++ p.rest) p.appended
        ∙ append_assoc t1 p.front p.rest ∙ ap (λ (h : List ℕ). t1 ++ h) p.parts,
  )

  or_counted : Appends (Some t1) (Some t2) h1 ⊎ HasOneMoreFault before now
      → (t2 ≡ t1 ++ h1) ⊎ (0 < now)
  or_counted (inl e) = inl e
  or_counted (inr counted) = inr (is_counted before now counted)

  pub session_of_run : IsTrueToReads found r (Some (t0 ++ h0)) (Some (t1 ++ h1)) (Some l0) (Some l1)
      f0 f1 from to
      → (leaves_out goes r ≡ true → (t1 ≡ t0) × (h1 ≡ h0)) → (r ≡ ends.Ok → f1 ≡ f0)
      → IsFinalStatus r final f1 before now → AppendsPrefix (Some t1) (Some t2) h1
      → ((r ≡ ends.Ok) ⊎ (r ≡ ends.Overflow) → final ≢ ends.WriteFault
      → Appends (Some t1) (Some t2) h1)
      → (r ≢ ends.WriteFault → Appends (Some t1) (Some t2) h1 ⊎ HasOneMoreFault before now)
      → IsAccepted (line_of final l1) told err_faults
      → (r ≡ ends.WriteFault → 0 < before) → before ≤ now
      → IsSession found (seen final t2 told to) now err_faults
  session_of_run reads left at_ok turned prefix passed failed accepted counted later =
      let call : Call = reads.call in
      let text : t1 ++ h1 ≡ call.text = reads.observed.text
      ∙ ap (λ (xs : List ℕ). xs ++ call.text) before_empty in
      let more : to ≡ call.reads = reads.observed.reads
      ∙ ap (λ (rs : List Reading). call.reads ++ rs) unread ∙ append-nil call.reads in
      let computes : ComputesSpecification found (seen r (t1 ++ h1) call.line to) =
      subst (λ (rs : List Reading). ComputesSpecification found (seen r (t1 ++ h1) call.line rs))
      (sym more)
      (subst (λ (t : List ℕ). ComputesSpecification found (seen r t call.line call.reads))
      (sym text)
      (subst (λ (s : Status). ComputesSpecification found (seen s call.text call.line call.reads))
      (sym reads.observed.returned) reads.computes)) in
      session found goes (t1 ++ h1) call.line to l1 t2 told f1 now err_faults r
      (λ leaves. ap (λ (t : List ℕ). t ++ h1) (left leaves).0
      ∙ ap (λ (h : List ℕ). t0 ++ h) (left leaves).1 ∙ before_empty)
      (λ _. own_line call.line reads.observed.line) computes final before turned
      (passed_prefix prefix) (λ ok. at_ok ok ∙ no_fault) passed (λ other. or_counted (failed other))
      accepted (write_failed r final f1 before now turned counted later)
