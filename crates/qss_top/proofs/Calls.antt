-- The call that an observer sees computes its specification.
use Rattle.qss_top.proofs.Common
use Common.{[], ℕ, ◌++◌, ◌∙◌, ◌∷◌, ◌≡◌, ◌≢◌, ◌⊎◌, AddsReadings, Answer, Answers, AnswersFromReads}
use Common.{ap, Appends, Appends-nil, AreReadInOrder, ArgumentsAnswerFromReads, Bool, codes}
use Common.{Command, FailsAtFile, false, faulted, Files, files_of, inl, inr, is_defined}
use Common.{is_too_long, IsAnswerFromReads, IsMessageText, IsOutcome, IsOutOfMemoryPrefix, IsWhole}
use Common.{leaves_out, length, line_text, List, MayHaveContents, None, Option, Outcome, Reading}
use Common.{reading, refl, Some, Status, status_of, subst, sym, take, takes_memory, true}
use Common.{writes_as_it_goes}
use Rattle.qss_top.specs.Calls.{ComputesSpecification, IsTrueToReads}
use Rattle.qss_top.specs.CommandOutcomes.{IsReported}
use Rattle.qss_top.specs.ReadAnswers.{DeterminesAnswer}
use Rattle.qss_top.specs.WrittenTexts.{IsCutText, IsLineWritten, IsPrefix}
use Rattle.qss_top.proofs.OutcomeFacts.{defined_whole}
use Rattle.qss_top.proofs.ReadFacts.{stripped}
use Rattle.qss_top.proofs.TopFacts.{IsStatus, outcome_kinds, outcome_of, status_is}
use Rattle.qss_top.specs.declared.command_outcome.Outcome.TheVariants as outcome
use Rattle.qss_top.specs.declared.status.Status.TheVariants as ends

-- contents are contents of which these bytes were read
read_of_itself : (stopped : Bool) (contents : List (List ℕ))
    → MayHaveContents stopped contents contents
read_of_itself stopped [] = tt
read_of_itself stopped (bytes ∷ contents) = inl (refl, read_of_itself stopped contents)

module _ {K : Type 0} (written : K → Option (List ℕ)) (out_old out_new : K) (line : List ℕ)
    (err_old err_new : Option (List ℕ)) (err_before err_now : ℕ) (old new : List Reading)
    (on_err : IsLineWritten line err_old err_new err_before err_now) where
  abbrev IsTrue : Option Command → Status → Type 0
  IsTrue found status = IsTrueToReads found status (written out_old) (written out_new) err_old
      err_new err_before err_now old new

  -- the call with this text and these readings was observed
  seen : {found : Option Command} {status : Status} (text : List ℕ) (reads : List Reading)
      → Appends (written out_old) (written out_new) text → new ≡ reads ++ old
      → ComputesSpecification found
      (record { status = status; text = text; line = line; reads = reads })
      → (status ≡ ends.WriteFault → (command : Command) → found ≡ Some command
      → DeterminesAnswer command (λ answer. answer.out ≢ []) [] reads) → IsTrue found status
  seen {status = status} text reads appended more computes some_text = record {
    call = record { status = status; text = text; line = line; reads = reads };
    observed = record { returned = refl; text = appended; line = on_err; reads = more };
    computes = computes;
    some_text = some_text;
  }

  unwritten : out_new ≡ out_old → Appends (written out_old) (written out_new) []
  unwritten same = rw same (Appends-nil (written out_old))

  -- the arguments are not a valid command
  seen_none : (status : Status) (what : Outcome) → IsStatus status what
      → IsReported status what line → new ≡ old
      → (leaves_out false (status_of what) ≡ true → out_new ≡ out_old)
      → (what ≡ outcome.Usage) ⊎ (what ≡ outcome.Memory) → IsTrue None status
  seen_none status what is reported unread left (inl e) =
      let same = status_is status what is outcome.Usage e refl in
      let nothing = unwritten (left (ap (λ (w : Outcome). leaves_out false (status_of w)) e)) in
      rw same (seen [] [] nothing unread (refl, refl, inl (refl, rw (same, e) at reported))
      (λ d. absurd (cc d)))
  seen_none status what is reported unread left (inr e) =
      let same = status_is status what is outcome.Memory e refl in
      let nothing = unwritten (left (ap (λ (w : Outcome). leaves_out false (status_of w)) e)) in
      rw same (seen [] [] nothing unread (refl, refl, inr (refl, rw same at reported))
      (λ d. absurd (cc d)))

  module _ (command : Command) where
    -- a read failed
    seen_fault : IsReported ends.ReadFault outcome.ReadFault line → out_new ≡ out_old
        → FailsAtFile (files_of command) (Answers command) old new
        → IsTrue (Some command) ends.ReadFault
    seen_fault reported same f =
        let last = reading f.name f.bytes faulted in
        let (reads, more, whole) = stripped false false (λ e. e) old f.before
        (take (length f.contents) (files_of command)) f.contents [] f.whole in
        seen [] (last ∷ reads) (unwritten same)
        (f.fault ∙ ap (λ (rs : List Reading). last ∷ rs) more) (
          reported,
          refl,
          record {
            contents = f.contents;
            name = f.name;
            later = f.later;
            bytes = f.bytes;
            before = reads;
            named = f.named;
            whole = whole;
            fault = refl;
            needed = f.needed;
          },
        ) (λ d. absurd (cc d))

    -- the bytes that were read determine the answer
    module _ {what : Outcome} (a : IsAnswerFromReads (files_of command) (Answers command) what
        (written out_old) (written out_new) old new) where
      abbrev names : List (List ℕ)
      names = take (length a.contents) (files_of command)

      own : (reads : List Reading) × (new ≡ reads ++ old)
          × AreReadInOrder (is_too_long a.answer) names a.contents [] reads
      own = stripped a.stopped (is_too_long a.answer) a.rejects old new names a.contents [] a.read

      determined : (IsSuch : Answer → Type 0) → IsSuch a.answer
          → DeterminesAnswer command IsSuch [] own.0
      determined IsSuch such = record {
        names = names;
        contents = a.contents;
        answer = a.answer;
        specified = (refl, a.specified a.contents (read_of_itself a.stopped a.contents));
        read = own.2;
        such = such;
      }

      -- the outcome is this one
      outcome_at : (which : Outcome) → what ≡ which
          → IsOutcome a.answer which (written out_old) (written out_new)
      outcome_at which e = subst (λ (w : Outcome).
          IsOutcome a.answer w (written out_old) (written out_new)) e a.outcome

      -- the outcome has a specified status
      whole_at : is_defined (status_of what) ≡ true
          → IsWhole a.answer what (written out_old) (written out_new)
      whole_at is =
          defined_whole a.answer what (written out_old) (written out_new) is a.outcome

      -- an allocation failed
      seen_cut : line ≡ codes "out of memory\n"
          → IsOutOfMemoryPrefix (written out_old) (written out_new) a.answer
          → IsTrue (Some command) ends.Memory
      seen_cut reported (inl none) =
          seen [] own.0 none own.1 (reported, inl refl) (λ d. absurd (cc d))
      seen_cut reported (inr (inl stops)) = seen stops.lines own.0 stops.appended own.1 (
        reported,
        inr (determined (IsCutText stops.lines) (inl (record {
          rest = stops.rest;
          parts = stops.parts;
          ended = stops.ended;
          more = stops.more;
        }))),
      ) (λ d. absurd (cc d))
      seen_cut reported (inr (inr (over, all))) = seen a.answer.out own.0 all own.1
          (reported, inr (determined (IsCutText a.answer.out) (inr (over, refl))))
          (λ d. absurd (cc d))

      -- the status is specified
      seen_whole : (status : Status) → (DeterminesAnswer command (λ answer.
          (status ≡ answer.status) × (a.answer.out ≡ answer.out) × IsMessageText answer.line line)
          [] own.0 → ComputesSpecification (Some command)
          (record { status = status; text = a.answer.out; line = line; reads = own.0 }))
          → status ≢ ends.WriteFault → status ≡ status_of what → is_defined status ≡ true
          → line ≡ line_text what → IsTrue (Some command) status
      seen_whole status computes other same defined reported =
          let whole = whole_at (sym (ap is_defined same) ∙ defined) in
          seen a.answer.out own.0 whole.text own.1 (computes (determined (λ answer.
          (status ≡ answer.status) × (a.answer.out ≡ answer.out) × IsMessageText answer.line line)
          (same ∙ whole.status, refl, rw reported (whole.line)))) (λ d. absurd (other d))

      seen_same : what ≢ outcome.ReadFault → (status : Status) → status ≡ status_of what
          → IsReported status what line → IsTrue (Some command) status
      seen_same not_read ends.Ok same reported =
          let done = outcome_of what ends.Ok same (λ d. cc d) in
          seen_whole ends.Ok (λ d. d) (λ d. cc d) same refl (reported ∙ sym (ap line_text done))
      seen_same not_read ends.Rejected same reported =
          seen_whole ends.Rejected (λ d. d) (λ d. cc d) same refl reported
      seen_same not_read ends.Usage same reported =
          seen_whole ends.Usage (λ d. d) (λ d. cc d) same refl reported
      seen_same not_read ends.ReadFault same reported =
          absurd (not_read (outcome_of what ends.ReadFault same (λ d. cc d)))
      seen_same not_read ends.WriteFault same reported =
          let fault = outcome_of what ends.WriteFault same (λ d. cc d) in
          let stops = outcome_at outcome.WriteFault fault in
          let cut = stops.prefix in
          seen cut.front own.0 cut.appended own.1 (
            reported,
            determined
                (λ answer. IsPrefix cut.front answer.out) (cut.rest, cut.parts),
          )
          (λ d other e. let same : command ≡ other = cc e in
          subst (λ (c : Command). DeterminesAnswer c (λ answer. answer.out ≢ []) [] own.0) same
          (determined (λ answer. answer.out ≢ []) (stops.some_text)))
      seen_same not_read ends.ModelRefused same reported =
          seen_whole ends.ModelRefused (λ d. d) (λ d. cc d) same refl reported
      seen_same not_read ends.Overflow same reported =
          seen_whole ends.Overflow (λ d. d) (λ d. cc d) same refl reported
      seen_same not_read ends.CertRefused same reported =
          seen_whole ends.CertRefused (λ d. d) (λ d. cc d) same refl reported
      seen_same not_read ends.Memory same reported = seen_cut reported
          (outcome_at outcome.Memory (outcome_of what ends.Memory same (λ d. cc d)))

      -- the line of the outcome could not be allocated
      seen_unreported : (goes : Bool) → takes_memory what ≡ true
          → (leaves_out goes (status_of what) ≡ true → out_new ≡ out_old)
          → line ≡ codes "out of memory\n" → IsTrue (Some command) ends.Memory
      seen_unreported goes takes left reported = elim (outcome_kinds what) [
        | inl (same, plain) ↦ absurd (cc (takes, plain))
        | inr (other, inl over) ↦
            let whole = whole_at (ap is_defined over) in
            seen_cut reported (inr (inr (sym (whole.status) ∙ over, whole.text)))
        | inr (other, inr rejects) ↦ seen_cut reported (inl (unwritten (left (rejects goes))))
      ]

    -- the outcome is that of what was read
    seen_reads : {files : Option Files} → AddsReadings files old new → (status : Status)
        (what : Outcome) → IsStatus status what → IsReported status what line
        → (leaves_out (writes_as_it_goes (Some command)) (status_of what) ≡ true
        → out_new ≡ out_old) → AnswersFromReads (files_of command) (Answers command) what
        (written out_old) (written out_new) old new → IsTrue (Some command) status
    seen_reads adds status what is reported left (inl (e, none)) =
        let same = status_is status what is outcome.Memory e refl in
        rw same (seen [] adds.added none adds.parts (rw same at reported, inl refl)
        (λ d. absurd (cc d)))
    seen_reads adds status what is reported left (inr (inl (e, fails))) =
        let same = status_is status what is outcome.ReadFault e refl in
        rw same (seen_fault (rw same at reported) (left (ap (λ (w : Outcome).
        leaves_out (writes_as_it_goes (Some command)) (status_of w)) e)) fails)
    seen_reads adds status what (inl same) reported left (inr (inr (not_read, a))) =
        seen_same a not_read status same reported
    seen_reads adds status what (inr (same, takes)) reported left (inr (inr (not_read, a))) =
        rw same (seen_unreported a (writes_as_it_goes (Some command)) takes left
        (rw same at reported))

  -- the program computes its specification
  pub true_to_reads : (found : Option Command) {files : Option Files} → AddsReadings files old new
      → (status : Status) (what : Outcome) → IsStatus status what → IsReported status what line
      → (leaves_out (writes_as_it_goes found) (status_of what) ≡ true → out_new ≡ out_old)
      → (found ≡ None → (what ≡ outcome.Usage) ⊎ (what ≡ outcome.Memory))
      → ArgumentsAnswerFromReads found what (written out_old) (written out_new) old new
      → IsTrue found status
  true_to_reads None adds status what is reported left others unread =
      seen_none status what is reported unread left (others refl)
  true_to_reads (Some command) adds status what is reported left others reads =
      seen_reads command adds status what is reported left reads
