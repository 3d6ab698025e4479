-- A call on known files has the expected result: it computes its specification for what it reads.
use Rattle.qss_guarantees.proofs.Common
use Common.{[], ℕ, ◌++◌, ◌<◌, ◌∙◌, ◌∷◌, ◌≡◌, ◌≢◌, ◌≤◌, ◌⊎◌, All, Answer, answered, Answers, ap}
use Common.{append-nil, Appends, AreContents, AreReadInOrder, arith, Bool, Call, Command}
use Common.{CommandExpects, CommandLineExpects, ComputesSpecification, DeterminesAnswer}
use Common.{ExpectedReply, ExpectedResult, false, faulted, file_missing, file_of, Files, files_of}
use Common.{fully_read, inl, inr, is_defined, is_too_long, IsMessageText, IsReplyGiven, length}
use Common.{length-append, List, None, Option, Reading, reading, refl, refusal, Some, Status, subst}
use Common.{suc, sym, take, true, usage, zero}
use Rattle.std.proofs.Common.{length-take}
use Rattle.std.specs.Prelude.{Contains}
use Rattle.std.proofs.KnownBytes.{Appends-nil}
use Rattle.std.proofs.lemmas.List.{append_cancel_right}
use Rattle.std.proofs.lemmas.List.Elements.{All-head, All-tail}
use Rattle.mu_io.specs.Readings.{in_progress, IsOf, IsOfContents}
use Rattle.mu_io.specs.Sinks.{AppendsPrefix}
use Rattle.qss_top.specs.Calls.{IsTrueToReads}
use Rattle.qss_top.specs.Frames.{AddsReadings, CountsLastFault}
use Rattle.qss_top.specs.MachineAnswers.{quiet}
use Rattle.qss_top.specs.ReadAnswers.{FailsAtFile}
use Rattle.qss_top.specs.WrittenTexts.{IsOutOfMemoryPrefix, IsCutText, IsPrefix}
use Rattle.qss_guarantees.specs.Replies.{HasReply, IsReplyLine, IsLineOf, IsStatusReported}
use Rattle.qss_guarantees.specs.Replies.{SomeFaultCounted, text_of}
use Rattle.qss_guarantees.proofs.Continuations.{stable}
use Rattle.qss_guarantees.proofs.Sameness.{only_reply, reads_beyond}
use Rattle.qss_top.specs.declared.status.Status.TheVariants as ends

-- ---- lists of files

-- a name is in a list that begins with it
first_of : (name : List ℕ) (names : List (List ℕ)) → Contains (name ∷ names) name
first_of name names = (zero, omega arith, refl)

-- a name of the rest is in the list
later_of : (name other : List ℕ) (names : List (List ℕ)) → Contains names other
    → Contains (name ∷ names) other
later_of name other names (k, within, here) = (suc k, omega arith, here)

-- a name at a place is in the list
contains_here : (names later : List (List ℕ)) (name : List ℕ)
    → Contains (names ++ name ∷ later) name
contains_here [] later name = first_of name later
contains_here (other ∷ names) later name =
    later_of other name (names ++ name ∷ later) (contains_here names later name)

-- the name at a place is one of the first names, if there are more of them
contains_at : (before : List (List ℕ)) (n : ℕ) (names later : List (List ℕ)) (name : List ℕ)
    → names ≡ take (length before) names ++ name ∷ later → length before < n
    → Contains (take n names) name
contains_at before zero names later name is more = absurd (omega (arith, more))
contains_at [] (suc n) names later name is more =
    subst (λ (ns : List (List ℕ)). Contains (take (suc n) ns) name) (sym is)
    (first_of name (take n later))
contains_at (x ∷ before) (suc n) [] later name is more = absurd (cc is)
contains_at (x ∷ before) (suc n) (other ∷ names) later name is more =
    let same : other ∷ names ≡ other ∷ (take (length before) names ++ name ∷ later) = is in
    let rest : names ≡ take (length before) names ++ name ∷ later = cc same in
    later_of other name (take n names)
    (contains_at before n names later name rest (omega (arith, more)))

-- ---- the contents of the files that were read

-- what holds for all readings holds for the first ones
each_before : (P : Reading → Type 0) (stopped : Bool) (names contents : List (List ℕ))
    (old new : List Reading) → AreReadInOrder stopped names contents old new → All P new
    → All P old
each_before P stopped [] [] old new h each = subst (All P) h each
each_before P stopped [] (bytes ∷ contents) old new h each = absurd h
each_before P stopped (name ∷ names) [] old new h each = absurd h
each_before P stopped (name ∷ names) (bytes ∷ contents) old new (inl h) each =
    let r = reading name bytes fully_read in
    All-tail P r old (each_before P stopped names contents (r ∷ old) new h each)
each_before P stopped (name ∷ names) (bytes ∷ contents) old new (inr part) each =
    All-tail P (reading name bytes in_progress) old (subst (All P) part.3 each)

-- a file that was read up to its end has these bytes
fully_found : (name bytes : List ℕ) (found : Option (List ℕ))
    → IsOfContents (reading name bytes fully_read) found → found ≡ Some bytes
fully_found name bytes None is = absurd (cc (is.1))
fully_found name bytes (Some contents) is = ap Some (is.1 refl)

-- a file that was read in part has at least these bytes
partly_found : (name bytes : List ℕ) (found : Option (List ℕ))
    → IsOfContents (reading name bytes in_progress) found
    → (whole : List ℕ) × (found ≡ Some whole) × (length bytes ≤ length whole)
partly_found name bytes None is = absurd (cc (is.1))
partly_found name bytes (Some contents) is =
    let taken = sym (length-take (length bytes) contents) ∙ ap (λ (l : List ℕ). length l) is.0 in
    (contents, refl, omega (arith, taken))

-- the readings of the last file stopped, which continues the bytes that were read
record StopsEarly (files : Files) (stopped : Bool) (names contents : List (List ℕ)) : Type 0 where
  stops : stopped ≡ true
  before : List (List ℕ)
  bytes : List ℕ
  whole : List ℕ
  parts : contents ≡ before ++ bytes ∷ []
  longer : length bytes ≤ length whole
  found : AreContents files names (before ++ whole ∷ [])

module _ (files : Files) (stopped : Bool) where
  -- the bytes that were read are the contents of the files, or the last file is longer
  in_files : (names contents : List (List ℕ)) (old new : List Reading) → All (IsOf files) new
      → AreReadInOrder stopped names contents old new
      → AreContents files names contents ⊎ StopsEarly files stopped names contents
  in_files [] [] old new each h = inl tt
  in_files [] (bytes ∷ contents) old new each h = absurd h
  in_files (name ∷ names) [] old new each h = absurd h
  in_files (name ∷ names) (bytes ∷ contents) old new each (inl h) =
      let r = reading name bytes fully_read in
      let here = fully_found name bytes (file_of files name) (All-head (IsOf files) r old
      (each_before (IsOf files) stopped names contents (r ∷ old) new h each)) in
      elim (in_files names contents (r ∷ old) new each h) [
        | inl found ↦ inl (here, found)
        | inr s ↦ inr (record {
          stops = s.stops;
          before = bytes ∷ s.before;
          bytes = s.bytes;
          whole = s.whole;
          parts = ap (λ (cs : List (List ℕ)). bytes ∷ cs) s.parts;
          longer = s.longer;
          found = (here, s.found);
        })
      ]
  in_files (name ∷ names) (bytes ∷ contents) old new each (inr (stops, last, end, e)) =
      let r = reading name bytes in_progress in
      let part = partly_found name bytes (file_of files name)
      (All-head (IsOf files) r old (subst (All (IsOf files)) e each)) in inr (record {
        stops = stops;
        before = [];
        bytes = bytes;
        whole = part.0;
        parts = ap (λ (cs : List (List ℕ)). bytes ∷ cs) end;
        longer = part.2;
        found = (
          part.1,
          subst (λ (ns : List (List ℕ)). AreContents files ns []) (sym last) tt,
        );
      })

-- ---- the reply

-- a property of all answers is one of the reply
each_reply : (P : Answer → Type 0) → ((a : Answer) → P a) → (reply : ExpectedReply)
    → HasReply P reply
each_reply P all (answered answer) = all answer
each_reply P all file_missing = all (refusal ends.ReadFault quiet)

-- a read fault and out of memory state nothing about the answer
silent : (reply : ExpectedReply) (status : Status) (old new : Option (List ℕ))
    → is_defined status ≡ false → (status ≡ ends.ReadFault) ⊎ (status ≡ ends.Memory)
    → IsReplyGiven reply status old new
silent (answered answer) status old new e is = λ d. absurd (cc (e, d))
silent file_missing status old new e is = is

-- the status, the text and the line are those of the expected reply
pub record MeetsReply (reply : ExpectedReply) (status : Status) (old new : Option (List ℕ))
    (line : List ℕ) : Type 0 where
  pub replied : IsReplyGiven reply status old new
  pub prefix : HasReply (λ answer. AppendsPrefix old new answer.out) reply
  pub short : status ≡ ends.Memory → HasReply (IsOutOfMemoryPrefix old new) reply
  pub told : status ≢ ends.Ok → IsLineOf status reply line

-- the text is a prefix of the answer's
prefix_of : (old new : Option (List ℕ)) (text : List ℕ) (answer : Answer) → Appends old new text
    → IsPrefix text answer.out → AppendsPrefix old new answer.out
prefix_of old new text answer appended (rest, parts) =
    record { front = text; rest = rest; parts = parts; appended = appended }

-- the text is cut after a line, or is all of a run that overflows
cut_of : (old new : Option (List ℕ)) (text : List ℕ) (answer : Answer) → Appends old new text
    → IsCutText text answer → IsPrefix text answer.out × IsOutOfMemoryPrefix old new answer
cut_of old new text answer appended (inl cut) = (
  (cut.rest, cut.parts),
  inr (inl (record {
    lines = text;
    rest = cut.rest;
    parts = cut.parts;
    ended = cut.ended;
    more = cut.more;
    appended = appended;
  })),
)
cut_of old new text answer appended (inr (over, all)) = (
  ([], append-nil text ∙ all),
  inr (inr (over, subst (Appends old new) all appended)),
)

-- nothing was written
module _ (reply : ExpectedReply) (old new : Option (List ℕ)) (none : Appends old new []) where
  -- it is a prefix of the text of the reply
  no_prefix : HasReply (λ answer. AppendsPrefix old new answer.out) reply
  no_prefix = each_reply (λ answer. AppendsPrefix old new answer.out)
      (λ answer. prefix_of old new [] answer none (answer.out, refl)) reply

  -- it is what an allocation failure may leave
  uncut : HasReply (IsOutOfMemoryPrefix old new) reply
  uncut = each_reply (IsOutOfMemoryPrefix old new) (λ answer. inl none) reply

-- ---- a call for known files

-- a reading was added as the last one
last_name : (call old new earlier before : List Reading) (one other bytes more : List ℕ)
    → new ≡ call ++ old → call ≡ reading one bytes faulted ∷ before
    → new ≡ reading other more faulted ∷ earlier → one ≡ other
last_name call old new earlier before one other bytes more e f g =
    let both : reading one bytes faulted ∷ (before ++ old) ≡ reading other more faulted ∷ earlier =
    sym (ap (λ (rs : List Reading). rs ++ old) f) ∙ sym e ∙ g in
    let same : reading one bytes faulted ≡ reading other more faulted = cc both in
    ap (λ (r : Reading). r.name) same

module _ (command : Command) (files : Files) (expected : ExpectedResult)
    (expects : CommandExpects command files expected) (reads : List Reading)
    (each : All (IsOf files) reads) where
  -- the answer that the readings determine is the expected one
  determined : {IsSuch : Answer → Type 0} (d : DeterminesAnswer command IsSuch [] reads)
      → answered d.answer ≡ expected.reply
  determined d = elim (in_files files (is_too_long d.answer) d.names d.contents [] reads each
      d.read) [
        | inl found ↦ sym (only_reply command files expected expects d.contents
            (rw (d.specified.0) at found) d.answer d.specified.1)
        | inr s ↦
            let such = subst (λ (cs : List (List ℕ)). Answers command cs d.answer) s.parts
            d.specified.1 in
            let one = length-append s.before (s.bytes ∷ []) in
            let other = length-append s.before (s.whole ∷ []) in
            let same : length d.contents ≡ length (s.before ++ s.whole ∷ []) =
            ap (λ (cs : List (List ℕ)). length cs) s.parts ∙ one ∙ sym other in
            sym (only_reply command files expected expects (s.before ++ s.whole ∷ [])
            (rw (d.specified.0, same) at s.found) d.answer
            (stable command s.before s.bytes s.whole s.longer d.answer s.stops such))
      ]

  -- the file that could not be read is one of the files of the result
  fails_among : (f : FailsAtFile (files_of command) (Answers command) [] reads)
      → Contains expected.files_read f.name
  fails_among f =
      let failed = reading f.name f.bytes faulted in
      let before = All-tail (IsOf files) failed f.before (subst (All (IsOf files)) f.fault each) in
      elim (in_files files false (take (length f.contents) (files_of command)) f.contents []
      f.before before f.whole) [
        | inl found ↦
            let (n, first, more) =
            reads_beyond command files expected expects f.contents found f.needed in
            subst (λ (ns : List (List ℕ)). Contains ns f.name) (sym first)
            (contains_at f.contents n (files_of command) f.later f.name f.named more)
        | inr s ↦ absurd (cc (s.stops))
      ]

  module _ (old new : Option (List ℕ)) (text line : List ℕ) (appended : Appends old new text) where
    abbrev Meets : Status → Type 0
    Meets status = MeetsReply expected.reply status old new line

    abbrev IsAt : Status → Answer → Type 0
    IsAt status answer = (status ≡ answer.status) × (text ≡ answer.out)
        × IsMessageText answer.line line

    -- nothing was written
    nothing : text ≡ [] → Appends old new []
    nothing e = subst (Appends old new) e appended

    -- what holds for the answer holds for the reply
    replies : {IsSuch : Answer → Type 0} (P : ExpectedReply → Type 0)
        (d : DeterminesAnswer command IsSuch [] reads) → P (answered d.answer) → P expected.reply
    replies P d h = subst P (determined d) h

    prefixed : {IsSuch : Answer → Type 0} (d : DeterminesAnswer command IsSuch [] reads)
        → IsPrefix text d.answer.out
        → HasReply (λ answer. AppendsPrefix old new answer.out) expected.reply
    prefixed d prefix = replies (HasReply (λ answer. AppendsPrefix old new answer.out)) d
        (prefix_of old new text d.answer appended prefix)

    -- the status is that of the answer
    meets_answer : (status : Status) → status ≢ ends.Memory
        → DeterminesAnswer command (IsAt status) [] reads
        → (IsReplyLine expected.reply line → status ≢ ends.Ok
        → IsLineOf status expected.reply line) → Meets status
    meets_answer status memory d own =
        let all = subst (Appends old new) d.such.1 appended in record {
          replied = replies (λ r. IsReplyGiven r status old new) d (λ e. (d.such.0, all));
          prefix = prefixed d ([], append-nil text ∙ d.such.1);
          short = λ e. absurd (memory e);
          told = own (replies (λ r. IsReplyLine r line) d d.such.2);
        }

    abbrev Computes : Status → Type 0
    Computes status = ComputesSpecification (Some command)
        (record { status = status; text = text; line = line; reads = reads })

    -- a call that computes its specification
    meets : (status : Status) → Computes status → Meets status
    meets ends.ReadFault (told, none, fails) = record {
      replied = silent expected.reply ends.ReadFault old new refl (inl refl);
      prefix = no_prefix expected.reply old new (nothing none);
      short = λ e. absurd (cc e);
      told = λ e. told;
    }
    meets ends.WriteFault (told, d) = record {
      replied = replies (λ r. IsReplyGiven r ends.WriteFault old new) d (λ e. absurd (cc e));
      prefix = prefixed d d.such;
      short = λ e. absurd (cc e);
      told = λ e. told;
    }
    meets ends.Memory (told, inl none) = record {
      replied = silent expected.reply ends.Memory old new refl (inr refl);
      prefix = no_prefix expected.reply old new (nothing none);
      short = λ e. uncut expected.reply old new (nothing none);
      told = λ e. told;
    }
    meets ends.Memory (told, inr d) =
        let cut = cut_of old new text d.answer appended d.such in record {
          replied = silent expected.reply ends.Memory old new refl (inr refl);
          prefix = prefixed d cut.0;
          short = λ e. replies (HasReply (IsOutOfMemoryPrefix old new)) d cut.1;
          told = λ e. told;
        }
    meets ends.Ok d = meets_answer ends.Ok (λ e. cc e) d (λ own other. absurd (other refl))
    meets ends.Rejected d = meets_answer ends.Rejected (λ e. cc e) d (λ own other. own)
    meets ends.Usage d = meets_answer ends.Usage (λ e. cc e) d (λ own other. own)
    meets ends.ModelRefused d = meets_answer ends.ModelRefused (λ e. cc e) d (λ own other. own)
    meets ends.Overflow d = meets_answer ends.Overflow (λ e. cc e) d (λ own other. own)
    meets ends.CertRefused d = meets_answer ends.CertRefused (λ e. cc e) d (λ own other. own)

-- the arguments are not a valid command
meets_usage : (files : Option Files) (expected : ExpectedResult) (old new : Option (List ℕ))
    (call : Call) → CommandLineExpects None files expected → Appends old new call.text
    → ComputesSpecification None call
    → MeetsReply expected.reply call.status old new call.line
meets_usage files expected old new call is appended (unread, none, reported) =
    let nothing = subst (Appends old new) none appended in
    let reply : answered (refusal ends.Usage usage) ≡ expected.reply =
    sym (ap (λ (t : ExpectedResult). t.reply) is) in
    subst (λ (r : ExpectedReply). MeetsReply r call.status old new call.line) reply
    (elim reported [
      | inl (e, told) ↦ subst (λ (s : Status). MeetsReply (answered (refusal ends.Usage usage)) s
          old new call.line) (sym e) (record {
            replied = λ d. (refl, nothing);
            prefix = no_prefix (answered (refusal ends.Usage usage)) old new nothing;
            short = λ m. absurd (cc m);
            told = λ other. told;
          })
      | inr (e, told) ↦ subst (λ (s : Status). MeetsReply (answered (refusal ends.Usage usage)) s
          old new call.line) (sym e) (record {
            replied = λ d. absurd (cc d);
            prefix = no_prefix (answered (refusal ends.Usage usage)) old new nothing;
            short = λ m. inl nothing;
            told = λ other. told;
          })
    ])

-- ---- a call of `qss_main`

-- what the contract of `qss_main` states of a call
pub record IsMainCall (found : Option Command) (status : Status) (known : Option Files)
    (old new err_old err_new : Option (List ℕ)) (err_before err_now : ℕ) (from to : List Reading)
    (before now : List ℕ → ℕ) (out_before out_now : ℕ) : Type 0 where
  pub reads : IsTrueToReads found status old new err_old err_new err_before err_now from to
  pub readings : AddsReadings known from to
  pub last : status ≡ ends.ReadFault → CountsLastFault to before now
  pub no_read_fault : status ≢ ends.ReadFault → (name : List ℕ) → now name ≡ before name
  pub no_new_fault : status ≢ ends.WriteFault → out_now ≡ out_before
  pub err_unchanged : status ≡ ends.Ok → err_new ≡ err_old

-- such a call
pub main_call : {found : Option Command} {status : Status} {known : Option Files}
    {old new err_old err_new : Option (List ℕ)} {err_before err_now : ℕ} {from to : List Reading}
    {before now : List ℕ → ℕ} {out_before out_now : ℕ}
    → IsTrueToReads found status old new err_old err_new err_before err_now from to
    → AddsReadings known from to
    → (status ≡ ends.ReadFault → CountsLastFault to before now)
    → (status ≢ ends.ReadFault → (name : List ℕ) → now name ≡ before name)
    → (status ≢ ends.WriteFault → out_now ≡ out_before) → (status ≡ ends.Ok → err_new ≡ err_old)
    → IsMainCall found status known old new err_old err_new err_before err_now from to before now
    out_before out_now
main_call reads readings last no_read_fault no_new_fault err_unchanged = record {
  reads = reads;
  readings = readings;
  last = last;
  no_read_fault = no_read_fault;
  no_new_fault = no_new_fault;
  err_unchanged = err_unchanged;
}

-- a status is 4 or another one
is_write_fault : (status : Status) → (status ≡ ends.WriteFault) ⊎ (status ≢ ends.WriteFault)
is_write_fault ends.WriteFault = inl refl
is_write_fault _ = inr (λ e. cc e)

-- the same for status 3
is_read_fault : (status : Status) → (status ≡ ends.ReadFault) ⊎ (status ≢ ends.ReadFault)
is_read_fault ends.ReadFault = inl refl
is_read_fault _ = inr (λ e. cc e)

-- and for status 0
is_ok : (status : Status) → (status ≡ ends.Ok) ⊎ (status ≢ ends.Ok)
is_ok ends.Ok = inl refl
is_ok _ = inr (λ e. cc e)

module _ {found : Option Command} {status : Status} {known : Option Files}
    {old new err_old err_new : Option (List ℕ)} {err_before err_now : ℕ} {from to : List Reading}
    {before now : List ℕ → ℕ} {out_before out_now : ℕ}
    (c : IsMainCall found status known old new err_old err_new err_before err_now from to before now
    out_before out_now) where
  abbrev call : Call
  call = c.reads.call

  -- the status was returned
  returned : status ≡ call.status
  returned = c.reads.observed.returned

  -- the readings of the call are possible for the files
  possible : (files : Files) → known ≡ Some files → All (IsOf files) call.reads
  possible files is = subst (All (IsOf files)) (append_cancel_right c.readings.added call.reads from
      (sym c.readings.parts ∙ c.reads.observed.reads)) (c.readings.possible files is)

  -- the call computes its specification
  computes : (command : Option Command) → found ≡ command → ComputesSpecification command call
  computes command is =
      subst (λ (f : Option Command). ComputesSpecification f call) is c.reads.computes

  -- a call with arguments that are not a valid command has no fault
  no_fault : found ≡ None → (status ≡ ends.ReadFault) ⊎ (status ≡ ends.WriteFault) → ⊥
  no_fault is fault =
      let e = returned in
      elim ((computes None is).2) [
        | inl u ↦ elim fault [ inl f ↦ cc (u.0, e, f) | inr f ↦ cc (u.0, e, f) ]
        | inr u ↦ elim fault [ inl f ↦ cc (u.0, e, f) | inr f ↦ cc (u.0, e, f) ]
      ]

  -- the file that could not be read
  failed_file : (command : Command) → found ≡ Some command → status ≡ ends.ReadFault
      → FailsAtFile (files_of command) (Answers command) [] call.reads
  failed_file command is e = (subst (λ (s : Status). ComputesSpecification (Some command)
      (record { status = s; text = call.text; line = call.line; reads = call.reads }))
      (sym returned ∙ e) (computes (Some command) is)).2

  -- its fault count is the one that is incremented
  last_among : (names : List (List ℕ)) (command : Command) (is : found ≡ Some command)
      (e : status ≡ ends.ReadFault) → Contains names (failed_file command is e).name
      → Contains names (c.last e).name
  last_among names command is e among =
      let f = failed_file command is e in
      let l = c.last e in
      let same = last_name call.reads from to l.earlier f.before f.name l.name f.bytes l.bytes
      c.reads.observed.reads f.fault l.last in
      subst (λ (n : List ℕ). Contains names n) same among

  -- ---- the reply

  module _ (expected : ExpectedResult) (expects : CommandLineExpects found known expected) where
    -- the arguments are not a valid command, or the files are known
    record IsKnown : Type 0 where
      command : Command
      files : Files
      is : found ≡ Some command
      are : known ≡ Some files
      such : CommandExpects command files expected

    -- one of both
    cases : ((found ≡ None) × CommandLineExpects None known expected) ⊎ IsKnown
    cases = by found known refl refl expects
      where
        by : (command : Option Command) (files : Option Files) → found ≡ command → known ≡ files
            → CommandLineExpects command files expected
            → ((found ≡ None) × CommandLineExpects None known expected) ⊎ IsKnown
        by None files is are such = inl (is, such)
        by (Some command) None is are wrong = absurd wrong
        by (Some command) (Some files) is are such = inr (record {
          command = command;
          files = files;
          is = is;
          are = are;
          such = such;
        })

    -- the call meets the expected reply
    pub reply_met : MeetsReply expected.reply status old new call.line
    reply_met = subst (λ (s : Status). MeetsReply expected.reply s old new call.line) (sym returned)
        (elim cases [
          | inl (is, none) ↦ meets_usage known expected old new call none c.reads.observed.text
              (computes None is)
          | inr k ↦ meets k.command k.files expected k.such call.reads (possible k.files k.are)
              old new call.text call.line c.reads.observed.text call.status
              (computes (Some k.command) k.is)
        ])

    -- the line of the status is written
    pub line_reported : IsStatusReported status expected.reply err_old err_new err_before
        err_now
    line_reported = elim (is_ok status) [
      | inl e ↦ record {
        line = [];
        own = subst (λ (s : Status). IsLineOf s expected.reply []) (sym e) refl;
        written = inl (subst (λ (o : Option (List ℕ)). Appends err_old o [])
            (sym (c.err_unchanged e)) (Appends-nil err_old));
      }
      | inr other ↦ record {
        line = call.line;
        own = reply_met.told other;
        written = c.reads.observed.line;
      }
    ]

    -- an answer with an empty text causes no write fault
    pub no_fault_unwritten : text_of expected.reply ≡ [] → out_now ≡ out_before
    no_fault_unwritten none = elim (is_write_fault status) [
      | inl e ↦ elim cases [
        | inl (is, _) ↦ absurd (no_fault is (inr e))
        | inr k ↦
            let d = c.reads.some_text e k.command k.is in
            let same = determined k.command k.files expected k.such call.reads
            (possible k.files k.are) d in
            absurd (d.such (ap text_of same ∙ none))
      ]
      | inr other ↦ c.no_new_fault other
    ]

    -- the file that could not be read is one of those that are read
    pub fault_expected : (e : status ≡ ends.ReadFault)
        → Contains expected.files_read (c.last e).name
    fault_expected e = elim cases [
      | inl (is, _) ↦ absurd (no_fault is (inl e))
      | inr k ↦ last_among expected.files_read k.command k.is e (fails_among k.command k.files
          expected k.such call.reads (possible k.files k.are) (failed_file k.command k.is e))
    ]

  -- ---- fault counts

  -- the fault count of the last file is incremented
  pub fault_counted : (names : List (List ℕ)) (e : status ≡ ends.ReadFault)
      → Contains names (c.last e).name → SomeFaultCounted names before now
  fault_counted names e among = let l = c.last e in (l.name, among, l.incremented)

  -- all other counts are unchanged
  pub others_unchanged : (names : List (List ℕ))
      → ((e : status ≡ ends.ReadFault) → Contains names (c.last e).name) → (name : List ℕ)
      → ¬ Contains names name → now name ≡ before name
  others_unchanged names among name apart = elim (is_read_fault status) [
    | inl e ↦ (c.last e).others name
        (λ same. apart (subst (λ (n : List ℕ). Contains names n) (sym same) (among e)))
    | inr other ↦ c.no_read_fault other name
  ]

  -- the file that could not be read is a file of the command
  pub fault_of_command : (command : Command) → found ≡ Some command → (e : status ≡ ends.ReadFault)
      → Contains (files_of command) (c.last e).name
  fault_of_command command is e =
      let f = failed_file command is e in
      last_among (files_of command) command is e
      (subst (λ (ns : List (List ℕ)). Contains ns f.name) (sym f.named)
      (contains_here (take (length f.contents) (files_of command)) f.later f.name))
