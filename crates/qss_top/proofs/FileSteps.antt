-- The steps of a command that reads files: from the answers of a later step to those of an earlier.
use Rattle.qss_top.proofs.Common
use Common.{[], ℕ, ◌<◌, ◌∙◌, ◌∷◌, ◌≡◌, ◌≢◌, ◌⊎◌, Answer, AnswersFromFiles, AnswersFromReads}
use Common.{Appends, Appends-nil, AreReadInOrder, Bool, Err, FailsAtFile, FileKind, Files, inl, inr}
use Common.{IsAnsweredBy, length, limit_of, List, long_answer, long_outcome, MayHaveContents, Ok}
use Common.{Option, Outcome, Reading, sym, take, WritesAnswer}
use Rattle.std.proofs.Math.Seq.{take-nil}
use Rattle.std.specs.Prelude.{Vec}
use Rattle.std.specs.declared.alloc.Global.{Global}
use Rattle.qss_top.specs.FileReadings.{IsNotRead, ReadsFile}
use Rattle.qss_top.proofs.FileFacts.{long_is}
use Rattle.qss_top.proofs.FrameFacts.{read_on, unread, unwritten_output}
use Rattle.qss_top.proofs.ReadFacts.{answer_read, fault_read, long_read, map_read, whole_read}
use Rattle.qss_top.specs.declared.command_outcome.Outcome.TheVariants as outcome

module _ {S K : Type 0} {known : S → Option Files} {counts : S → List ℕ → ℕ}
    {readings : S → List Reading} {written : K → Option (List ℕ)} {faults : K → ℕ}
    {failed : K → Bool} {goes : Bool} {names : List (List ℕ)}
    {IsSuch : List (List ℕ) → Answer → Type 0} {what : Outcome} where
  -- the answers are also those of another relation
  pub map_step : {Others : List (List ℕ) → Answer → Type 0} {from to : S} {old new : K}
      → ((contents : List (List ℕ)) (a : Answer) → IsSuch contents a → Others contents a)
      → AnswersFromFiles known counts readings written faults failed goes names IsSuch what from to
      old new
      → AnswersFromFiles known counts readings written faults failed goes names Others what from to
      old new
  map_step {Others} {from} {to} {old} {new} step h = record {
    reads = map_read {names = names} {IsSuch = IsSuch} {Others = Others} step h.reads;
    not_usage = h.not_usage;
    output = h.output;
    shelf = h.shelf;
  }

  -- no file is read
  pub answer_step : {Is : Answer → Type 0} {shelf : S} {old new : K}
      → ((a : Answer) → Is a → IsSuch [] a)
      → WritesAnswer written faults failed goes Is what old new
      → AnswersFromFiles known counts readings written faults failed goes names IsSuch what shelf
      shelf old new
  answer_step {Is} {shelf} {old} {new} such h = record {
    reads = by h.answered;
    not_usage = h.output.not_usage;
    output = h.output.frame;
    shelf = unread known counts readings what h.output.not_read shelf;
  }
    where
      by : ((what ≡ outcome.Memory) × Appends (written old) (written new) [])
          ⊎ IsAnsweredBy Is what (written old) (written new)
          → AnswersFromReads names IsSuch what (written old) (written new) (readings shelf)
          (readings shelf)
      by (inl none) = inl none
      by (inr is) = inr (inr (h.output.not_read, answer_read such is))

  module _ {name : List ℕ} {kind : FileKind} where
    -- a file is read, and the command goes on
    pub file_step : {bytes : Vec ℕ Global} {from mid to : S} {old new : K}
        → ReadsFile known counts readings name kind (Ok bytes) from mid
        → AnswersFromFiles known counts readings written faults failed goes names
        (λ contents answer. IsSuch (bytes.items ∷ contents) answer) what mid to old new
        → AnswersFromFiles known counts readings written faults failed goes (name ∷ names) IsSuch
        what from to old new
    file_step {bytes} {from} {mid} {to} first h = record {
      reads = whole_read name names IsSuch bytes.items (rw (first.read) at h.reads);
      not_usage = h.not_usage;
      output = h.output;
      shelf = read_on known counts readings what outcome.Done (λ e. cc e) from mid to first.shelf
          h.shelf;
    }

    -- a file is not read up to its end; all texts that are too long have one answer
    pub no_file_step : {from to : S} {k : K}
        → ((bytes : List ℕ) → limit_of kind < length bytes → IsSuch (bytes ∷ []) (long_answer kind))
        → ReadsFile known counts readings name kind (Err what) from to
        → AnswersFromFiles known counts readings written faults failed goes (name ∷ names) IsSuch
        what from to k k
    no_file_step {from} {to} {k} all h = let is = long_is kind (written k) in record {
      reads = reads h.not_read;
      not_usage = by h.not_read outcome.Usage (λ e. cc e) (λ e. cc e) is.4;
      output = unwritten_output faults failed goes what k
          (by h.not_read outcome.WriteFault (λ e. cc e) (λ e. cc e) is.3);
      shelf = h.shelf;
    }
      where
        by : IsNotRead kind name (readings from) (readings to) what → (other : Outcome)
            → outcome.ReadFault ≢ other → outcome.Memory ≢ other → long_outcome kind ≢ other
            → what ≢ other
        by (inl (e, fails)) other fault memory long d = fault (sym e ∙ d)
        by (inr (inl (e, part))) other fault memory long d = memory (sym e ∙ d)
        by (inr (inr (e, exceeds))) other fault memory long d = long (sym e ∙ d)

        reads : IsNotRead kind name (readings from) (readings to) what
            → AnswersFromReads (name ∷ names) IsSuch what (written k) (written k) (readings from)
            (readings to)
        reads (inl (e, fails)) =
            inr (inl (e, fault_read name names IsSuch (limit_of kind) (long_answer kind) all fails))
        reads (inr (inl (e, part))) = inl (e, Appends-nil (written k))
        reads (inr (inr (e, exceeds))) = let is = long_is kind (written k) in rw e (inr (inr (
          is.2,
          long_read name names IsSuch (limit_of kind) (long_answer kind) all exceeds is.1 is.0,
        )))

-- a call that may read no file writes an answer
pub only_answer : {S K : Type 0} {known : S → Option Files} {counts : S → List ℕ → ℕ}
    {readings : S → List Reading} {written : K → Option (List ℕ)} {faults : K → ℕ}
    {failed : K → Bool} {goes : Bool} {IsSuch : List (List ℕ) → Answer → Type 0} {what : Outcome}
    {from to : S} {old new : K}
    → AnswersFromFiles known counts readings written faults failed goes [] IsSuch what from to old
    new → WritesAnswer written faults failed goes (IsSuch []) what old new
only_answer {readings} {written} {faults} {failed} {goes} {IsSuch} {what} {from} {to} {old}
    {new} h = by h.reads
  where
    no_fault : FailsAtFile [] IsSuch (readings from) (readings to) → ⊥
    no_fault fails = let named = rw take-nil at (fails.named) in cc named

    given : (stopped : Bool) (contents : List (List ℕ)) (a : Answer)
        → AreReadInOrder stopped (take (length contents) []) contents (readings from) (readings to)
        → ((wholes : List (List ℕ)) → MayHaveContents stopped contents wholes → IsSuch wholes a)
        → IsSuch [] a
    given stopped [] a read specified = specified [] tt
    given stopped (text ∷ texts) a read specified = absurd read

    written_by : what ≢ outcome.ReadFault
        → ((what ≡ outcome.Memory) × Appends (written old) (written new) [])
        ⊎ IsAnsweredBy (IsSuch []) what (written old) (written new)
        → WritesAnswer written faults failed goes (IsSuch []) what old new
    written_by not_read answered = record {
      answered = answered;
      output = record { not_usage = h.not_usage; not_read = not_read; frame = h.output };
    }

    by : AnswersFromReads [] IsSuch what (written old) (written new) (readings from) (readings to)
        → WritesAnswer written faults failed goes (IsSuch []) what old new
    by (inl (e, none)) = written_by (λ d. cc (e, d)) (inl (e, none))
    by (inr (inl (e, fails))) = absurd (no_fault fails)
    by (inr (inr (not_read, is))) = written_by not_read (inr (record {
      answer = is.answer;
      such = given is.stopped is.contents is.answer is.read is.specified;
      outcome = is.outcome;
    }))
