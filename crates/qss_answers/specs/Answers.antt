-- The answer for a certificate, a trace or a proposal, and how a call with this answer ends.
use Rattle.std.specs.Prelude.{◌≡◌, ℕ, Bool, List, Option}
use Rattle.std.specs.Io.KnownBytes.{Appends}
use Rattle.mu_io.specs.Sinks.{AppendsPrefix, EndsByFault}
use Rattle.cert_check.specs.declared.inequality_checker.Verdict.{Verdict}
use Rattle.cert_check.specs.declared.inequality_checker.Verdict.TheVariants.{Accepted}
use Rattle.qss_answers.specs.declared.answer_result.AnswerErr.{AnswerErr}
use Rattle.qss_answers.specs.declared.answer_result.AnswerErr.TheVariants as error
use Rattle.qss_answers.specs.declared.answer_result.AnswerResult.{AnswerResult}
use Rattle.qss_answers.specs.declared.answer_result.AnswerResult.TheVariants as ending
use Rattle.qss_answers.specs.declared.refusal.Refusal.{Refusal}
use Rattle.qss_answers.specs.declared.refusal.Refusal.TheVariants as refusal

-- an answer: a rejection, or a text
pub data Answer : Type 0 where
  refused : Refusal → Answer
  written : List ℕ → Answer

-- the answer for a certificate with this verdict: the text if the verdict is `Accepted`, else the
-- rejection
abbrev pub judged : List ℕ → Verdict → Answer
judged text Accepted = written text
judged text verdict = refused (refusal.Rejected verdict)

-- a call with this answer allocates, unless the machine is out of scope or has no candidate, or the
-- bytes are too long
abbrev pub TakesMemory : Answer → Type 0
TakesMemory (refused (refusal.Outside why)) = ⊥
TakesMemory (refused refusal.CertificateTooLong) = ⊥
TakesMemory (refused refusal.TraceTooLong) = ⊥
TakesMemory (refused (refusal.NoCandidate step)) = ⊥
TakesMemory _ = Unit {0}

-- a text is written: completely, or a prefix up to a fault
abbrev pub WritesText : {K : Type 0} → (known : K → Option (List ℕ)) → (faults : K → ℕ)
    → (failed : K → Bool) → (text : List ℕ) → AnswerResult → (old new : K) → Type 0
WritesText known faults failed text ending.Written old new =
    Appends (known old) (known new) text × (faults new ≡ faults old)
WritesText known faults failed text ending.Fault old new =
    AppendsPrefix (known old) (known new) text × EndsByFault faults failed old new
WritesText known faults failed text _ old new = ⊥

-- the result of a call that writes no text for this reason
abbrev pub result_of : AnswerErr → AnswerResult
result_of (error.Refused why) = ending.Refused why
result_of error.Memory = ending.Memory

-- there is no text for this reason: the answer is this rejection, or an allocation failed, which
-- requires that a call with each such answer allocates
abbrev pub HasNoText : (IsSuch : Answer → Type 0) → AnswerErr → Type 0
HasNoText IsSuch (error.Refused why) = IsSuch (refused why)
HasNoText IsSuch error.Memory = (answer : Answer) → IsSuch answer → TakesMemory answer

-- a call with such an answer: its text is written completely, or a prefix up to a fault, or nothing
abbrev pub Ends : {K : Type 0} → (known : K → Option (List ℕ)) → (faults : K → ℕ)
    → (failed : K → Bool) → (IsSuch : Answer → Type 0) → AnswerResult → (old new : K) → Type 0
Ends known faults failed IsSuch ending.Written old new = (text : List ℕ) × IsSuch (written text)
    × WritesText known faults failed text ending.Written old new
Ends known faults failed IsSuch ending.Fault old new = (text : List ℕ) × IsSuch (written text)
    × WritesText known faults failed text ending.Fault old new
Ends known faults failed IsSuch (ending.Refused why) old new =
    HasNoText IsSuch (error.Refused why) × (new ≡ old)
Ends known faults failed IsSuch ending.Memory old new =
    HasNoText IsSuch error.Memory × (new ≡ old)

-- a call returns no value: for such a rejection, or since an allocation failed
abbrev pub IsNotReadBy : (Refusal → Type 0) → AnswerErr → Type 0
IsNotReadBy Refuses (error.Refused why) = Refuses why
IsNotReadBy Refuses error.Memory = Unit {0}
