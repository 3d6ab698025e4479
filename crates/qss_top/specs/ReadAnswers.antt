-- The answer that the specification determines from the bytes that were read.
use Rattle.std.specs.Prelude.{◌≡◌, ◌≢◌, ◌⊎◌, Bool, true, false, ℕ, List, [], ◌∷◌, ◌++◌, Option}
use Rattle.std.specs.Prelude.{None, Some, length, take}
use Rattle.std.specs.Io.{StartsWith}
use Rattle.std.specs.Io.KnownBytes.{Appends}
use Rattle.mu_io.specs.Readings.{Reading, reading, in_progress, fully_read, faulted}
use Rattle.qss_answers.specs.declared.refusal.Refusal.TheVariants as reasons
use Rattle.qss_cli.specs.Commands.{Command, files_of}
use Rattle.qss_top.specs.CommandAnswers.{Answers, IsAnswerTo, NeedsMore}
use Rattle.qss_top.specs.MachineAnswers.{Answer, Message, too_long, rejected}
use Rattle.qss_top.specs.CommandOutcomes.{IsOutcome}
use Rattle.qss_top.specs.declared.command_outcome.Outcome.{Outcome}
use Rattle.qss_top.specs.declared.command_outcome.Outcome.TheVariants as outcome
use Rattle.qss_top.specs.declared.status.Status.{Status}
use Rattle.qss_top.specs.declared.status.Status.TheVariants as ends

-- whether the answer rejects a file as longer than its limit
abbrev pub is_too_long : Answer → Bool
is_too_long answer = by answer.status answer.line
  where
    by : Status → Message → Bool
    by ends.ModelRefused too_long = true
    by ends.CertRefused (rejected reasons.CertificateTooLong) = true
    by ends.CertRefused (rejected reasons.TraceTooLong) = true
    by _ _ = false

-- the files of these names were read one after another, and these are the bytes that were read
-- each file was read up to its end; if `may_stop`, the reading of the last file may stop earlier
abbrev pub AreReadInOrder : (may_stop : Bool) → (names contents : List (List ℕ))
    → (old new : List Reading) → Type 0
AreReadInOrder may_stop [] [] old new = new ≡ old
AreReadInOrder may_stop (name ∷ names) (bytes ∷ contents) old new =
    AreReadInOrder may_stop names contents (reading name bytes fully_read ∷ old) new
    ⊎ ((may_stop ≡ true) × (names ≡ []) × (contents ≡ [])
    × (new ≡ reading name bytes in_progress ∷ old))
AreReadInOrder may_stop _ _ old new = ⊥

-- the files may have these whole contents: they are the bytes that were read, but the last file may
-- be longer if its reading stopped
abbrev pub MayHaveContents : (stopped : Bool) → (contents wholes : List (List ℕ)) → Type 0
MayHaveContents stopped [] [] = Unit {0}
MayHaveContents stopped (bytes ∷ contents) (whole ∷ wholes) =
    ((whole ≡ bytes) × MayHaveContents stopped contents wholes)
    ⊎ ((stopped ≡ true) × (contents ≡ []) × (wholes ≡ []) × StartsWith whole bytes)
MayHaveContents stopped _ _ = ⊥

-- the outcome and the written text are possible for an answer that is specified for the bytes that
-- were read
-- if the reading of the last file stopped, the answer is specified for every continuation of its
-- bytes
pub record IsAnswerFromReads (names : List (List ℕ)) (IsSpecified : List (List ℕ) → Answer → Type 0)
    (what : Outcome) (out_old out_new : Option (List ℕ)) (old new : List Reading) : Type 0 where
  pub contents : List (List ℕ)
  pub answer : Answer
  pub stopped : Bool
  pub rejects : stopped ≡ true → is_too_long answer ≡ true
  pub read : AreReadInOrder stopped (take (length contents) names) contents old new
  pub specified : (wholes : List (List ℕ)) → MayHaveContents stopped contents wholes
      → IsSpecified wholes answer
  pub outcome : IsOutcome answer what out_old out_new

-- a file that is needed could not be opened, or a read of it failed; the files before it were read
-- up to their ends
pub record FailsAtFile (names : List (List ℕ)) (IsSpecified : List (List ℕ) → Answer → Type 0)
    (old new : List Reading) : Type 0 where
  pub contents : List (List ℕ)
  pub name : List ℕ
  pub later : List (List ℕ)
  pub bytes : List ℕ
  pub before : List Reading
  pub named : names ≡ take (length contents) names ++ name ∷ later
  pub whole : AreReadInOrder false (take (length contents) names) contents old before
  pub fault : new ≡ reading name bytes faulted ∷ before
  pub needed : NeedsMore IsSpecified contents

-- an allocation failed and nothing was written, or a file that is needed could not be read, or the
-- outcome and the written text are possible for an answer that is specified for the bytes that were
-- read of the first ones of these files
abbrev pub AnswersFromReads : (names : List (List ℕ))
    → (IsSpecified : List (List ℕ) → Answer → Type 0) → Outcome
    → (out_old out_new : Option (List ℕ)) → (old new : List Reading) → Type 0
AnswersFromReads names IsSpecified what out_old out_new old new =
    ((what ≡ outcome.Memory) × Appends out_old out_new [])
    ⊎ (((what ≡ outcome.ReadFault) × FailsAtFile names IsSpecified old new)
    ⊎ ((what ≢ outcome.ReadFault)
    × IsAnswerFromReads names IsSpecified what out_old out_new old new))

-- the call for the command of the arguments; nothing is read if they are not a valid command
abbrev pub ArgumentsAnswerFromReads : Option Command → Outcome → (out_old out_new : Option (List ℕ))
    → (old new : List Reading) → Type 0
ArgumentsAnswerFromReads None what out_old out_new old new = new ≡ old
ArgumentsAnswerFromReads (Some command) what out_old out_new old new =
    AnswersFromReads (files_of command) (Answers command) what out_old out_new old new

-- the bytes that were read determine the answer to the command, and the answer satisfies the
-- predicate
pub record DeterminesAnswer (command : Command) (IsSuch : Answer → Type 0)
    (old new : List Reading) : Type 0 where
  pub names : List (List ℕ)
  pub contents : List (List ℕ)
  pub answer : Answer
  pub specified : IsAnswerTo command names contents answer
  pub read : AreReadInOrder (is_too_long answer) names contents old new
  pub such : IsSuch answer
