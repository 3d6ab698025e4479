-- Reading a file of a command: the limits, and the outcome if the file is not read.
use Rattle.std.specs.Prelude.{◌≡◌, ◌⊎◌, ◌≤◌, ℕ, List, length, Option, Result, Ok, Err, IfOk, IfErr}
use Rattle.std.specs.Prelude.{Vec}
use Rattle.std.specs.declared.alloc.Global.{Global}
use Rattle.mu_num.specs.Limits.{model_length_limit}
use Rattle.mu_io.specs.Files.{Files}
use Rattle.mu_io.specs.Readings.{Reading, ReadsWhole, Exceeds, ReadFails, ReadsPart}
use Rattle.qss_answers.specs.CertificateAnswers as Certificates
use Rattle.qss_answers.specs.TraceAnswers as Traces
use Rattle.qss_answers.specs.declared.refusal.Refusal.TheVariants as reasons
use Rattle.qss_top.specs.Frames.{IsFileFrame}
use Rattle.qss_top.specs.MachineAnswers.{Answer, refusal, rejection, too_long}
use Rattle.qss_top.specs.declared.command_outcome.Outcome.{Outcome}
use Rattle.qss_top.specs.declared.command_outcome.Outcome.TheVariants as outcome
use Rattle.qss_top.specs.declared.file_reading.FileKind.{FileKind}
use Rattle.qss_top.specs.declared.file_reading.FileKind.TheVariants as kinds
use Rattle.qss_top.specs.declared.status.Status.TheVariants as ends

-- the greatest length, in bytes
abbrev pub limit_of : FileKind → ℕ
limit_of kinds.Model = model_length_limit
limit_of kinds.Certificate = Certificates.limit
limit_of kinds.Trace = Traces.limit

-- the outcome and the answer for a file that exceeds its limit
abbrev pub long_outcome : FileKind → Outcome
long_outcome kinds.Model = outcome.TooLong
long_outcome kinds.Certificate = outcome.Rejected reasons.CertificateTooLong
long_outcome kinds.Trace = outcome.Rejected reasons.TraceTooLong

abbrev pub long_answer : FileKind → Answer
long_answer kinds.Model = refusal ends.ModelRefused too_long
long_answer kinds.Certificate = rejection reasons.CertificateTooLong
long_answer kinds.Trace = rejection reasons.TraceTooLong

-- the file was not read up to its end: a read failed, an allocation failed, or the file is too long
abbrev pub IsNotRead : FileKind → (name : List ℕ) → (old new : List Reading) → Outcome → Type 0
IsNotRead kind name old new what =
    ((what ≡ outcome.ReadFault) × ReadFails old new name)
    ⊎ (((what ≡ outcome.Memory) × ReadsPart old new name)
    ⊎ ((what ≡ long_outcome kind) × Exceeds old new name (limit_of kind)))

-- `Done` if a call returns a value, else the outcome that it returns
abbrev pub outcome_so_far : {A : Type 0} → Result A Outcome → Outcome
outcome_so_far (Ok value) = outcome.Done
outcome_so_far (Err what) = what

-- the result is the contents of the file, or the outcome if it is not read up to its end
pub record ReadsFile {S : Type 0} (contents : S → Option Files) (counts : S → List ℕ → ℕ)
    (readings : S → List Reading) (name : List ℕ) (kind : FileKind)
    (result : Result (Vec ℕ Global) Outcome) (old new : S) : Type 0 where
  pub read : IfOk result (λ bytes. ReadsWhole (readings old) (readings new) name bytes.items)
  pub within : IfOk result (λ bytes. length bytes.items ≤ limit_of kind)
  pub not_read : IfErr result (IsNotRead kind name (readings old) (readings new))
  pub shelf : IsFileFrame contents counts readings (outcome_so_far result) old new
