-- The outcome of a command: its status, its line, and the answers that it may have.
use Rattle.std.specs.Prelude.{◌≡◌, ◌≢◌, ◌⊎◌, ℕ, List, [], codes, Bool, true, false, Option}
use Rattle.std.specs.Prelude.{if◌then◌else◌}
use Rattle.std.specs.Io.KnownBytes.{Appends}
use Rattle.mu_io.specs.Sinks.{AppendsPrefix}
use Rattle.qss_compile.specs.Causes.{is_memory}
use Rattle.qss_compile.specs.RefusalLines as Refusals
use Rattle.qss_compile.specs.declared.model_refusal.Refused.{Refused}
use Rattle.qss_answers.specs.RefusalTexts.{write_refusal}
use Rattle.qss_top.specs.MachineAnswers.{Answer, IsMessageText, status_of_refusal}
use Rattle.qss_top.specs.MachineAnswers.{usage_line}
use Rattle.qss_top.specs.MachineAnswers.{too_long_line, overflow_line}
use Rattle.qss_top.specs.WrittenTexts.{IsOutOfMemoryPrefix}
use Rattle.qss_top.specs.declared.command_outcome.Outcome.{Outcome}
use Rattle.qss_top.specs.declared.command_outcome.Outcome.TheVariants as outcome
use Rattle.qss_top.specs.declared.status.Status.{Status}
use Rattle.qss_top.specs.declared.status.Status.TheVariants as ends

-- the status of an outcome
abbrev pub status_of : Outcome → Status
status_of outcome.Done = ends.Ok
status_of outcome.Usage = ends.Usage
status_of outcome.ReadFault = ends.ReadFault
status_of outcome.WriteFault = ends.WriteFault
status_of outcome.TooLong = ends.ModelRefused
status_of (outcome.Refused r) = ends.ModelRefused
status_of (outcome.Overflow name tick) = ends.Overflow
status_of (outcome.Rejected why) = status_of_refusal why
status_of outcome.Memory = ends.Memory

-- the text of the line of an outcome, if it is specified
abbrev pub line_text : Outcome → List ℕ
line_text outcome.Usage = usage_line
line_text outcome.TooLong = too_long_line
line_text (outcome.Refused r) = Refusals.line_of r
line_text (outcome.Overflow name tick) = overflow_line name tick
line_text (outcome.Rejected why) = write_refusal why
line_text _ = []

-- the outcome of a rejected source, which may be out of memory
abbrev pub refused_so : Refused → Outcome
refused_so r = if is_memory r.error then outcome.Memory else outcome.Refused r

-- the outcome of a rejection for such a reason, or out of memory
abbrev pub IsRefusedFor : (Refused → Type 0) → Outcome → Type 0
IsRefusedFor Refuses what = (what ≡ outcome.Memory) ⊎
    ((r : Refused) × Refuses r × (what ≡ outcome.Refused r))

-- whether the line of an outcome is allocated
abbrev pub takes_memory : Outcome → Bool
takes_memory (outcome.Refused r) = true
takes_memory (outcome.Overflow name tick) = true
takes_memory (outcome.Rejected why) = true
takes_memory _ = false

-- the status, the line and the whole text of the answer
pub record IsWhole (answer : Answer) (what : Outcome) (old new : Option (List ℕ)) : Type 0 where
  pub status : status_of what ≡ answer.status
  pub line : IsMessageText answer.line (line_text what)
  pub text : Appends old new answer.out

-- a write failed: a prefix of the text of the answer, which is not empty
pub record StopsByFault (answer : Answer) (old new : Option (List ℕ)) : Type 0 where
  pub prefix : AppendsPrefix old new answer.out
  pub some_text : answer.out ≢ []

-- the outcome and the written text are possible for the answer, by the case of the outcome
-- after a read fault there is no answer
abbrev pub IsOutcome : Answer → Outcome → (old new : Option (List ℕ)) → Type 0
IsOutcome answer outcome.ReadFault old new = ⊥
IsOutcome answer outcome.WriteFault old new = StopsByFault answer old new
IsOutcome answer outcome.Memory old new = IsOutOfMemoryPrefix old new answer
IsOutcome answer what old new = IsWhole answer what old new

-- the line on standard error for an outcome and its final status
abbrev pub IsReported : Status → Outcome → List ℕ → Type 0
IsReported ends.Ok what line = line ≡ []
IsReported ends.ReadFault what line = line ≡ codes "read fault\n"
IsReported ends.WriteFault what line = line ≡ codes "write fault\n"
IsReported ends.Memory what line = line ≡ codes "out of memory\n"
IsReported _ what line = line ≡ line_text what
