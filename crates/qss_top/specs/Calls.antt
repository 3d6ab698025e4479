-- The main theorem: the call that an observer sees computes the specification.
use Rattle.std.specs.Prelude.{◌≡◌, ◌≢◌, ◌⊎◌, ℕ, List, [], ◌++◌, Option, Some, None, codes}
use Rattle.std.specs.Io.KnownBytes.{Appends}
use Rattle.mu_io.specs.Readings.{Reading}
use Rattle.qss_cli.specs.Commands.{Command, files_of}
use Rattle.qss_top.specs.CommandAnswers.{Answers}
use Rattle.qss_top.specs.MachineAnswers.{IsMessageText}
use Rattle.qss_top.specs.ReadAnswers.{DeterminesAnswer, FailsAtFile}
use Rattle.qss_top.specs.WrittenTexts.{IsCutText, IsLineWritten, IsPrefix, IsUsageReported}
use Rattle.qss_top.specs.declared.status.Status.{Status}
use Rattle.qss_top.specs.declared.status.Status.TheVariants as ends

-- ---- What an observer sees of a call: status, text on standard output, line on standard error,
-- and readings of files (name, bytes that were read, whether the end was reached), last one first.
pub record Call : Type 0 where
  pub status : Status
  pub text : List ℕ
  pub line : List ℕ
  pub reads : List Reading

-- ---- The program computes its specification (clause `reads` of `qss_main`).
-- Status 3: a file that the command needs could not be read. Status 4: a write failed, and the text
-- is a prefix of the answer's. Status 8: an allocation failed, and the text is empty, complete lines
-- of the answer's, or all of it if the run overflows. At every other status, status, text and line
-- are those of the answer for exactly the bytes that were read. `None`: not a valid command.
abbrev pub ComputesSpecification : Option Command → Call → Type 0
ComputesSpecification None call = (call.reads ≡ []) × (call.text ≡ [])
    × IsUsageReported call.status call.line
ComputesSpecification (Some command) call = by call.status
  where
    by : Status → Type 0
    by ends.ReadFault = (call.line ≡ codes "read fault\n") × (call.text ≡ [])
        × FailsAtFile (files_of command) (Answers command) [] call.reads
    by ends.WriteFault = (call.line ≡ codes "write fault\n")
        × DeterminesAnswer command (λ answer. IsPrefix call.text answer.out) [] call.reads
    by ends.Memory = (call.line ≡ codes "out of memory\n") × ((call.text ≡ [])
        ⊎ DeterminesAnswer command (IsCutText call.text) [] call.reads)
    by status = DeterminesAnswer command (λ answer. (status ≡ answer.status)
        × (call.text ≡ answer.out) × IsMessageText answer.line call.line) [] call.reads

-- ---- What `qss_main` guarantees of each call.

-- the call was observed: its status was returned, its text was appended to standard output, its line
-- to standard error (or a prefix of the line, and a write failed), and its readings were added
pub record IsObserved (call : Call) (status : Status)
    (out_old out_new err_old err_new : Option (List ℕ)) (err_before err_now : ℕ)
    (old new : List Reading) : Type 0 where
  pub returned : status ≡ call.status
  pub text : Appends out_old out_new call.text
  pub line : IsLineWritten call.line err_old err_new err_before err_now
  pub reads : new ≡ call.reads ++ old

-- the program computes its specification for the bytes that it read; `found` is the command of the
-- arguments
pub record IsTrueToReads (found : Option Command) (status : Status)
    (out_old out_new err_old err_new : Option (List ℕ)) (err_before err_now : ℕ)
    (old new : List Reading) : Type 0 where
  -- the call that was observed computes its specification
  pub call : Call
  pub observed : IsObserved call status out_old out_new err_old err_new err_before err_now old new
  pub computes : ComputesSpecification found call
  -- a write fails only if the answer has a text
  pub some_text : status ≡ ends.WriteFault → (command : Command) → found ≡ Some command
      → DeterminesAnswer command (λ answer. answer.out ≢ []) [] call.reads
