-- The properties of a run of the program: those of the answer for the contents that were read.
use Rattle.std.specs.Prelude.{◌≡◌, ℕ, List, [], Some, true, take, length}
use Rattle.qss_cli.specs.Commands.{Command, files_of}
use Rattle.qss_guarantees.specs.AnswerLaws.{HasProperties}
use Rattle.qss_top.specs.Calls.{Call, ComputesSpecification}
use Rattle.qss_top.specs.MachineAnswers.{Answer, IsMessageText}
use Rattle.qss_top.specs.ReadAnswers.{is_too_long, AreReadInOrder}
use Rattle.qss_top.specs.Sessions.{IsSession, IsAccepted, seen}
use Rattle.qss_top.specs.Statuses.{is_defined}

-- the first files of the command were read, in its order, and had these contents
-- each file was read up to its end; only the reading of a file that the answer rejects as too long
-- may stop earlier
-- status, text and line of the call are those of the answer, which has the properties of the
-- command
-- for these contents
pub record HasPropertiesOfReads (command : Command) (call : Call) : Type 0 where
  pub contents : List (List ℕ)
  pub answer : Answer
  pub read : AreReadInOrder (is_too_long answer) (take (length contents) (files_of command))
      contents
      [] call.reads
  pub status_is : call.status ≡ answer.status
  pub text_is : call.text ≡ answer.out
  pub line_is : IsMessageText answer.line call.line
  pub properties : HasProperties command contents answer

-- a call that computes its specification, with a status other than 3, 4 and 8, has the properties
-- of
-- its command for the contents that it read
abbrev pub CallsHaveProperties : Type 0
CallsHaveProperties = (command : Command) (call : Call) → ComputesSpecification (Some command) call
    → is_defined call.status ≡ true → HasPropertiesOfReads command call

-- a run of the program with a status other than 3, 4 and 8 has the properties of its command for
-- the
-- contents that it read; if a write to standard error failed, a prefix of the line was accepted
abbrev pub SessionsHaveProperties : Type 0
SessionsHaveProperties = (command : Command) (call : Call) (out_faults err_faults : ℕ)
    → IsSession (Some command) call out_faults err_faults → is_defined call.status ≡ true
    → (line : List ℕ) × IsAccepted line call.line err_faults
    × HasPropertiesOfReads command (seen call.status call.text line call.reads)
