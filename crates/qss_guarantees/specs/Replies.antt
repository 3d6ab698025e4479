-- The behaviour of `qss_main` for the specified reply.
use Rattle.std.specs.Prelude.{◌≡◌, ◌⊎◌, ℕ, true, List, [], codes, Contains, Option}
use Rattle.std.specs.Io.KnownBytes.{Appends}
use Rattle.mu_io.specs.FaultCounts.{HasOneMoreFault}
use Rattle.qss_guarantees.specs.ExpectedResults.{ExpectedReply, answered, file_missing}
use Rattle.qss_top.specs.MachineAnswers.{Answer, refusal, quiet, IsMessageText}
use Rattle.qss_top.specs.Statuses.{is_defined}
use Rattle.qss_top.specs.WrittenTexts.{IsLineWritten}
use Rattle.qss_top.specs.declared.status.Status.{Status}
use Rattle.qss_top.specs.declared.status.Status.TheVariants as ends

-- if the status is not 3, 4 or 8, it is the specified one, and exactly the specified text is
-- appended; if a file is missing, the status is 3 or 8
abbrev pub IsReplyGiven : ExpectedReply → Status → Option (List ℕ) → Option (List ℕ) → Type 0
IsReplyGiven (answered answer) status old new = is_defined status ≡ true → (status ≡ answer.status)
    × Appends old new answer.out
IsReplyGiven file_missing status old new = (status ≡ ends.ReadFault) ⊎ (status ≡ ends.Memory)

-- the text of a reply
abbrev pub text_of : ExpectedReply → List ℕ
text_of (answered answer) = answer.out
text_of file_missing = []

-- the reply is such an answer, with no text if a file is missing
abbrev pub HasReply : (Answer → Type 0) → ExpectedReply → Type 0
HasReply IsSuch (answered answer) = IsSuch answer
HasReply IsSuch file_missing = IsSuch (refusal ends.ReadFault quiet)

-- the fault count of one of these files is incremented, or stays at its greatest value
abbrev pub SomeFaultCounted : List (List ℕ) → (List ℕ → ℕ) → (List ℕ → ℕ) → Type 0
SomeFaultCounted names before now = (name : List ℕ) × Contains names name
    × HasOneMoreFault (before name) (now name)

-- the line of a specified status is that of the answer
abbrev pub IsReplyLine : ExpectedReply → (line : List ℕ) → Type 0
IsReplyLine (answered answer) line = IsMessageText answer.line line
IsReplyLine file_missing line = Unit {0}

-- the line of a status
abbrev pub IsLineOf : Status → ExpectedReply → (line : List ℕ) → Type 0
IsLineOf ends.Ok reply line = line ≡ []
IsLineOf ends.ReadFault reply line = line ≡ codes "read fault\n"
IsLineOf ends.WriteFault reply line = line ≡ codes "write fault\n"
IsLineOf ends.Memory reply line = line ≡ codes "out of memory\n"
IsLineOf status reply line = IsReplyLine reply line

-- the line of the status is appended, or a prefix of it and the fault count is incremented
pub record IsStatusReported (status : Status) (reply : ExpectedReply)
    (err_old err_new : Option (List ℕ)) (before now : ℕ) : Type 0 where
  pub line : List ℕ
  pub own : IsLineOf status reply line
  pub written : IsLineWritten line err_old err_new before now
