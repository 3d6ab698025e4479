-- The specified result of the program, determined by its arguments and by the contents of files.
use Rattle.std.specs.Prelude.{◌≡◌, ◌⊎◌, ℕ, suc, List, [], ◌∷◌, ◌++◌, length, take, Option, None}
use Rattle.std.specs.Prelude.{Some}
use Rattle.mu_io.specs.Files.{Files, file_of}
use Rattle.qss_cli.specs.Commands.{Command, command_of, files_of}
use Rattle.qss_top.specs.CommandAnswers.{Answers, IsAnswerTo, NeedsMore}
use Rattle.qss_top.specs.MachineAnswers.{Answer, refusal, usage}
use Rattle.qss_top.specs.declared.status.Status.TheVariants as ends

-- the specified reply: an answer, or a file that is missing
pub data ExpectedReply : Type 0 where
  answered : Answer → ExpectedReply
  file_missing : ExpectedReply

-- the specified result: the files that are read, in order, the contents of those that are found,
-- and the reply
pub record ExpectedResult : Type 0 where
  pub files_read : List (List ℕ)
  pub contents : List (List ℕ)
  pub reply : ExpectedReply

-- these are the contents of the files with these names
abbrev pub AreContents : Files → (names contents : List (List ℕ)) → Type 0
AreContents files [] [] = Unit {0}
AreContents files (name ∷ names) (bytes ∷ contents) = (file_of files name ≡ Some bytes)
    × AreContents files names contents
AreContents files _ _ = ⊥

-- the files that the command reads are found, and this is the answer for their contents
pub record IsAnswered (command : Command) (files : Files) (expected : ExpectedResult) : Type 0 where
  pub answer : Answer
  pub specified : IsAnswerTo command expected.files_read expected.contents answer
  pub found : AreContents files expected.files_read expected.contents
  pub replied : expected.reply ≡ answered answer

-- the files before a needed file are found, and the needed file is missing
pub record LacksFile (command : Command) (files : Files) (expected : ExpectedResult) : Type 0 where
  pub missing : List ℕ
  pub later : List (List ℕ)
  pub named : files_of command ≡ take (length expected.contents) (files_of command)
      ++ missing ∷ later
  pub read : expected.files_read ≡ take (suc (length expected.contents)) (files_of command)
  pub found : AreContents files (take (length expected.contents) (files_of command))
      expected.contents
  pub not_found : file_of files missing ≡ None
  pub needed : NeedsMore (Answers command) expected.contents
  pub replied : expected.reply ≡ file_missing

-- the result of a command for known file contents
abbrev pub CommandExpects : Command → Files → ExpectedResult → Type 0
CommandExpects command files expected = IsAnswered command files expected
    ⊎ LacksFile command files expected

-- the result of an argument list: an invalid command has the usage line for all files; the result
-- of a valid command is specified if the file contents are known
abbrev pub CommandLineExpects : Option Command → Option Files → ExpectedResult → Type 0
CommandLineExpects None files expected = expected ≡ record {
  files_read = [];
  contents = [];
  reply = answered (refusal ends.Usage usage);
}
CommandLineExpects (Some command) None expected = ⊥
CommandLineExpects (Some command) (Some files) expected = CommandExpects command files expected

abbrev pub IsExpectedResult : List (List ℕ) → Option Files → ExpectedResult → Type 0
IsExpectedResult words files expected = CommandLineExpects (command_of words) files expected
