-- What is written of a text if a write or an allocation fails, and the line on standard error.
use Rattle.std.specs.Prelude.{◌≡◌, ◌≢◌, ◌⊎◌, ℕ, List, [], ◌++◌, codes, Option}
use Rattle.std.specs.Io.KnownBytes.{Appends}
use Rattle.mu_io.specs.FaultCounts.{HasOneMoreFault}
use Rattle.mu_io.specs.Sinks.{AppendsPrefix}
use Rattle.qss_top.specs.MachineAnswers.{Answer, usage_line}
use Rattle.qss_top.specs.declared.status.Status.{Status}
use Rattle.qss_top.specs.declared.status.Status.TheVariants as ends

-- some complete lines of the text are appended, but not all of it
pub record StopsAtLine (old new : Option (List ℕ)) (text : List ℕ) : Type 0 where
  pub lines : List ℕ
  pub rest : List ℕ
  pub parts : lines ++ rest ≡ text
  pub ended : (front : List ℕ) × (lines ≡ front ++ codes "\n")
  pub more : rest ≢ []
  pub appended : Appends old new lines

-- the appended text if an allocation fails: nothing, some complete lines, or all text of a run that
-- overflows
abbrev pub IsOutOfMemoryPrefix : Option (List ℕ) → Option (List ℕ) → Answer → Type 0
IsOutOfMemoryPrefix old new answer = Appends old new [] ⊎ (StopsAtLine old new answer.out ⊎ ((answer.status ≡ ends.Overflow) × Appends old new answer.out))

-- the arguments are reported as invalid, or an allocation failed
abbrev pub IsUsageReported : Status → (line : List ℕ) → Type 0
IsUsageReported status line = ((status ≡ ends.Usage) × (line ≡ usage_line))
    ⊎ ((status ≡ ends.Memory) × (line ≡ codes "out of memory\n"))

-- the text is a prefix of the whole text
abbrev pub IsPrefix : (text whole : List ℕ) → Type 0
IsPrefix text whole = (rest : List ℕ) × (text ++ rest ≡ whole)

-- the text is some complete lines of the whole text, but not all of it
pub record EndsAtLine (text whole : List ℕ) : Type 0 where
  pub rest : List ℕ
  pub parts : text ++ rest ≡ whole
  pub ended : (front : List ℕ) × (text ≡ front ++ codes "\n")
  pub more : rest ≢ []

-- the text is some complete lines of the answer's, or all of it if the run overflows
abbrev pub IsCutText : (text : List ℕ) → Answer → Type 0
IsCutText text answer = EndsAtLine text answer.out
    ⊎ ((answer.status ≡ ends.Overflow) × (text ≡ answer.out))

-- the line is appended, or a prefix of it and the fault count is incremented
abbrev pub IsLineWritten : List ℕ → Option (List ℕ) → Option (List ℕ) → ℕ → ℕ → Type 0
IsLineWritten line old new before now = Appends old new line ⊎ (AppendsPrefix old new line × HasOneMoreFault before now)
