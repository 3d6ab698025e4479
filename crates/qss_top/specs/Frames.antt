-- How a call changes standard output, fault counts and readings.
use Rattle.std.specs.Prelude.{◌≡◌, ◌≢◌, ◌≤◌, ◌⊎◌, ℕ, Bool, true, List, [], ◌∷◌, ◌++◌, All}
use Rattle.std.specs.Prelude.{Option, Some}
use Rattle.std.specs.Io.KnownBytes.{Appends}
use Rattle.mu_io.specs.FaultCounts.{HasOneMoreFault}
use Rattle.mu_io.specs.Files.{Files}
use Rattle.mu_io.specs.Readings.{Reading, IsOf, faulted, reading}
use Rattle.mu_io.specs.Sinks.{EndsByFault}
use Rattle.qss_top.specs.MachineAnswers.{Answer}
use Rattle.qss_top.specs.CommandOutcomes.{IsOutcome, status_of}
use Rattle.qss_top.specs.ReadAnswers.{AnswersFromReads}
use Rattle.qss_top.specs.Statuses.{leaves_out}
use Rattle.qss_top.specs.declared.command_outcome.Outcome.{Outcome}
use Rattle.qss_top.specs.declared.command_outcome.Outcome.TheVariants as outcome

-- the output before and after a call with this outcome; `goes` states that the call writes while it
-- runs
pub record IsOutputFrame {K : Type 0} (faults : K → ℕ) (failed : K → Bool) (goes : Bool)
    (what : Outcome) (old new : K) : Type 0 where
  -- a rejection writes nothing
  pub untouched : leaves_out goes (status_of what) ≡ true → new ≡ old
  -- only a write fault increments the fault count
  pub no_new_fault : what ≢ outcome.WriteFault → faults new ≡ faults old
  -- the last write caused the write fault
  pub fault_was_last : what ≡ outcome.WriteFault → EndsByFault faults failed old new

-- the output before and after a call that reads no file and parses no command line
pub record IsWriteFrame {K : Type 0} (faults : K → ℕ) (failed : K → Bool) (goes : Bool)
    (what : Outcome) (old new : K) : Type 0 where
  pub not_usage : what ≢ outcome.Usage
  pub not_read : what ≢ outcome.ReadFault
  pub frame : IsOutputFrame faults failed goes what old new

-- readings were only added; if the file contents are known, the added ones are possible for them
pub record AddsReadings (files : Option Files) (old new : List Reading) : Type 0 where
  pub added : List Reading
  pub parts : new ≡ added ++ old
  pub possible : (known : Files) → files ≡ Some known → All (IsOf known) added

-- the last reading failed, and the fault count of its file was incremented, or stays at its greatest
-- value; the fault counts of other files are unchanged
pub record CountsLastFault (new : List Reading) (before now : List ℕ → ℕ) : Type 0 where
  pub name : List ℕ
  pub bytes : List ℕ
  pub earlier : List Reading
  pub last : new ≡ reading name bytes faulted ∷ earlier
  pub incremented : HasOneMoreFault (before name) (now name)
  pub others : (other : List ℕ) → other ≢ name → now other ≡ before other

-- the files before and after a call with this outcome
pub record IsFileFrame {S : Type 0} (contents : S → Option Files) (counts : S → List ℕ → ℕ)
    (readings : S → List Reading) (what : Outcome) (old new : S) : Type 0 where
  pub same_files : contents new ≡ contents old
  pub counts_never_fall : (name : List ℕ) → counts old name ≤ counts new name
  pub adds_readings : AddsReadings (contents old) (readings old) (readings new)
  -- only a read fault increments a fault count
  pub no_read_fault : what ≢ outcome.ReadFault → (name : List ℕ) → counts new name ≡ counts old name
  -- the last reading caused the read fault
  pub fault_was_last : what ≡ outcome.ReadFault
      → CountsLastFault (readings new) (counts old) (counts new)

-- the outcome and the written text are possible for an answer that satisfies the predicate
pub record IsAnsweredBy (IsSuch : Answer → Type 0) (what : Outcome) (old new : Option (List ℕ)) :
    Type 0 where
  pub answer : Answer
  pub such : IsSuch answer
  pub outcome : IsOutcome answer what old new

-- a call that reads no file: an allocation failed and nothing was written, or the outcome and the
-- written text are possible for an answer that satisfies the predicate
pub record WritesAnswer {K : Type 0} (written : K → Option (List ℕ)) (faults : K → ℕ)
    (failed : K → Bool) (goes : Bool) (IsSuch : Answer → Type 0) (what : Outcome) (old new : K) :
    Type 0 where
  pub answered : ((what ≡ outcome.Memory) × Appends (written old) (written new) [])
      ⊎ IsAnsweredBy IsSuch what (written old) (written new)
  pub output : IsWriteFrame faults failed goes what old new

-- a call reads first files of these names: the outcome and the text are specified by the bytes that
-- it reads (`AnswersFromReads`), and the frame conditions hold
pub record AnswersFromFiles {S K : Type 0} (contents : S → Option Files) (counts : S → List ℕ → ℕ)
    (readings : S → List Reading) (written : K → Option (List ℕ)) (faults : K → ℕ)
    (failed : K → Bool) (goes : Bool) (names : List (List ℕ))
    (IsSpecified : List (List ℕ) → Answer → Type 0) (what : Outcome) (shelf_old shelf_new : S)
    (old new : K) : Type 0 where
  pub reads : AnswersFromReads names IsSpecified what (written old) (written new)
      (readings shelf_old) (readings shelf_new)
  pub not_usage : what ≢ outcome.Usage
  pub output : IsOutputFrame faults failed goes what old new
  pub shelf : IsFileFrame contents counts readings what shelf_old shelf_new
