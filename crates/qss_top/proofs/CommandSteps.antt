-- The answers of the steps of commands on one file and on two files.
use Rattle.qss_top.proofs.Common
use Common.{[], ℕ, ◌<◌, ◌^◌, ◌∷◌, ◌≡◌, ◌⊎◌, Answer, Answers, command_on, command_with, files_of}
use Common.{inl, inr, IsInScope, IsRefused, length, limit_of, List, long_answer, Machine, names_of}
use Common.{refl, refusal, ScopeAnswers, Task, too_long, TwoFileTask}
use Rattle.qss_cli.specs.Commands.{Side, first_run, second_run, traced, files_of_side}
use Rattle.qss_cli.specs.RelativeQuanta.{share_of_task}
use Rattle.qss_top.specs.CertificateOutcomes.{SourceAnswers, TextAnswers, files_after_text, kind_in}
use Rattle.qss_top.specs.CommandAnswers.{IsOutOfScope, IsScopedMachine, origin_of}
use Rattle.qss_top.specs.MachineAnswers.{IsSourceRefusal}
use Rattle.qss_top.specs.Tasks.{IsSourceAnswer}
use Rattle.qss_top.proofs.AnswerOutcomes.{long_certify, long_upgrade, long_check, long_compare}
use Rattle.qss_top.proofs.Sources.{long_for}
use Rattle.qss_cli.specs.declared.request.Task.TheVariants as tasks
use Rattle.qss_cli.specs.declared.request.TwoFileTask.TheVariants as two
use Rattle.qss_top.specs.declared.status.Status.TheVariants as ends

-- ---- a command on one file

-- the answer for the source of the task is that for the contents of the command
pub of_source : (task : Task) (model bytes : List ℕ) (a : Answer) → IsSourceAnswer task bytes a
    → Answers (command_with task model) (bytes ∷ []) a
of_source (tasks.Run options) model bytes a h = h
of_source tasks.Propose model bytes a h = h
of_source tasks.Second model bytes a h = h
of_source tasks.Coupled model bytes a h = h

-- a model that is too long is rejected
pub long_model : (task : Task) (model bytes : List ℕ) → 2 ^ 20 < length bytes
    → Answers (command_with task model) (bytes ∷ []) (refusal ends.ModelRefused too_long)
long_model task model bytes long = of_source task model bytes (refusal ends.ModelRefused too_long)
    (inl (long_for IsRefused bytes long))

-- the command reads this file
pub file_of_task : (task : Task) (model : List ℕ) → files_of (command_with task model) ≡ model ∷ []
file_of_task (tasks.Run options) model = refl
file_of_task tasks.Propose model = refl
file_of_task tasks.Second model = refl
file_of_task tasks.Coupled model = refl

-- ---- a command on two files

-- the command reads these files
pub files_of_task : (task : TwoFileTask) (model second : List ℕ)
    → files_of (command_on task model second) ≡ model ∷ second ∷ files_after_text task
files_of_task (two.Certify share) model second = refl
files_of_task two.Upgrade model second = refl
files_of_task two.Check model second = refl
files_of_task (two.Compare sides) model second = refl

-- the files of a run that the command names
pub side_names : (side : Side) → names_of (origin_of side) ≡ files_of_side side
side_names first_run = refl
side_names second_run = refl
side_names (traced name) = refl

-- only the source is read
source_only : (task : TwoFileTask) (source : List ℕ) (a : Answer) → SourceAnswers task source [] a
    → IsSourceRefusal source a ⊎ IsOutOfScope (share_of_task task) source a
source_only task source a (inl says) = inl says.1
source_only task source a (inr outside) = inr outside

-- the second text is read
with_text : (task : TwoFileTask) (source text : List ℕ) (traces : List (List ℕ)) (a : Answer)
    → SourceAnswers task source (text ∷ traces) a → (m : Machine)
    × IsScopedMachine (share_of_task task) source m × TextAnswers task m text traces a
with_text task source text traces a (inl says) = absurd (cc (says.0))
with_text task source text traces a (inr (m, means, (scope, is))) =
    (m, record { means = means; scope = scope }, is)

-- the answers for the source of the task are those for the contents of the command
module _ (model second source : List ℕ) where
  pub of_sources : (task : TwoFileTask) (contents : List (List ℕ)) (a : Answer)
      → SourceAnswers task source contents a
      → Answers (command_on task model second) (source ∷ contents) a
  of_sources (two.Certify share) [] a h = source_only (two.Certify share) source a h
  of_sources (two.Certify share) (text ∷ traces) a h =
      let (m, is, (none, such)) = with_text (two.Certify share) source text traces a h in
      rw none (m, is, such)
  of_sources two.Upgrade [] a h = source_only two.Upgrade source a h
  of_sources two.Upgrade (text ∷ traces) a h =
      let (m, is, (none, such)) = with_text two.Upgrade source text traces a h in
      rw none (m, is, such)
  of_sources two.Check [] a h = source_only two.Check source a h
  of_sources two.Check (text ∷ traces) a h =
      let (m, is, (none, such)) = with_text two.Check source text traces a h in
      rw none (m, is, such)
  of_sources (two.Compare sides) [] a h = source_only (two.Compare sides) source a h
  of_sources (two.Compare sides) (text ∷ traces) a h =
      with_text (two.Compare sides) source text traces a h

  -- a model that is too long is rejected
  pub long_first : (task : TwoFileTask) → 2 ^ 20 < length source
      → Answers (command_on task model second) (source ∷ []) (refusal ends.ModelRefused too_long)
  long_first task long = of_sources task [] (refusal ends.ModelRefused too_long)
      (inl (refl, long_for IsRefused source long))

-- a second text that is too long is rejected
pub long_second : (task : TwoFileTask) (m : Machine) → IsInScope m → (text : List ℕ)
    → limit_of (kind_in task) < length text
    → ScopeAnswers task m (text ∷ []) (long_answer (kind_in task))
long_second (two.Certify share) m scope text long =
    (scope, (refl, long_certify m text scope long))
long_second two.Upgrade m scope text long = (scope, (refl, long_upgrade m text scope long))
long_second two.Check m scope text long = (scope, (refl, long_check m text scope long))
long_second (two.Compare sides) m scope text long = (scope, long_compare m text scope long)
