-- The tasks on a model and a second text, as the code executes them.
use Rattle.std.specs.Prelude.{◌≡◌, ◌⊎◌, ◌<◌, ◌≤◌, ℕ, List, [], ◌∷◌, ◌++◌, length}
use Rattle.mu_num.specs.Limits.{model_length_limit}
use Rattle.qss_machine.specs.declared.compiled_machine.Machine.{Machine}
use Rattle.qss_rows.specs.declared.simulation_rows.RunResult.{RunResult}
use Rattle.qss_rows.specs.declared.simulation_rows.RunResult.TheVariants as runs
use Rattle.cert_check.specs.Scope.{IsInScope, IsOutsideBy}
use Rattle.cert_check.specs.declared.certificate_scope.Outside.{Outside}
use Rattle.qss_answers.specs.declared.answer_result.AnswerResult.{AnswerResult}
use Rattle.qss_answers.specs.declared.answer_result.AnswerResult.TheVariants as ending
use Rattle.qss_answers.specs.declared.refusal.Refusal.TheVariants as reasons
use Rattle.qss_cli.specs.Commands.{files_of_side}
use Rattle.qss_compile.specs.Compilation.{IsRefused}
use Rattle.qss_cli.specs.RelativeQuanta.{share_of_task}
use Rattle.qss_cli.specs.Requests.{side_in}
use Rattle.qss_cli.specs.declared.request.TwoFileTask.{TwoFileTask}
use Rattle.qss_cli.specs.declared.request.TwoFileTask.TheVariants as two
use Rattle.qss_top.specs.CommandAnswers.{ComparisonAnswers, origin_of}
use Rattle.qss_top.specs.CommandOutcomes.{IsRefusedFor}
use Rattle.qss_top.specs.FileReadings.{limit_of, long_outcome}
use Rattle.qss_top.specs.MachineAnswers.{Answer, rejection, IsSourceRefusal, IsSourceMachine}
use Rattle.qss_top.specs.MachineAnswers.{IsCertifyAnswer, IsUpgradeAnswer, IsCheckAnswer}
use Rattle.qss_top.specs.declared.command_outcome.Outcome.{Outcome}
use Rattle.qss_top.specs.declared.command_outcome.Outcome.TheVariants as outcome
use Rattle.qss_top.specs.declared.file_reading.FileKind.{FileKind}
use Rattle.qss_top.specs.declared.file_reading.FileKind.TheVariants as kinds

-- the answers of the task for a machine in scope, the second text, and the texts of traces
abbrev pub TextAnswers : TwoFileTask → Machine → (text : List ℕ) → (traces : List (List ℕ)) → Answer
    → Type 0
TextAnswers (two.Certify share) m text traces answer = (traces ≡ [])
    × IsCertifyAnswer m text answer
TextAnswers two.Upgrade m text traces answer = (traces ≡ []) × IsUpgradeAnswer m text answer
TextAnswers two.Check m text traces answer = (traces ≡ []) × IsCheckAnswer m text answer
TextAnswers (two.Compare sides) m text traces answer = ComparisonAnswers
    (origin_of (side_in sides.one)) (origin_of (side_in sides.two)) m text traces answer

-- the answers of the task for a machine; the second text is read only if the machine is in scope
abbrev pub ScopeAnswers : TwoFileTask → Machine → (contents : List (List ℕ)) → Answer → Type 0
ScopeAnswers task m [] answer = (why : Outside) × IsOutsideBy m why
    × (answer ≡ rejection (reasons.Outside why))
ScopeAnswers task m (text ∷ traces) answer = IsInScope m × TextAnswers task m text traces answer

-- the answers of the task for a source; if it is rejected, nothing more is read
abbrev pub SourceAnswers : TwoFileTask → (source : List ℕ) → (contents : List (List ℕ)) → Answer
    → Type 0
SourceAnswers task source contents answer = ((contents ≡ []) × IsSourceRefusal source answer)
    ⊎ ((m : Machine) × IsSourceMachine (share_of_task task) source m
    × ScopeAnswers task m contents answer)

-- the files that may be read after the second text
abbrev pub files_after_text : TwoFileTask → List (List ℕ)
files_after_text (two.Certify share) = []
files_after_text two.Upgrade = []
files_after_text two.Check = []
files_after_text (two.Compare sides) = files_of_side (side_in sides.one) ++ files_of_side
    (side_in sides.two)

-- what the second file contains
abbrev pub kind_in : TwoFileTask → FileKind
kind_in (two.Certify share) = kinds.Certificate
kind_in two.Upgrade = kinds.Certificate
kind_in two.Check = kinds.Trace
kind_in (two.Compare sides) = kinds.Certificate

-- the machine has no certificates and traces, or the text is too long, and this is the outcome
abbrev pub IsTextUnparsed : FileKind → Machine → (text : List ℕ) → Outcome → Type 0
IsTextUnparsed kind m text what =
    ((why : Outside) × IsOutsideBy m why × (what ≡ outcome.Rejected (reasons.Outside why)))
    ⊎ (IsInScope m × (limit_of kind < length text) × (what ≡ long_outcome kind))

-- the outcome for a source and a text, if the text is not parsed: the source is too long or is
-- rejected, or the text is refused for its machine
abbrev pub IsRefusedBefore : (share : ℕ) → (source : List ℕ) → FileKind → (text : List ℕ) → Outcome
    → Type 0
IsRefusedBefore share source kind text what =
    ((model_length_limit < length source) × (what ≡ outcome.TooLong))
    ⊎ ((length source ≤ model_length_limit) × IsRefusedFor (IsRefused source) what)
    ⊎ ((m : Machine) × IsSourceMachine share source m × IsTextUnparsed kind m text what)

-- the outcome for the result of a certificate, a trace or a proposal
abbrev pub outcome_by : AnswerResult → Outcome
outcome_by ending.Written = outcome.Done
outcome_by (ending.Refused why) = outcome.Rejected why
outcome_by ending.Fault = outcome.WriteFault
outcome_by ending.Memory = outcome.Memory

-- the outcome for the result of a run
abbrev pub outcome_of_run : RunResult → Outcome
outcome_of_run runs.Ended = outcome.Done
outcome_of_run (runs.Overflowed name tick) = outcome.Overflow name tick
outcome_of_run runs.Fault = outcome.WriteFault
outcome_of_run runs.Memory = outcome.Memory
