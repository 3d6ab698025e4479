-- Existence, uniqueness and properties of the specified answers.
use Rattle.std.specs.Prelude.{◌≡◌, ◌↔◌, ℕ, List, [], ◌∷◌, Option, Some}
use Rattle.mu_io.specs.Files.{Files}
use Rattle.qss_answers.specs.Comparisons.{RunSource}
use Rattle.qss_cli.specs.declared.request.Task.{Task}
use Rattle.qss_cli.specs.Commands.{Command, plain_options, run_model, print_model, certify_model}
use Rattle.qss_cli.specs.Commands.{upgrade_model, generate_model, check_model, propose_model}
use Rattle.qss_cli.specs.Commands.{second_model, compare_runs, coupled_model}
use Rattle.qss_top.specs.CommandAnswers as Commands
use Rattle.qss_top.specs.CommandAnswers.{IsAnswerTo}
use Rattle.qss_top.specs.ComparisonOutcomes.{IsCompareAnswer}
use Rattle.qss_top.specs.MachineAnswers.{Answer, IsMachineAnswer, IsPrintAnswer, IsCertifyAnswer}
use Rattle.qss_top.specs.MachineAnswers.{IsUpgradeAnswer, IsCheckAnswer}
use Rattle.qss_top.specs.Tasks.{IsSourceAnswer}
use Rattle.qss_guarantees.specs.ExpectedResults.{ExpectedResult, IsExpectedResult}
use Rattle.qss_guarantees.specs.Guarantees.{IsRunStatus}
use Rattle.qss_guarantees.specs.Theorems.{RunPrintsRowsOfMachine, Run2PrintsSecondOrderRows}
use Rattle.qss_guarantees.specs.Theorems.{PrintPrintsCanonicalText, GenPrintsSummary}
use Rattle.qss_guarantees.specs.Theorems.{CertifyIsSound, CertifyIsComplete}
use Rattle.qss_guarantees.specs.Theorems.{ProposeIsSound, ProposeIsComplete, CheckAcceptsRuns}
use Rattle.qss_guarantees.specs.Theorems.{CompareIsSound, CompareIsComplete}
use Rattle.qss_guarantees.specs.Theorems.{UpgradeKeepsCertificate, UpgradeIsComplete}

-- at most one answer has the property
abbrev pub IsUnique : (Has : Answer → Type 0) → Type 0
IsUnique Has = (a b : Answer) → Has a → Has b → a ≡ b

-- each answer has the property
abbrev pub EachAnswer : (IsAnswer Has : Answer → Type 0) → Type 0
EachAnswer IsAnswer Has = (answer : Answer) → IsAnswer answer → Has answer

-- each answer for one source has the property
abbrev pub EachForSource : (Answers : List (List ℕ) → Answer → Type 0)
    → (Has : List ℕ → Answer → Type 0) → Type 0
EachForSource Answers Has = (source : List ℕ) → EachAnswer (Answers (source ∷ [])) (Has source)

-- each answer for a source and a second text has the property
abbrev pub EachForText : (Answers : List (List ℕ) → Answer → Type 0)
    → (Has : List ℕ → List ℕ → Answer → Type 0) → Type 0
EachForText Answers Has = (source text : List ℕ)
    → EachAnswer (Answers (source ∷ text ∷ [])) (Has source text)

-- each answer for a source, a second text and the texts of traces has the property
abbrev pub EachForTraces : (Answers : List (List ℕ) → Answer → Type 0)
    → (Has : List ℕ → List ℕ → List (List ℕ) → Answer → Type 0) → Type 0
EachForTraces Answers Has = (source text : List ℕ) (traces : List (List ℕ))
    → EachAnswer (Answers (source ∷ text ∷ traces)) (Has source text traces)

-- the properties of the answer to a command for the bytes of the files that it reads; if a command
-- reads only some of its files, the status is neither 0 nor 6
abbrev pub HasProperties : Command → (contents : List (List ℕ)) → Answer → Type 0
HasProperties (run_model model options) (source ∷ []) answer =
    RunPrintsRowsOfMachine options source answer
HasProperties (coupled_model model) (source ∷ []) answer =
    RunPrintsRowsOfMachine plain_options source answer
HasProperties (second_model model) (source ∷ []) answer = Run2PrintsSecondOrderRows source answer
HasProperties (print_model model) (source ∷ []) answer = PrintPrintsCanonicalText source answer
HasProperties (generate_model seed cells) [] answer = GenPrintsSummary seed cells answer
HasProperties (propose_model model) (source ∷ []) answer =
    ProposeIsSound source answer × ProposeIsComplete source answer
HasProperties (certify_model model certificate share) (source ∷ text ∷ []) answer =
    CertifyIsSound share source text answer × CertifyIsComplete share source text answer
HasProperties (check_model model trace) (source ∷ text ∷ []) answer =
    CheckAcceptsRuns source text answer
HasProperties (compare_runs model certificate one two) (source ∷ text ∷ traces) answer =
    CompareIsSound one two source text traces answer
    × CompareIsComplete one two source text traces answer
HasProperties (upgrade_model model certificate) (source ∷ text ∷ []) answer =
    UpgradeKeepsCertificate source text answer × UpgradeIsComplete source text answer
HasProperties _ _ answer = IsRunStatus answer.status → ⊥

-- each answer of the specification has the properties of its command
abbrev pub AnswersHaveProperties : Type 0
AnswersHaveProperties = (command : Command) (contents : List (List ℕ)) (answer : Answer)
    → Commands.Answers command contents answer → HasProperties command contents answer

-- `devs` has the answers of `run` without options
abbrev pub DevsAnswersAsRun : Type 0
DevsAnswersAsRun = (model : List ℕ) (contents : List (List ℕ)) (answer : Answer)
    → Commands.Answers (coupled_model model) contents answer
    ↔ Commands.Answers (run_model model plain_options) contents answer

-- arguments and files determine at most one result
abbrev pub AnswersAreUnique : Type 0
AnswersAreUnique = (words : List (List ℕ)) (files : Option Files) (first second : ExpectedResult)
    → IsExpectedResult words files first → IsExpectedResult words files second → first ≡ second

-- the bytes that a command reads determine at most one answer, and the files that it reads
abbrev pub BytesDetermineAnswers : Type 0
BytesDetermineAnswers = (command : Command) (names others contents : List (List ℕ))
    (first second : Answer) → IsAnswerTo command names contents first
    → IsAnswerTo command others contents second → (names ≡ others) × (first ≡ second)

-- the bytes of the files determine at most one answer of each call that takes these bytes
pub record ByteAnswersAreUnique : Type 0 where
  pub source : (task : Task) (bytes : List ℕ) → IsUnique (IsSourceAnswer task bytes)
  pub print : (bytes : List ℕ) → IsUnique (IsPrintAnswer bytes)
  pub certificate : (share : ℕ) (bytes text : List ℕ)
      → IsUnique (IsMachineAnswer share (λ m. IsCertifyAnswer m text) bytes)
  pub upgrade : (bytes text : List ℕ)
      → IsUnique (IsMachineAnswer 0 (λ m. IsUpgradeAnswer m text) bytes)
  pub trace : (bytes text : List ℕ) → IsUnique (IsMachineAnswer 0 (λ m. IsCheckAnswer m text) bytes)
  pub comparison : (one two : RunSource) (bytes text : List ℕ)
      → IsUnique (IsMachineAnswer 0 (λ m. IsCompareAnswer one two m text) bytes)

-- arguments and files determine a result
abbrev pub AnswersExist : Type 0
AnswersExist = (words : List (List ℕ)) (files : Files) → (expected : ExpectedResult)
    × IsExpectedResult words (Some files) expected
