-- The specification: the answer to each command for the bytes of the files that it reads.
-- `contents` are the bytes of these files, in the order of reading. A command whose answer does not
-- depend on its later files reads only the first ones.
use Rattle.std.specs.Prelude.{◌≡◌, ◌⊎◌, ℕ, List, [], ◌∷◌, ◌++◌, take, length}
use Rattle.cert_check.specs.Scope.{IsInScope, IsOutsideBy}
use Rattle.cert_check.specs.declared.certificate.Certificate.{Certificate}
use Rattle.cert_check.specs.declared.certificate_scope.Outside.{Outside}
use Rattle.qss_answers.specs.Comparisons.{RunSource, first_order, second_order}
use Rattle.qss_answers.specs.Comparisons.{traced as given_trace, IsUsableCertificate}
use Rattle.qss_answers.specs.Comparisons.{IsUnusableCertificate, IsRunTrace, HasNoRunTrace}
use Rattle.qss_answers.specs.Comparisons.{IsCompared, IsComparisonRefused}
use Rattle.qss_answers.specs.declared.refusal.Refusal.TheVariants as reasons
use Rattle.qss_answers.specs.declared.comparison_ending.ComparisonStop.{ComparisonStop}
use Rattle.qss_cli.specs.Commands.{Command, RunOptions, plain_options, run_model, print_model}
use Rattle.qss_cli.specs.Commands.{certify_model, upgrade_model, generate_model, check_model}
use Rattle.qss_cli.specs.Commands.{propose_model, second_model, compare_runs, coupled_model}
use Rattle.qss_cli.specs.Commands.{Side, first_run, second_run, traced, files_of}
use Rattle.qss_machine.specs.declared.compiled_machine.Machine.{Machine}
use Rattle.qss_trace.specs.declared.trace.Trace.{Trace}
use Rattle.qss_top.specs.MachineAnswers.{Answer, IsSourceMachine, IsSourceRefusal, rejection}
use Rattle.qss_top.specs.MachineAnswers.{IsMachineAnswer, IsRunAnswer, IsSecondAnswer}
use Rattle.qss_top.specs.MachineAnswers.{IsPrintAnswer, IsProposeAnswer, IsGenerationAnswer}
use Rattle.qss_top.specs.MachineAnswers.{comparison_stop_answer, text_answer, IsCertifyAnswer}
use Rattle.qss_top.specs.MachineAnswers.{IsUpgradeAnswer, IsCheckAnswer}

-- ---- commands on one source

-- `run`: the source is rejected, or it compiles to a machine and the answer prints its run
abbrev pub RunAnswers : RunOptions → (contents : List (List ℕ)) → Answer → Type 0
RunAnswers options (source ∷ []) answer = IsRunAnswer options source answer
RunAnswers options _ answer = ⊥

-- `run2`: the source is rejected, or this is the answer for its machine
abbrev pub Run2Answers : (contents : List (List ℕ)) → Answer → Type 0
Run2Answers (source ∷ []) answer = IsMachineAnswer 0 IsSecondAnswer source answer
Run2Answers _ answer = ⊥

-- `print`: the source is rejected, or it parses as a model and the answer prints this model
abbrev pub PrintAnswers : (contents : List (List ℕ)) → Answer → Type 0
PrintAnswers (source ∷ []) answer = IsPrintAnswer source answer
PrintAnswers _ answer = ⊥

-- `propose`: the source is rejected, or this is the answer for its machine
abbrev pub ProposeAnswers : (contents : List (List ℕ)) → Answer → Type 0
ProposeAnswers (source ∷ []) answer = IsMachineAnswer 0 IsProposeAnswer source answer
ProposeAnswers _ answer = ⊥

-- `gen`: no file is read; the generated source is rejected, or it compiles to a machine and the
-- answer summarizes its run
abbrev pub GenerationAnswers : (seed cells : ℕ) → (contents : List (List ℕ)) → Answer → Type 0
GenerationAnswers seed cells [] answer = IsGenerationAnswer seed cells answer
GenerationAnswers seed cells _ answer = ⊥

-- ---- commands on a source and a second text

-- the source compiles to a machine that has no certificates and traces, and the answer says why
abbrev pub IsOutOfScope : (share : ℕ) → (source : List ℕ) → Answer → Type 0
IsOutOfScope share source answer = (m : Machine) × IsSourceMachine share source m
    × ((why : Outside) × IsOutsideBy m why × (answer ≡ rejection (reasons.Outside why)))

-- the source compiles to this machine, which has certificates and traces
pub record IsScopedMachine (share : ℕ) (source : List ℕ) (m : Machine) : Type 0 where
  pub means : IsSourceMachine share source m
  pub scope : IsInScope m

-- `certify`: only the source is read if it is rejected or out of scope; otherwise a certificate is
-- read, and this is the answer for both
abbrev pub CertifyAnswers : (share : ℕ) → (contents : List (List ℕ)) → Answer → Type 0
CertifyAnswers share (source ∷ []) answer = IsSourceRefusal source answer
    ⊎ IsOutOfScope share source answer
CertifyAnswers share (source ∷ text ∷ []) answer = (m : Machine) × IsScopedMachine share source m
    × IsCertifyAnswer m text answer
CertifyAnswers share _ answer = ⊥

-- `upgrade`: a certificate is read as for `certify`
abbrev pub UpgradeAnswers : (contents : List (List ℕ)) → Answer → Type 0
UpgradeAnswers (source ∷ []) answer = IsSourceRefusal source answer ⊎ IsOutOfScope 0 source answer
UpgradeAnswers (source ∷ text ∷ []) answer = (m : Machine) × IsScopedMachine 0 source m
    × IsUpgradeAnswer m text answer
UpgradeAnswers _ answer = ⊥

-- `check`: a trace is read as the certificate is for `certify`
abbrev pub CheckAnswers : (contents : List (List ℕ)) → Answer → Type 0
CheckAnswers (source ∷ []) answer = IsSourceRefusal source answer ⊎ IsOutOfScope 0 source answer
CheckAnswers (source ∷ text ∷ []) answer = (m : Machine) × IsScopedMachine 0 source m
    × IsCheckAnswer m text answer
CheckAnswers _ answer = ⊥

-- ---- the comparison of two runs

-- the origin of a compared run: a given run, or the trace in a file
pub data Origin : Type 0 where
  given_run : RunSource → Origin
  in_file : (name : List ℕ) → Origin

-- the origin of the run that the command names
abbrev pub origin_of : Side → Origin
origin_of first_run = given_run first_order
origin_of second_run = given_run second_order
origin_of (traced name) = in_file name

-- the source of a run: the given run, or the next of the contents; `rest` is left
abbrev pub IsGivenBy : Origin → (contents rest : List (List ℕ)) → RunSource → Type 0
IsGivenBy (given_run source) contents rest given = (contents ≡ rest) × (given ≡ source)
IsGivenBy (in_file name) contents rest given = (bytes : List ℕ) × (contents ≡ bytes ∷ rest)
    × (given ≡ given_trace bytes)

-- the run of this origin has this trace; `rest` are the contents that are left
pub record IsNamedRun (m : Machine) (c : Certificate) (one : Origin)
    (contents rest : List (List ℕ)) (t : Trace) : Type 0 where
  pub given : RunSource
  pub read : IsGivenBy one contents rest given
  pub run : IsRunTrace m c given t

-- the two runs of these origins have these traces
pub record AreNamedRuns (m : Machine) (c : Certificate) (one two : Origin)
    (contents : List (List ℕ)) (t1 t2 : Trace) : Type 0 where
  pub rest : List (List ℕ)
  pub first : IsNamedRun m c one contents rest t1
  pub second : IsNamedRun m c two rest [] t2

-- the answer to `compare` for a machine, a certificate's text, and the texts of traces, by rules
pub data ComparisonAnswers (one two : Origin) (m : Machine) (text : List ℕ)
    (traces : List (List ℕ)) (answer : Answer) : Type 0 where
  -- the certificate stops the comparison
  no_certificate : (stop : ComparisonStop) → traces ≡ [] → IsUnusableCertificate m text stop
      → answer ≡ comparison_stop_answer m stop → ComparisonAnswers one two m text traces answer
  -- the first run stops it
  no_first_run : (c : Certificate) (given : RunSource) (stop : ComparisonStop)
      → IsUsableCertificate m text c → IsGivenBy one traces [] given
      → HasNoRunTrace m c 1 given stop → answer ≡ comparison_stop_answer m stop
      → ComparisonAnswers one two m text traces answer
  -- the second run stops it
  no_second_run : (c : Certificate) (t1 : Trace) (rest : List (List ℕ)) (given : RunSource)
      (stop : ComparisonStop) → IsUsableCertificate m text c → IsNamedRun m c one traces rest t1
      → IsGivenBy two rest [] given → HasNoRunTrace m c 2 given stop
      → answer ≡ comparison_stop_answer m stop → ComparisonAnswers one two m text traces answer
  -- a sum is out of range
  not_compared : (c : Certificate) (t1 t2 : Trace) (stop : ComparisonStop)
      → IsUsableCertificate m text c → AreNamedRuns m c one two traces t1 t2
      → IsComparisonRefused m c t1 t2 stop → answer ≡ comparison_stop_answer m stop
      → ComparisonAnswers one two m text traces answer
  -- the two runs are compared
  compared : (c : Certificate) (t1 t2 : Trace) (line : List ℕ) → IsUsableCertificate m text c
      → AreNamedRuns m c one two traces t1 t2 → IsCompared m c t1 t2 line
      → answer ≡ text_answer line → ComparisonAnswers one two m text traces answer

-- `compare`: a certificate is read as for `certify`, and then the traces of runs that are files
abbrev pub CompareAnswers : (one two : Side) → (contents : List (List ℕ)) → Answer → Type 0
CompareAnswers one two (source ∷ []) answer = IsSourceRefusal source answer
    ⊎ IsOutOfScope 0 source answer
CompareAnswers one two (source ∷ text ∷ traces) answer = (m : Machine)
    × IsScopedMachine 0 source m
    × ComparisonAnswers (origin_of one) (origin_of two) m text traces answer
CompareAnswers one two _ answer = ⊥

-- ---- all commands

-- the answer to a command for the bytes of the files that it reads
abbrev pub Answers : Command → (contents : List (List ℕ)) → Answer → Type 0
Answers (run_model model options) = RunAnswers options
Answers (coupled_model model) = RunAnswers plain_options
Answers (second_model model) = Run2Answers
Answers (print_model model) = PrintAnswers
Answers (generate_model seed cells) = GenerationAnswers seed cells
Answers (propose_model model) = ProposeAnswers
Answers (certify_model model certificate share) = CertifyAnswers share
Answers (upgrade_model model certificate) = UpgradeAnswers
Answers (check_model model trace) = CheckAnswers
Answers (compare_runs model certificate one two) = CompareAnswers one two

-- the answer to a command that reads the files of these names, which are the first ones of those
-- that the command lists
abbrev pub IsAnswerTo : Command → (names contents : List (List ℕ)) → Answer → Type 0
IsAnswerTo command names contents answer = (names ≡ take (length contents) (files_of command))
    × Answers command contents answer

-- a further file is needed: some longer list that begins with these contents has an answer
abbrev pub NeedsMore : (IsSpecified : List (List ℕ) → Answer → Type 0)
    → (contents : List (List ℕ)) → Type 0
NeedsMore IsSpecified contents = (bytes : List ℕ) × (more : List (List ℕ)) × (answer : Answer)
    × IsSpecified (contents ++ bytes ∷ more) answer
