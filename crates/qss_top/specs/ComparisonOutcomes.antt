-- The traces of a comparison, as the code obtains them, and the answers that follow.
use Rattle.std.specs.Prelude.{◌≡◌, ◌⊎◌, ℕ, List, [], ◌∷◌, Option, Result, Ok, Err}
use Rattle.std.specs.Prelude.{Vec}
use Rattle.std.specs.declared.alloc.Global.{Global}
use Rattle.mu_io.specs.Files.{Files}
use Rattle.mu_io.specs.Readings.{Reading, ReadsWhole}
use Rattle.qss_machine.specs.declared.compiled_machine.Machine.{Machine}
use Rattle.qss_rows.specs.RowTexts.{name_of}
use Rattle.cert_check.specs.Scope.{IsInScope, IsOutsideBy}
use Rattle.cert_check.specs.declared.certificate.Certificate.{Certificate}
use Rattle.cert_check.specs.declared.certificate_scope.Outside.{Outside}
use Rattle.qss_trace.specs.declared.trace.Trace.{Trace}
use Rattle.qss_answers.specs.Comparisons.{RunSource, traced as given_trace, IsRunTrace}
use Rattle.qss_answers.specs.Comparisons.{HasNoRunTrace, MayStop, IsCompared, IsComparisonRefused}
use Rattle.qss_answers.specs.declared.refusal.Refusal.TheVariants as reasons
use Rattle.qss_answers.specs.declared.comparison_ending.ComparisonStop.{ComparisonStop}
use Rattle.qss_answers.specs.declared.comparison_ending.ComparisonStop.TheVariants as stops
use Rattle.qss_top.specs.CommandAnswers.{Origin, given_run, in_file, IsGivenBy, ComparisonAnswers}
use Rattle.qss_top.specs.FileReadings.{ReadsFile}
use Rattle.qss_top.specs.MachineAnswers.{Answer, comparison_stop_answer, text_answer, rejection}
use Rattle.qss_top.specs.declared.command_outcome.Outcome.{Outcome}
use Rattle.qss_top.specs.declared.command_outcome.Outcome.TheVariants as outcome
use Rattle.qss_top.specs.declared.file_reading.FileKind.TheVariants as kinds

-- the outcome of a comparison that stops; an overflow has the name of its variable, if allocated
abbrev pub IsStopOutcome : Machine → ComparisonStop → Outcome → Type 0
IsStopOutcome m (stops.Refused why) what = what ≡ outcome.Rejected why
IsStopOutcome m (stops.Over tick var) what = (what ≡ outcome.Memory) ⊎ (what ≡ outcome.Overflow (name_of m var) tick)
IsStopOutcome m stops.Memory what = what ≡ outcome.Memory

-- ---- the answers after a step of the comparison

-- the answer for the two traces
abbrev pub PairAnswer : Machine → Certificate → (t1 t2 : Trace) → Answer → Type 0
PairAnswer m c t1 t2 answer =
    ((stop : ComparisonStop) × IsComparisonRefused m c t1 t2 stop
    × (answer ≡ comparison_stop_answer m stop))
    ⊎ ((text : List ℕ) × IsCompared m c t1 t2 text × (answer ≡ text_answer text))

-- the source of run 1 or 2 has no trace and no contents follow, or it has a trace and `Then` gives
-- the answers
abbrev pub AnswersOfSource : Machine → Certificate → (run : ℕ) → RunSource
    → (Then : Trace → List (List ℕ) → Answer → Type 0) → (contents : List (List ℕ)) → Answer → Type 0
AnswersOfSource m c run given Then contents answer =
    ((stop : ComparisonStop) × HasNoRunTrace m c run given stop × (contents ≡ [])
    × (answer ≡ comparison_stop_answer m stop))
    ⊎ ((t : Trace) × IsRunTrace m c given t × Then t contents answer)

-- the answers from run 1 or 2 on; `contents` begins with the bytes of its trace if that is in a file
pub record AnswersFromRun (m : Machine) (c : Certificate) (run : ℕ) (origin : Origin)
    (Then : Trace → List (List ℕ) → Answer → Type 0) (contents : List (List ℕ)) (answer : Answer) :
    Type 0 where
  pub given : RunSource
  pub rest : List (List ℕ)
  pub read : IsGivenBy origin contents rest given
  pub answers : AnswersOfSource m c run given Then rest answer

-- the answers after the first run is obtained
abbrev pub SecondRunAnswers : Origin → Machine → Certificate → (t1 : Trace)
    → (contents : List (List ℕ)) → Answer → Type 0
SecondRunAnswers two m c t1 = AnswersFromRun m c 2 two (λ t2 rest answer. (rest ≡ [])
    × PairAnswer m c t1 t2 answer)

-- the answers after the certificate is read
abbrev pub FirstRunAnswers : (one two : Origin) → Machine → Certificate
    → (contents : List (List ℕ)) → Answer → Type 0
FirstRunAnswers one two m c = AnswersFromRun m c 1 one (SecondRunAnswers two m c)

-- the answer of `compare` for a machine, the bytes of a certificate, and the sources of two runs
abbrev pub IsCompareAnswer : (one two : RunSource) → Machine → List ℕ → Answer → Type 0
IsCompareAnswer one two m text answer =
    ((why : Outside) × IsOutsideBy m why × (answer ≡ rejection (reasons.Outside why)))
    ⊎ (IsInScope m × ComparisonAnswers (given_run one) (given_run two) m text [] answer)

-- the files that are read for a run of this origin
abbrev pub names_of : Origin → List (List ℕ)
names_of (given_run source) = []
names_of (in_file name) = name ∷ []

-- ---- the trace of a run

-- the source of a run: it is given and nothing is read, or the bytes that were read of its file
abbrev pub IsSourceRead : Origin → (old new : List Reading) → RunSource → Type 0
IsSourceRead (given_run source) old new given = (given ≡ source) × (new ≡ old)
IsSourceRead (in_file name) old new given =
    (bytes : List ℕ) × (given ≡ given_trace bytes) × ReadsWhole old new name bytes

-- the trace is obtained from what was read
pub record IsReadTrace (m : Machine) (c : Certificate) (origin : Origin) (old new : List Reading)
    (t : Trace) : Type 0 where
  pub given : RunSource
  pub read : IsSourceRead origin old new given
  pub is : IsRunTrace m c given t

-- the result for the source of a run: its trace, or the outcome of a comparison that stops
abbrev pub IsTraceResult : Machine → Certificate → (run : ℕ) → RunSource → Result Trace Outcome
    → Type 0
IsTraceResult m c run given (Ok t) = IsRunTrace m c given t
IsTraceResult m c run given (Err what) = (stop : ComparisonStop)
    × MayStop (HasNoRunTrace m c run given) stop × IsStopOutcome m stop what

-- the source of a run: it is given, or its file is read up to its end
abbrev pub GivesSource : {S : Type 0} → (contents : S → Option Files) (counts : S → List ℕ → ℕ)
    (readings : S → List Reading) → Origin → RunSource → (old new : S) → Type 0
GivesSource contents counts readings (given_run source) given old new =
    (given ≡ source) × (new ≡ old)
GivesSource contents counts readings (in_file name) given old new = (bytes : Vec ℕ Global)
    × (given ≡ given_trace bytes.items)
    × ReadsFile contents counts readings name kinds.Trace (Ok bytes) old new

-- the trace of the run; or the outcome if its file is not read up to its end, or if its source has
-- no trace
pub record ObtainsTrace {S : Type 0} (contents : S → Option Files) (counts : S → List ℕ → ℕ)
    (readings : S → List Reading) (m : Machine) (c : Certificate) (run : ℕ) (origin : Origin)
    (result : Result Trace Outcome) (old new : S) : Type 0 where
  pub obtained : ((given : RunSource) × GivesSource contents counts readings origin given old new
      × IsTraceResult m c run given result)
      ⊎ ((name : List ℕ) × (what : Outcome) × (origin ≡ in_file name) × (result ≡ Err what)
      × ReadsFile contents counts readings name kinds.Trace (Err what) old new)
