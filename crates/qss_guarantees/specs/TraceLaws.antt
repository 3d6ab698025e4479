-- The theorems about `check` and about comparisons.
use Rattle.std.specs.Prelude.{◌≡◌, ◌↔◌, ◌⊎◌, ℕ, List}
use Rattle.qss_machine.specs.declared.compiled_machine.Machine.{Machine}
use Rattle.cert_check.specs.Scope.{IsInScope}
use Rattle.cert_check.specs.declared.certificate.Certificate.{Certificate}
use Rattle.qss_trace.specs.Trace.{IsRunOf}
use Rattle.qss_trace.specs.declared.trace.Trace.{Trace}
use Rattle.qss_answers.specs.Answers.{Answer, written}
use Rattle.qss_answers.specs.TraceAnswers.{IsRead, IsChecked, summary}
use Rattle.qss_answers.specs.Comparisons.{RunSource, IsUsableCertificate, IsUnusableCertificate}
use Rattle.qss_answers.specs.Comparisons.{IsRunTrace, HasNoRunTrace, IsCompared}
use Rattle.qss_answers.specs.Comparisons.{IsComparisonRefused}
use Rattle.qss_answers.specs.ComparedBounds.{AreWithinBound}
use Rattle.qss_answers.specs.declared.comparison_ending.ComparisonStop.{ComparisonStop}

-- a machine and bytes determine exactly one result
pub record TraceAnswersAreOne : Type 0 where
  pub some_answer : (m : Machine) (bytes : List ℕ) → (answer : Answer) × IsChecked m bytes answer
  pub one_answer : (m : Machine) (bytes : List ℕ) (answer other : Answer) → IsChecked m bytes answer
      → IsChecked m bytes other → answer ≡ other

-- a trace has a summary if and only if it is a legitimate run from the machine's start, with the
-- scale, the refinement and the quanta that it states
abbrev pub RunsAreAccepted : Type 0
RunsAreAccepted =
    (m : Machine) (bytes text : List ℕ) → IsChecked m bytes (written text)
    ↔ ((t : Trace) × IsRead m bytes t × IsRunOf m t × (text ≡ summary t))

-- a step of a comparison has exactly one value, or exactly one reason why it has none
pub record IsJudged {X : Type 0} (Gives : X → Type 0)
    (Stops : ComparisonStop → Type 0) : Type 0 where
  pub some : ((x : X) × Gives x) ⊎ ((stop : ComparisonStop) × Stops stop)
  pub one : (x y : X) → Gives x → Gives y → x ≡ y
  pub one_stop : (stop other : ComparisonStop) → Stops stop → Stops other → stop ≡ other
  pub apart : (x : X) (stop : ComparisonStop) → Gives x → Stops stop → ⊥

-- each step of a comparison is decided: its certificate, each of its runs, and its text
pub record ComparisonsAreJudged : Type 0 where
  pub bases : (m : Machine) (bytes : List ℕ) → IsJudged (IsUsableCertificate m bytes)
      (IsUnusableCertificate m bytes)
  pub sides : (m : Machine) (c : Certificate) (run : ℕ) (given : RunSource) → IsInScope m
      → IsJudged (IsRunTrace m c given) (HasNoRunTrace m c run given)
  pub texts : (m : Machine) (c : Certificate) (t1 t2 : Trace)
      → IsJudged (IsCompared m c t1 t2) (IsComparisonRefused m c t1 t2)

-- compared runs are within the bound, if the machine's quanta are not relative to their levels
abbrev pub ComparedRunsAreWithinBound : Type 0
ComparedRunsAreWithinBound =
    (m : Machine) (bytes : List ℕ) (c : Certificate) (one two : RunSource) (t1 t2 : Trace)
    (text : List ℕ) → m.relative ≡ 0
    → IsUsableCertificate m bytes c → IsRunTrace m c one t1 → IsRunTrace m c two t2
    → IsCompared m c t1 t2 text → AreWithinBound m c t1 t2 text
