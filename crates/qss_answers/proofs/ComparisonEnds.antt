-- How the steps of a comparison end.
use Rattle.qss_answers.proofs.Common
use Common.{ℕ, ◌≡◌, Certificate, Err, first_order, IfErr, inl, inr, Machine, Ok, refl, Result}
use Common.{second_order, state_count, subst, sym, Trace, traced}
use Rattle.qss_answers.specs.Comparisons.{RunSource, IsGivenRun, IsFirstAbove, HasNoRunTrace}
use Rattle.qss_answers.specs.Comparisons.{MayStop, IfMemory}
use Rattle.qss_answers.specs.declared.comparison_ending.ComparisonStop.{ComparisonStop}
use Rattle.qss_answers.specs.declared.comparison_ending.ComparisonStop.TheVariants as stops
use Rattle.qss_answers.specs.declared.refusal.Refusal.TheVariants as refusal

-- the trace of a run has the machine's number of states
pub given_size : (m : Machine) (given : RunSource) (t : Trace) → IsGivenRun m given t
    → t.n ≡ state_count m
given_size m first_order t p = p.1.is_trace.size
given_size m second_order t p = p.1.is_trace.size
given_size m (traced bytes) t p = p.read.text.2.size

-- a quantum that exceeds the certificate's stops the comparison
pub allowed_stopped : (m : Machine) (c : Certificate) (run : ℕ) (given : RunSource) (t : Trace)
    (result : Result Trace ComparisonStop) → IsGivenRun m given t
    → IfErr result (λ stop. (state : ℕ) × IsFirstAbove c t state
    × (stop ≡ stops.Refused (refusal.Quantum run state)))
    → IfErr result (MayStop (HasNoRunTrace m c run given))
allowed_stopped m c run given t (Ok u) is h = tt
allowed_stopped m c run given t (Err stop) is (state, above, told) =
    inr (subst (HasNoRunTrace m c run given) (sym told) (inr (inl (t, state, is, above, refl))))

-- what holds, holds if an allocation fails
pub taken_so : {T : Type 0} (Holds : Type 0) (result : Result T ComparisonStop) → Holds
    → IfErr result (IfMemory Holds)
taken_so Holds (Ok t) h = tt
taken_so Holds (Err stop) h = λ told. h
