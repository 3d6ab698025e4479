-- The theorems about traces.
use Rattle.std.specs.Prelude.{◌≡◌, ℕ, ◌<◌, ◌≤◌, ◌⊎◌, List, length, ℤ, ◌≤ℤ◌}
use Rattle.qss_machine.specs.declared.compiled_machine.Machine.{Machine}
use Rattle.mu_num.specs.IndexedSums.{int_at}
use Rattle.mu_num.specs.Limits.{trace_length_limit}
use Rattle.qss_machine.specs.Machines.{state_count, level_unit, start_states}
use Rattle.cert_check.specs.CertificateLimits.{IsSize}
use Rattle.cert_check.specs.declared.certificate.Certificate.{Certificate}
use Rattle.cert_check.specs.Bounds.{IsCertifiedRun, BoundsAreGuaranteed}
use Rattle.qss_trace.specs.declared.trace.Trace.{Trace}
use Rattle.qss_trace.specs.declared.trace_checker.TraceVerdict.{TraceVerdict}
use Rattle.cert_check.specs.declared.text_err.TextErr.{TextErr}
use Rattle.qss_trace.specs.TraceTexts.{IsTextOf, IsFaultOf}
use Rattle.qss_trace.specs.Trace.{states_of, levels_of, IsRunOf}
use Rattle.qss_trace.specs.TraceVerdicts.{IsVerdict}
use Rattle.qss_trace.specs.CommonTicks.{IsGreatestFound, IsGreatest}
use Rattle.qss_trace.specs.declared.trace_comparison.Greatest.{Greatest}

-- each trace has exactly one verdict
pub record VerdictsAreOne : Type 0 where
  pub some : (m : Machine) (t : Trace) → (v : TraceVerdict) × IsVerdict m t v
  pub one : (m : Machine) (t : Trace) (v w : TraceVerdict) → IsVerdict m t v → IsVerdict m t w → v ≡ w

-- a trace that is a legitimate run is a certified run, if the machine's start is one of the
-- certificate's and each of its quanta is at most the certificate's
abbrev pub TracesAreCertified : Type 0
TracesAreCertified =
    (m : Machine) (c : Certificate) (t : Trace) → IsRunOf m t → (start_states m ≡ c.start1) ⊎ (start_states m ≡ c.start2) →
    ((j : ℕ) → j < state_count m → int_at t.q j ≤ℤ int_at c.q j) → IsCertifiedRun m c t.scale t.refine (states_of t) (levels_of t)

-- if the bounds are guaranteed, V of the difference of two certified traces is at most its bound
abbrev pub GreatestIsBounded : Type 0
GreatestIsBounded =
    (m : Machine) (c : Certificate) (t1 t2 : Trace) (common place1 place2 : ℕ) (value bound : ℤ) → t1.n ≡ state_count m → BoundsAreGuaranteed m c →
    IsCertifiedRun m c t1.scale t1.refine (states_of t1) (levels_of t1) → IsCertifiedRun m c t2.scale t2.refine (states_of t2) (levels_of t2) →
    IsGreatestFound c.pm c.cc (level_unit m) t1 t2 common place1 place2 value bound → value ≤ℤ bound

-- each pair of traces has exactly one result of the comparison
pub record ComparisonIsUnique : Type 0 where
  pub some : (p : List (List ℤ)) (c k : ℤ) (t1 t2 : Trace) → (g : Greatest) × IsGreatest p c k t1 t2 g
  pub one : (p : List (List ℤ)) (c k : ℤ) (t1 t2 : Trace) (g h : Greatest) → IsGreatest p c k t1 t2 g → IsGreatest p c k t1 t2 h → g ≡ h

-- each text of at most 2^24 bytes is the text of exactly one trace or has exactly one first fault
pub record TextsAreJudged : Type 0 where
  pub judged : (n : ℕ) (bytes : List ℕ) → IsSize n → length bytes ≤ trace_length_limit → ((t : Trace) × IsTextOf n bytes t) ⊎ ((why : TextErr) × IsFaultOf n bytes why)
  pub one_trace : (n : ℕ) (bytes : List ℕ) (a b : Trace) → IsTextOf n bytes a → IsTextOf n bytes b → a ≡ b
  pub one_fault : (n : ℕ) (bytes : List ℕ) (why other : TextErr) → IsFaultOf n bytes why → IsFaultOf n bytes other → why ≡ other
  pub not_both : (n : ℕ) (bytes : List ℕ) (why : TextErr) (t : Trace) → IsFaultOf n bytes why → IsTextOf n bytes t → ⊥
