-- The comparison of two traces has exactly one result, and compared runs are within the bound.
use Rattle.qss_guarantees.proofs.Common
use Common.{[], ℕ, ℤ, ◌∙◌, ◌≡◌, ◌⊎◌, accepted-holds, ap, arith, Certificate, certificate_data}
use Common.{ComparisonStop, first_order, inl, inr, IsCompared, IsGivenRun, IsJudged, IsRunOf}
use Common.{IsRunTrace, IsUsableCertificate, List, Machine, quanta_positive, refl, RunSource}
use Common.{second_order, sym, system_of, Trace, traced}
use Rattle.qss_machine.specs.Machines.{level_unit}
use Rattle.cert_check.proofs.Join.{promised}
use Rattle.cert_check.specs.Bounds.{IsCertifiedRun}
use Rattle.qss_trace.specs.CommonTicks.{IsGreatest}
use Rattle.qss_trace.specs.Trace.{states_of, levels_of}
use Rattle.qss_trace.specs.declared.trace_comparison.Greatest.{Greatest}
use Rattle.qss_trace.specs.declared.trace_comparison.Greatest.TheVariants.{Found, Range}
use Rattle.qss_trace.proofs.Certified.{certified, bounded}
use Rattle.qss_trace.proofs.Greatests.{greatests}
use Rattle.qss_own_traces.proofs.OwnTraces.{first-legitimate, second-legitimate}
use Rattle.qss_answers.specs.Comparisons.{IsComparisonRefused, comparison_text}
use Rattle.qss_guarantees.specs.TraceLaws.{ComparedRunsAreWithinBound}
use Rattle.qss_answers.proofs.ComparisonEnds.{given_size}
use Rattle.qss_answers.proofs.TraceEnds.{run_of}
use Rattle.qss_answers.specs.declared.comparison_ending.ComparisonStop.TheVariants as stops
use Rattle.qss_answers.specs.declared.refusal.Refusal.TheVariants as refusal

-- the text that reports where V is greatest
abbrev text_by : Greatest → List ℕ
text_by (Found common place1 place2 value bound) = comparison_text common place1 place2 value bound
text_by (Range place1 place2) = []

abbrev stop_by : Greatest → ComparisonStop
stop_by (Found common place1 place2 value bound) = stops.Memory
stop_by (Range place1 place2) = stops.Refused (refusal.Range place1 place2)

module _ (m : Machine) (c : Certificate) (t1 t2 : Trace) where
  abbrev Is : Greatest → Type 0
  Is g = IsGreatest c.pm c.cc (level_unit m) t1 t2 g

  one : (g h : Greatest) → Is g → Is h → g ≡ h
  one g h p q = greatests.one c.pm c.cc (level_unit m) t1 t2 g h p q

  -- why there is no text
  cause_of : (stop : ComparisonStop) → IsComparisonRefused m c t1 t2 stop → (place1 : ℕ)
      × (place2 : ℕ) × Is (Range place1 place2)
      × (stop ≡ stops.Refused (refusal.Range place1 place2))
  cause_of (stops.Refused why) (place1, place2, is, e) = (place1, place2, is, ap stops.Refused e)
  cause_of (stops.Over tick var) p = absurd p
  cause_of stops.Memory p = absurd p

  -- where the form is greatest, there is a text
  found_compared : (common place1 place2 : ℕ) (value bound : ℤ)
      → Is (Found common place1 place2 value bound) → (text : List ℕ) × IsCompared m c t1 t2 text
  found_compared common place1 place2 value bound is = (
    comparison_text common place1 place2 value bound,
    record {
      common = common;
      place1 = place1;
      place2 = place2;
      value = value;
      bound = bound;
      found =
          is;
      told = refl;
    },
  )

  some_text : ((text : List ℕ) × IsCompared m c t1 t2 text)
      ⊎ ((stop : ComparisonStop) × IsComparisonRefused m c t1 t2 stop)
  some_text = let found = greatests.some c.pm c.cc (level_unit m) t1 t2 in by found.0 found.1
    where
      by : (g : Greatest) → Is g → ((text : List ℕ) × IsCompared m c t1 t2 text)
          ⊎ ((stop : ComparisonStop) × IsComparisonRefused m c t1 t2 stop)
      by (Found common place1 place2 value bound) is =
          inl (found_compared common place1 place2 value bound is)
      by (Range place1 place2) is =
          inr (stops.Refused (refusal.Range place1 place2), (place1, place2, is, refl))

  one_text : (a b : List ℕ) → IsCompared m c t1 t2 a → IsCompared m c t1 t2 b → a ≡ b
  one_text a b p q = p.told ∙ ap text_by (one (Found p.common p.place1 p.place2 p.value p.bound)
      (Found q.common q.place1 q.place2 q.value q.bound) p.found q.found) ∙ sym q.told

  one_cause : (a b : ComparisonStop) → IsComparisonRefused m c t1 t2 a
      → IsComparisonRefused m c t1 t2 b → a ≡ b
  one_cause a b p q =
      let x = cause_of a p in
      let y = cause_of b q in
      x.3 ∙ ap stop_by (one (Range x.0 x.1) (Range y.0 y.1) x.2 y.2) ∙ sym y.3

  no_cause : (text : List ℕ) (stop : ComparisonStop) → IsCompared m c t1 t2 text
      → IsComparisonRefused m c t1 t2 stop → ⊥
  no_cause text stop p q =
      let x = cause_of stop q in
      absurd (let e : Found p.common p.place1 p.place2 p.value p.bound ≡ Range x.0 x.1 = one
      (Found p.common p.place1 p.place2 p.value p.bound) (Range x.0 x.1) p.found x.2 in cc)

  pub judged_text : IsJudged (IsCompared m c t1 t2) (IsComparisonRefused m c t1 t2)
  judged_text = record { some = some_text; one = one_text; one_stop = one_cause; apart = no_cause }

-- ---- near runs

-- the run that is given is legitimate
given_run : (m : Machine) (given : RunSource) (t : Trace) → (m.clauses ≡ []) → m.relative ≡ 0
    → IsGivenRun m given t → IsRunOf m t
given_run m first_order t plain own p = first-legitimate m t plain own p.1
given_run m second_order t plain own p = second-legitimate m t p.1
given_run m (traced bytes) t plain own p = run_of m bytes t p

certified_side : (m : Machine) (bytes : List ℕ) (c : Certificate) (given : RunSource) (t : Trace)
    → m.relative ≡ 0 → IsUsableCertificate m bytes c → IsRunTrace m c given t
    → IsCertifiedRun m c t.scale t.refine (states_of t) (levels_of t)
certified_side m bytes c given t own basis side =
    certified m c t (given_run m given t basis.accepted.read.scope.plain own side.run) basis.start
    (λ j h. side.quanta j (omega (arith, h, given_size m given t side.run)))

pub near_runs : ComparedRunsAreWithinBound
near_runs m bytes c one two t1 t2 text own basis side1 side2 compared =
    let plain = basis.accepted.read.scope.plain in
    let holds = accepted-holds (system_of m) (certificate_data c) (quanta_positive m)
    basis.accepted.verdict in
    record {
      first = given_run m one t1 plain own side1.run;
      second = given_run m two t2 plain own side2.run;
      first_quanta = side1.quanta;
      second_quanta = side2.quanta;
      common = compared.common;
      place1 = compared.place1;
      place2 = compared.place2;
      value = compared.value;
      bound = compared.bound;
      found = compared.found;
      told = compared.told;
      near = bounded m c t1 t2 compared.common compared.place1 compared.place2 compared.value
          compared.bound (given_size m one t1 side1.run) (promised m c holds)
          (certified_side m bytes c one t1 own basis side1) (certified_side m bytes c two t2 own
          basis side2) compared.found;
    }
