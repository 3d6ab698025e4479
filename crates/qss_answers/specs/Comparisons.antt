-- The comparison of two runs by a certificate: its inputs, its text, and the reasons for a
-- rejection.
use Rattle.std.specs.Prelude.{◌≡◌, ℕ, ◌+◌, ◌<◌, ◌≤◌, ◌⊎◌, List, [], ◌∷◌, length, ℤ, ◌≤ℤ◌, ◌<ℤ◌}
use Rattle.std.specs.Prelude.{codes, decimal}
use Rattle.std.specs.Fmt.{signed_decimal}
use Rattle.std.specs.List.{concat}
use Rattle.qss_machine.specs.declared.compiled_machine.Machine.{Machine}
use Rattle.mu_num.specs.IndexedSums.{int_at}
use Rattle.qss_machine.specs.Machines.{level_unit, start_states}
use Rattle.cert_check.specs.declared.certificate.Certificate.{Certificate}
use Rattle.qss_answers.specs.Answers.{refused}
use Rattle.qss_answers.specs.CertificateAnswers as Certificates
use Rattle.qss_answers.specs.CertificateAnswers.{IsCertification}
use Rattle.qss_trace.specs.CommonTicks.{IsGreatestFound, IsGreatest}
use Rattle.qss_trace.specs.declared.trace_comparison.Greatest.TheVariants as greatest
use Rattle.qss_trace.specs.declared.trace.Trace.{Trace}
use Rattle.qss_own_traces.specs.FirstRuns.{IsFirstTrace, IsFirstRefusal}
use Rattle.qss_own_traces.specs.SecondRuns.{IsSecondTrace, IsSecondRefusal}
use Rattle.qss_own_traces.specs.declared.own_trace_draft.TraceOver.TheVariants as overs
use Rattle.qss_answers.specs.TraceAnswers.{limit, IsRefusal, IsAccepted}
use Rattle.qss_answers.specs.declared.refusal.Refusal.{Refusal}
use Rattle.qss_answers.specs.declared.refusal.Refusal.TheVariants as refusal
use Rattle.qss_answers.specs.declared.comparison_ending.ComparisonStop.{ComparisonStop}
use Rattle.qss_answers.specs.declared.comparison_ending.ComparisonStop.TheVariants as stops

-- the source of a run: the machine's run with rule `floor`, its second-order run, or a trace in
-- bytes
pub data RunSource : Type 0 where
  first_order : RunSource
  second_order : RunSource
  traced : (bytes : List ℕ) → RunSource

-- the last tick up to which a machine's own runs are compared
abbrev pub longest : ℕ
longest = 65535

-- ---- the certificate

-- the machine's start is one of the certificate's
abbrev pub HasStart : Machine → Certificate → Type 0
HasStart m c = (start_states m ≡ c.start1) ⊎ (start_states m ≡ c.start2)

-- the bytes parse as this certificate, which is accepted and has the machine's start
pub record IsUsableCertificate (m : Machine) (bytes : List ℕ) (c : Certificate) : Type 0 where
  pub accepted : Certificates.IsAccepted m bytes c
  pub start : HasStart m c

-- the bytes are no such certificate, for this reason: a rejection, or other starts
abbrev pub IsUnusableCertificate : Machine → List ℕ → ComparisonStop → Type 0
IsUnusableCertificate m bytes (stops.Refused why) =
    IsCertification m bytes (refused why)
    ⊎ ((why ≡ refusal.Start) × ((c : Certificate) × Certificates.IsAccepted m bytes c × (HasStart m c → ⊥)))
IsUnusableCertificate m bytes _ = ⊥

-- ---- a run

-- the trace is the one of this source
abbrev pub IsGivenRun : Machine → RunSource → Trace → Type 0
IsGivenRun m first_order t = (m.last ≤ longest) × IsFirstTrace m t
IsGivenRun m second_order t = (m.last ≤ longest) × IsSecondTrace m t
IsGivenRun m (traced bytes) t = IsAccepted m bytes t

-- each quantum of the trace is at most the certificate's
abbrev pub HasQuanta : Certificate → Trace → Type 0
HasQuanta c t = (j : ℕ) → j < t.n → int_at t.q j ≤ℤ int_at c.q j

-- this is the first state, counted from 1, whose quantum exceeds the certificate's
pub record IsFirstAbove (c : Certificate) (t : Trace) (state : ℕ) : Type 0 where
  pub place : ℕ
  pub number : state ≡ place + 1
  pub inside : place < t.n
  pub above : int_at c.q place <ℤ int_at t.q place
  pub before : (j : ℕ) → j < place → int_at t.q j ≤ℤ int_at c.q j

-- the trace is the one of this source, and its quanta are at most the certificate's
pub record IsRunTrace (m : Machine) (c : Certificate) (given : RunSource) (t : Trace) : Type 0 where
  pub run : IsGivenRun m given t
  pub quanta : HasQuanta c t

-- the source is one of the machine's own runs
abbrev pub IsOwn : RunSource → Type 0
IsOwn first_order = Unit {0}
IsOwn second_order = Unit {0}
IsOwn (traced bytes) = ⊥

-- the run of this source overflows at this tick, in the variable with this number
abbrev pub Overflows : Machine → RunSource → (tick var : ℕ) → Type 0
Overflows m first_order tick var = IsFirstRefusal m (overs.Over tick var)
Overflows m second_order tick var = IsSecondRefusal m (overs.Over tick var)
Overflows m (traced bytes) tick var = ⊥

-- the bytes of this source are rejected as a trace
abbrev pub IsTraceRefused : Machine → RunSource → Refusal → Type 0
IsTraceRefused m first_order why = ⊥
IsTraceRefused m second_order why = ⊥
IsTraceRefused m (traced bytes) why = IsRefusal m bytes why

-- the run of this source is not compared, for this reason: a quantum exceeds the certificate's, or
-- the machine's own run is too long
abbrev pub IsRunRefused : Machine → Certificate → (run : ℕ) → RunSource → Refusal → Type 0
IsRunRefused m c run given why =
    ((t : Trace) × (state : ℕ) × IsGivenRun m given t × IsFirstAbove c t state
    × (why ≡ refusal.Quantum run state))
    ⊎ (IsOwn given × (longest < m.last) × (why ≡ refusal.Long m.last))

-- this source has no usable trace, for this reason; `run` is 1 or 2
abbrev pub HasNoRunTrace : Machine → Certificate → (run : ℕ) → RunSource → ComparisonStop → Type 0
HasNoRunTrace m c run given (stops.Refused why) = IsTraceRefused m given why ⊎ IsRunRefused m c run given why
HasNoRunTrace m c run given (stops.Over tick var) = (m.last ≤ longest) × Overflows m given tick var
HasNoRunTrace m c run given stops.Memory = ⊥

-- obtaining the trace of this source allocates: the machine's own run or the bytes are not too long
abbrev pub TakesMemory : Machine → RunSource → Type 0
TakesMemory m first_order = m.last ≤ longest
TakesMemory m second_order = m.last ≤ longest
TakesMemory m (traced bytes) = length bytes ≤ limit

-- ---- both runs

-- a header, then a line: the number of common times, the first places where V of the difference is
-- greatest, this V, and the bound
abbrev pub comparison_text : (common place1 place2 : ℕ) → (value bound : ℤ) → List ℕ
comparison_text common place1 place2 value bound =
    concat (codes "common,place1,place2,greatest,bound\n" ∷ decimal common ∷ codes "," ∷ decimal place1 ∷ codes "," ∷ decimal place2
    ∷ codes "," ∷ signed_decimal value ∷ codes "," ∷ signed_decimal bound ∷ codes "\n" ∷ [])

-- the text is the one of the comparison of these two traces
pub record IsCompared (m : Machine) (c : Certificate) (t1 t2 : Trace) (text : List ℕ) : Type 0 where
  pub common : ℕ
  pub place1 : ℕ
  pub place2 : ℕ
  pub value : ℤ
  pub bound : ℤ
  pub found : IsGreatestFound c.pm c.cc (level_unit m) t1 t2 common place1 place2 value bound
  pub told : text ≡ comparison_text common place1 place2 value bound

-- some text is the result of the comparison
abbrev pub IsComparable : Machine → Certificate → Trace → Trace → Type 0
IsComparable m c t1 t2 = (text : List ℕ) × IsCompared m c t1 t2 text

-- a sum is out of range at these places, or in the bound if both are 0
abbrev pub IsComparisonRefused : Machine → Certificate → Trace → Trace → ComparisonStop → Type 0
IsComparisonRefused m c t1 t2 (stops.Refused why) =
    (place1 : ℕ) × (place2 : ℕ) × IsGreatest c.pm c.cc (level_unit m) t1 t2 (greatest.Range place1 place2)
    × (why ≡ refusal.Range place1 place2)
IsComparisonRefused m c t1 t2 _ = ⊥

-- ---- reasons why a comparison has no text

-- a call may stop for one of these reasons or because memory ran out
abbrev pub MayStop : (ComparisonStop → Type 0) → ComparisonStop → Type 0
MayStop IsSuch stop = (stop ≡ stops.Memory) ⊎ IsSuch stop

-- if the reason is out of memory, this holds
abbrev pub IfMemory : Type 0 → ComparisonStop → Type 0
IfMemory Holds stop = stop ≡ stops.Memory → Holds
