-- The comparison of two runs: the answers after each step, for the bytes that were read.
use Rattle.qss_top.proofs.Common
use Common.{[], ℕ, ◌++◌, ◌≡◌, Answer, AnswersFromFiles, Bool, Certificate, ComparisonAnswers, Err}
use Common.{false, Files, inl, inr, IsInScope, List, Machine, names_of, Ok, Option, Origin, Outcome}
use Common.{overflowed, Reading, refl, rejected, traced as given_trace, WritesAnswer}
use Rattle.std.specs.Prelude.{Result, IfOk, IfErr}
use Rattle.qss_machine.specs.Machines.{state_count}
use Rattle.qss_rows.specs.RowTexts.{name_of}
use Rattle.qss_trace.specs.declared.trace.Trace.{Trace}
use Rattle.qss_answers.specs.Comparisons.{RunSource, MayStop, HasNoRunTrace, IsUsableCertificate}
use Rattle.qss_answers.specs.Comparisons.{IsRunTrace}
use Rattle.qss_answers.specs.declared.comparison_ending.ComparisonStop.{ComparisonStop}
use Rattle.qss_answers.proofs.ComparisonEnds.{given_size}
use Rattle.qss_top.specs.CommandAnswers.{given_run, in_file, IsNamedRun, AreNamedRuns, no_first_run}
use Rattle.qss_top.specs.CommandAnswers.{no_second_run, not_compared, compared}
use Rattle.qss_top.specs.ComparisonOutcomes.{IsStopOutcome, GivesSource, ObtainsTrace}
use Rattle.qss_top.specs.ComparisonOutcomes.{IsTraceResult, AnswersOfSource, AnswersFromRun}
use Rattle.qss_top.specs.ComparisonOutcomes.{FirstRunAnswers}
use Rattle.qss_top.specs.MachineAnswers.{comparison_stop_answer}
use Rattle.qss_top.proofs.FileSteps.{answer_step, file_step, map_step, no_file_step}
use Rattle.qss_top.proofs.FrameFacts.{memory_writes, rejection_writes}
use Rattle.qss_answers.specs.declared.refusal.Refusal.TheVariants as reasons
use Rattle.qss_answers.specs.declared.comparison_ending.ComparisonStop.TheVariants as stops

-- an allocation failed, or the comparison has this answer, and nothing is written
pub stop_writes : {K : Type 0} {written : K → Option (List ℕ)} {faults : K → ℕ}
    {failed : K → Bool} {what : Outcome} {k : K} (m : Machine) (Stops : ComparisonStop → Type 0)
    (stop : ComparisonStop) → MayStop Stops stop → IsStopOutcome m stop what
    → WritesAnswer written faults failed false
    (λ a. Stops stop × (a ≡ comparison_stop_answer m stop)) what k k
stop_writes m Stops stops.Memory may e = rw e memory_writes
stop_writes m Stops (stops.Refused why) (inl wrong) e = absurd (cc wrong)
stop_writes m Stops (stops.Refused why) (inr is) e =
    rw e (rejection_writes (rejected why) refl (is, refl) refl)
stop_writes m Stops (stops.Over tick var) (inl wrong) e = absurd (cc wrong)
stop_writes m Stops (stops.Over tick var) (inr is) (inl e) = rw e memory_writes
stop_writes m Stops (stops.Over tick var) (inr is) (inr e) =
    rw e (rejection_writes (overflowed (name_of m var) tick) refl (is, refl) refl)

-- the result for a trace that is found, or for a comparison that stops
pub found_result : (m : Machine) (c : Certificate) (run : ℕ) (given : RunSource)
    (found : Result Trace ComparisonStop) (result : Result Trace Outcome)
    → IfOk found (IsRunTrace m c given) → IfErr found (MayStop (HasNoRunTrace m c run given))
    → IfOk found (λ t. result ≡ Ok t)
    → IfErr found (λ stop. (what : Outcome) × (result ≡ Err what) × IsStopOutcome m stop what)
    → IsTraceResult m c run given result
found_result m c run given (Ok t) result is none e h = rw e is
found_result m c run given (Err stop) result is none e (what, same, h) = rw same (stop, none, h)

module _ {S : Type 0} {known : S → Option Files} {counts : S → List ℕ → ℕ}
    {readings : S → List Reading} {m : Machine} {c : Certificate} {run : ℕ} {from to : S} where
  -- a trace that is obtained has as many states as the machine
  pub obtained_size : {origin : Origin} {t : Trace}
      → ObtainsTrace known counts readings m c run origin (Ok t) from to → t.n ≡ state_count m
  obtained_size {t = t} obtains = elim (obtains.obtained) [
    | inl (given, read, is) ↦ given_size m given t is.run
    | inr (name, what, e, other, read) ↦ absurd (cc other)
  ]

  module _ {K : Type 0} {written : K → Option (List ℕ)} {faults : K → ℕ} {failed : K → Bool}
      {Then : Trace → List (List ℕ) → Answer → Type 0} {what : Outcome} {old : K}
      (names : List (List ℕ)) where
    -- the source of a run is obtained, and these are the answers for it
    source_step : {last : S} {new : K} (origin : Origin) (given : RunSource)
        → GivesSource known counts readings origin given from to
        → AnswersFromFiles known counts readings written faults failed false names
        (AnswersOfSource m c run given Then) what to last old new
        → AnswersFromFiles known counts readings written faults failed false
        (names_of origin ++ names) (AnswersFromRun m c run origin Then) what from last old new
    source_step (given_run source) given (same, e) h = rw (← e) (map_step (λ rest a is.
        record { given = given; rest = rest; read = (refl, same); answers = is }) h)
    source_step (in_file name) given (bytes, same, read) h = file_step read (map_step (λ rest a is.
        record { given = given; rest = rest; read = (bytes.items, refl, same); answers = is }) h)

    -- the trace of a run is obtained, and the comparison continues
    pub trace_step : {origin : Origin} {t : Trace} {last : S} {new : K}
        → ObtainsTrace known counts readings m c run origin (Ok t) from to
        → AnswersFromFiles known counts readings written faults failed false names (Then t) what to
        last old new
        → AnswersFromFiles known counts readings written faults failed false
        (names_of origin ++ names) (AnswersFromRun m c run origin Then) what from last old new
    trace_step {origin} {t} obtains h = elim (obtains.obtained) [
      | inl (given, read, is) ↦ source_step origin given read
          (map_step (λ rest a such. inr (t, is, such)) h)
      | inr (name, other, e, differs, read) ↦ absurd (cc differs)
    ]

    -- the trace of a run is not obtained
    pub no_trace_step : {origin : Origin} → IsInScope m
        → ObtainsTrace known counts readings m c run origin (Err what) from to
        → AnswersFromFiles known counts readings written faults failed false
        (names_of origin ++ names) (AnswersFromRun m c run origin Then) what from to old old
    no_trace_step {origin} scope obtains = elim (obtains.obtained) [
      | inl (given, read, (stop, may, is)) ↦ source_step origin given read
          (answer_step (λ a so. inl (stop, so.0, refl, so.1))
          (stop_writes m (HasNoRunTrace m c run given) stop may is))
      | inr (name, other, e, same, read) ↦
          let is : what ≡ other = cc same in
          rw (e, is) (no_file_step (λ bytes long. record {
            given = given_trace bytes;
            rest = [];
            read = (bytes, refl, refl);
            answers = inl (
              stops.Refused reasons.TraceTooLong,
              inl (inr (inl (scope, long, refl))),
              refl,
              refl,
            );
          }) read)
    ]

-- the answers after the certificate is read are those of the comparison
pub comparison_answers : (one two : Origin) (m : Machine) (text : List ℕ) (c : Certificate)
    → IsUsableCertificate m text c → (traces : List (List ℕ)) (a : Answer)
    → FirstRunAnswers one two m c traces a → ComparisonAnswers one two m text traces a
comparison_answers one two m text c usable traces a first = elim (first.answers) [
  | inl (stop, none, e, is) ↦
      no_first_run c first.given stop usable (rw e at (first.read)) none is
  | inr (t1, run, second) ↦
      let named : IsNamedRun m c one traces first.rest t1
      = record { given = first.given; read = first.read; run = run } in
      elim (second.answers) [
        | inl (stop, none, e, is) ↦ no_second_run c t1 first.rest second.given stop usable named
            (rw e at (second.read)) none is
        | inr (t2, other, (e, answers)) ↦
            let runs : AreNamedRuns m c one two traces t1 t2 = record {
              rest = first.rest;
              first = named;
              second = record { given = second.given; read = rw e at (second.read); run = other };
            } in
            elim answers [
              | inl (stop, refused, is) ↦ not_compared c t1 t2 stop usable runs refused is
              | inr (line, so, is) ↦ compared c t1 t2 line usable runs so is
            ]
      ]
]
