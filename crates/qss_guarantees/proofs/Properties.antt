-- Each answer of the specification has the properties of its command.
use Rattle.qss_guarantees.proofs.Common
use Common.{[], ℕ, ◌++◌, ◌^◌, ◌∙◌, ◌∷◌, ◌≡◌, ◌≢◌, ◌⊎◌, accepted-holds, accepted_text, Answer}
use Common.{answer_for, ap, append-nil, Bool, bounds, bounds_text, Certificate, certificate_data}
use Common.{certificate_text, certified, certify_model, CertifyAnswers, check_model, CheckAnswers}
use Common.{ClauseInfo, compare_runs, CompareAnswers, compared, comparison_stop_answer}
use Common.{ComparisonAnswers, ComparisonStop, coupled_model, false, generate_model}
use Common.{GenerationAnswers, inl, inr, IsAnswerFor, IsCertification, IsCertifyAnswer}
use Common.{IsCheckAnswer, IsChecked, IsMachineAnswer, IsOutOfScope, IsParseRefusal, IsProposed}
use Common.{IsRead as IsTraceRead, IsRefusalFor, IsRefused, IsRunOf, IsRunStatus, IsSourceMachine}
use Common.{IsSourceRefusal, IsUpgrade, IsUpgradeAnswer, judged_texts, kept_texts, length, List}
use Common.{Machine, MatchBool, model_answer, nat_lt, no_certificate, no_first_run, no_second_run}
use Common.{not_compared, origin_of, plain_options, print_model, PrintAnswers, printed_run_answer}
use Common.{propose_model, ProposeAnswers, quanta_positive, refl, Refusal, refusal, Refused}
use Common.{run2_answer, Run2Answers, run_model, RunAnswers, RunOptions, second_model}
use Common.{second_run_answer, Side, source as generated_source, subst, suc, summary}
use Common.{summary_answer, sym, system_of, text_answer, too_long, Trace, true, upgrade_model}
use Common.{UpgradeAnswers, upgraded, verdicts}
use Rattle.std.specs.Prelude.{◌↔◌}
use Rattle.cert_check.proofs.Exactly.{accepted-ranges, accepts}
use Rattle.cert_propose.specs.declared.certificate_proposal.Proposal.TheVariants.{Candidate}
use Rattle.qss_answers.specs.CertificateAnswers.{IsRead}
use Rattle.qss_answers.specs.AcceptedBounds.{IsSoundCertification}
use Rattle.qss_guarantees.proofs.AnswerTheorems.{accepted, upgrades}
use Rattle.qss_guarantees.proofs.Compared.{near_runs}
use Rattle.qss_guarantees.proofs.OneCertificateAnswer.{one_each}
use Rattle.qss_guarantees.proofs.OneTraceAnswer.{one_each as one_trace}
use Rattle.qss_guarantees.proofs.Sameness.{one_comparison, one_proposing}
use Rattle.qss_guarantees.specs.AnswerLaws.{AnswersHaveProperties}
use Rattle.qss_top.specs.MachineAnswers.{refused, status_of_refusal}
use Rattle.qss_guarantees.specs.Guarantees.{Compiles, IsRunText, AreComparedRuns}
use Rattle.qss_guarantees.specs.Guarantees.{ConditionsHoldInRange}
use Rattle.qss_guarantees.specs.Theorems.{RunPrintsRowsOfMachine, Run2PrintsSecondOrderRows}
use Rattle.qss_guarantees.specs.Theorems.{PrintPrintsCanonicalText, GenPrintsSummary}
use Rattle.qss_guarantees.specs.Theorems.{CertifyIsSound, CertifyIsComplete, ProposeIsSound}
use Rattle.qss_guarantees.specs.Theorems.{ProposeIsComplete, CheckAcceptsRuns, CompareIsComplete}
use Rattle.qss_guarantees.specs.Theorems.{UpgradeKeepsCertificate, UpgradeIsComplete}
use Rattle.qss_top.proofs.Refusals.{rejection_ends}
use Rattle.qss_guarantees.proofs.Sources.{one_source_machine, one_source_tree, source_fine}
use Rattle.qss_guarantees.proofs.Sources.{tree_fine}
use Rattle.cert_check.specs.declared.inequality_checker.Verdict.TheVariants as verdict
use Rattle.qss_answers.specs.Answers as Results
use Rattle.qss_answers.specs.declared.refusal.Refusal.TheVariants as reasons
use Rattle.qss_answers.specs.declared.comparison_ending.ComparisonStop.TheVariants as stops
use Rattle.qss_top.specs.declared.status.Status.TheVariants as ends

-- a rejection has neither status 0 nor status 6
refusal_status : (why : Refusal) → IsRunStatus (status_of_refusal why) → ⊥
refusal_status why (inl e) =
    elim (rejection_ends why) [ inl is ↦ cc (is, e) | inr is ↦ cc (is, e) ]
refusal_status why (inr e) =
    elim (rejection_ends why) [ inl is ↦ cc (is, e) | inr is ↦ cc (is, e) ]

-- the result is a text, which is printed
pub text_of : (IsSuch : Results.Answer → Type 0) (answer : Answer) → IsAnswerFor IsSuch answer
    → answer.status ≡ ends.Ok
    → IsSuch (Results.written answer.out) × (answer ≡ text_answer answer.out)
text_of IsSuch answer (Results.refused why, is, e) ok =
    absurd (refusal_status why (inl (sym (ap (λ (x : Answer). x.status) e) ∙ ok)))
text_of IsSuch answer (Results.written text, is, e) ok =
    let same : answer.out ≡ text = ap (λ (x : Answer). x.out) e in
    (rw same is, e ∙ ap text_answer (sym same))

-- a source that is rejected has status 5
rejected_status : (Refuses : List ℕ → Refused → Type 0) (source : List ℕ) (answer : Answer)
    → IsRefusalFor Refuses source answer → answer.status ≡ ends.ModelRefused
rejected_status Refuses source answer h = by (nat_lt (2 ^ 20) (length source)) h
  where
    by : (b : Bool) → MatchBool b (answer ≡ refusal ends.ModelRefused too_long)
        ((r : Refused) × Refuses source r × (answer ≡ refusal ends.ModelRefused (refused source)))
        → answer.status ≡ ends.ModelRefused
    by true e = ap (λ (x : Answer). x.status) e
    by false e = ap (λ (x : Answer). x.status) e.2

-- it has neither status 0 nor status 6
not_run : (Refuses : List ℕ → Refused → Type 0) (source : List ℕ) (answer : Answer)
    → IsRefusalFor Refuses source answer → IsRunStatus answer.status → ⊥
not_run Refuses source answer refuses done =
    let is = rejected_status Refuses source answer refuses in
    elim done [ inl e ↦ cc (is, e) | inr e ↦ cc (is, e) ]

-- only the source was read
not_done : (share : ℕ) (source : List ℕ) (answer : Answer)
    → IsSourceRefusal source answer ⊎ IsOutOfScope share source answer
    → IsRunStatus answer.status → ⊥
not_done share source answer (inl refuses) done = not_run IsRefused source answer refuses done
not_done share source answer (inr (m, means, (why, is, e))) done =
    refusal_status (reasons.Outside why)
    (subst IsRunStatus (ap (λ (x : Answer). x.status) e) done)

-- ---- runs

-- the answer for the machine of the source
module _ (share : ℕ) (to : Machine → Answer) (source : List ℕ) (answer : Answer) where
  compiled : IsMachineAnswer share (λ m such. such ≡ to m) source answer
      → IsRunStatus answer.status → Compiles share source
  compiled (inl refuses) done = absurd (not_run IsRefused source answer refuses done)
  compiled (inr (m, means, e)) done = (m, means)

  answered_as : IsMachineAnswer share (λ m such. such ≡ to m) source answer → (m : Machine)
      → IsSourceMachine share source m → answer ≡ to m
  answered_as (inl refuses) m means = absurd (source_fine share source answer m refuses means)
  answered_as (inr (n, is, e)) m means = e ∙ ap to (one_source_machine share source n m is means)

pub run_prints : (options : RunOptions) (source : List ℕ) (answer : Answer)
    → RunAnswers options (source ∷ []) answer → RunPrintsRowsOfMachine options source answer
run_prints options source answer h = (
  compiled options.share (printed_run_answer options) source answer h,
  answered_as options.share (printed_run_answer options) source answer h,
)

plain_answer : (m : Machine) → length m.clauses ≡ 0 → run2_answer m ≡ second_run_answer m
plain_answer m none = rw none refl

rejected_answer : (m : Machine) (n : ℕ) → length m.clauses ≡ suc n
    → (run2_answer m).status ≡ ends.Rejected
rejected_answer m n some = rw some refl

pub run2_prints : (source : List ℕ) (answer : Answer) → Run2Answers (source ∷ []) answer
    → Run2PrintsSecondOrderRows source answer
run2_prints source answer h = (
  compiled 0 run2_answer source answer h,
  λ m means.
      let e = answered_as 0 run2_answer source answer h m means in (
        λ none. e ∙ plain_answer m (ap length none),
        λ some. ap (λ (x : Answer). x.status) e ∙ rejected m some m.clauses refl,
      ),
)
  where
    rejected : (m : Machine) → m.clauses ≢ [] → (clauses : List ClauseInfo) → m.clauses ≡ clauses
        → (run2_answer m).status ≡ ends.Rejected
    rejected m some [] is = absurd (some is)
    rejected m some (clause ∷ clauses) is = rejected_answer m (length clauses) (ap length is)

pub print_prints : (source : List ℕ) (answer : Answer) → PrintAnswers (source ∷ []) answer
    → PrintPrintsCanonicalText source answer
print_prints source answer (inl refuses) = (
  λ ok. absurd (not_run IsParseRefusal source answer refuses (inl ok)),
  λ tree is. absurd (tree_fine source answer tree refuses is),
)
print_prints source answer (inr (own, parsed, e)) = (
  λ ok. (own, parsed),
  λ tree is. e ∙ ap model_answer (one_source_tree source own tree parsed is),
)

pub gen_prints : (seed cells : ℕ) (answer : Answer) → GenerationAnswers seed cells [] answer
    → GenPrintsSummary seed cells answer
gen_prints seed cells answer h = (
  compiled 0 (summary_answer cells) (generated_source seed cells) answer h,
  answered_as 0 (summary_answer cells) (generated_source seed cells) answer h,
)

-- ---- certificates

module _ (m : Machine) (text : List ℕ) where
  -- a certificate whose result is a text is accepted, and its bounds hold
  pub accepted_certificate : (out : List ℕ) → IsCertification m text (Results.written out)
      → (c : Certificate) × IsSoundCertification m text out c × ConditionsHoldInRange m c
      × IsRead m text c
  accepted_certificate out (inl (why, h, e)) = absurd (cc e)
  accepted_certificate out (inr (c, read, (v, h, e))) =
      let first = (accepted_text m c out (bounds_text m c) v h e).0 in
      let law = bounds m text out (inr (c, read, (v, h, e))) in
      let same : law.0 ≡ c = judged_texts.one_certificate m text law.0 c law.1.reads read.text in (
        c,
        subst (λ (c : Certificate). IsSoundCertification m text out c) same law.1,
        (
          accepted-holds (system_of m) (certificate_data c) (quanta_positive m) first,
          accepted-ranges (system_of m) (certificate_data c) first,
        ),
        read,
      )

  -- the result of a certificate whose conditions hold, with sums in range, is its bounds
  pub certified_answer : (c : Certificate) → IsRead m text c → ConditionsHoldInRange m c
      → IsCertification m text (Results.written (bounds_text m c))
  certified_answer c read (holds, ranges) =
      let some = verdicts.some (system_of m) (certificate_data c) in
      let is : some.0 ≡ verdict.Accepted =
      accepts (system_of m) (certificate_data c) some.0 holds ranges some.1 in
      inr (c, read, (some.0, some.1, sym (ap (certified m c) is)))

module _ (share : ℕ) (source text : List ℕ) (answer : Answer)
    (h : CertifyAnswers share (source ∷ text ∷ []) answer) where
  -- the certificate that is accepted with status 0
  printed : answer.status ≡ ends.Ok → IsCertification h.0 text (Results.written answer.out)
  printed ok = (text_of (IsCertification h.0 text) answer h.2 ok).0

  pub certify_sound : CertifyIsSound share source text answer
  certify_sound ok =
      let (c, law, conditions, read) = accepted_certificate h.0 text answer.out (printed ok) in
      record {
        machine = h.0;
        means = h.1.means;
        certificate = c;
        read = read;
        conditions = conditions.0;
        in_range = conditions.1;
        printed = law.text_is;
        bounds = law.promised;
        solutions = law.solutions.solution;
        own_solution = law.halved.solution;
        own_runs = law.admitted;
      }

  pub certify_complete : CertifyIsComplete share source text answer
  certify_complete m c means (read, conditions) =
      let same : h.0 ≡ m = one_source_machine share source h.0 m h.1.means means in
      let own : IsCertifyAnswer m text answer =
      subst (λ (m : Machine). IsCertifyAnswer m text answer) same h.2 in
      own.2 ∙ ap answer_for (one_each.one_certification m text own.0
      (Results.written (bounds_text m c)) own.1 (certified_answer m text c read conditions))

pub upgrade_keeps : (source text : List ℕ) (answer : Answer)
    → UpgradeAnswers (source ∷ text ∷ []) answer → UpgradeKeepsCertificate source text answer
upgrade_keeps source text answer h ok =
    (h.0, h.1.means, upgrades h.0 text answer.out (text_of (IsUpgrade h.0 text) answer h.2 ok).0)

pub upgrade_complete : (source text : List ℕ) (answer : Answer)
    → UpgradeAnswers (source ∷ text ∷ []) answer → UpgradeIsComplete source text answer
upgrade_complete source text answer h m c means read =
    let same : h.0 ≡ m = one_source_machine 0 source h.0 m h.1.means means in
    let own : IsUpgradeAnswer m text answer =
    subst (λ (m : Machine). IsUpgradeAnswer m text answer) same h.2 in
    own.2 ∙ ap answer_for (one_each.one_upgrade m text own.0 (upgraded c) own.1
    (inr (c, read, refl)))

pub propose_sound : (source : List ℕ) (answer : Answer) → ProposeAnswers (source ∷ []) answer
    → ProposeIsSound source answer
propose_sound source answer (inl refuses) ok =
    absurd (not_run IsRefused source answer refuses (inl ok))
propose_sound source answer (inr (m, means, is)) ok =
    (m, means, kept_texts m answer.out (text_of (IsProposed m) answer is ok).0)

pub propose_complete : (source : List ℕ) (answer : Answer) → ProposeAnswers (source ∷ []) answer
    → ProposeIsComplete source answer
propose_complete source answer h m c means (scope, is) =
    one_proposing source answer (text_answer (certificate_text c)) h
    (inr (
      m,
      means,
      (
        Results.written (certificate_text c),
        inr (scope, (Candidate c verdict.Accepted, is, refl)),
        refl,
      ),
    ))

-- ---- traces

module _ (source text : List ℕ) (answer : Answer) (h : CheckAnswers (source ∷ text ∷ []) answer)
  where
    -- the run that is accepted with status 0, and the answer
    accepted_run : answer.status ≡ ends.Ok → (m : Machine) → IsSourceMachine 0 source m
        → (t : Trace) × IsTraceRead m text t × IsRunOf m t × (answer ≡ text_answer (summary t))
    accepted_run ok m means =
        subst (λ (m : Machine). (t : Trace) × IsTraceRead m text t × IsRunOf m t
        × (answer ≡ text_answer (summary t))) (one_source_machine 0 source h.0 m h.1.means means)
        (given ok)
      where
        given : answer.status ≡ ends.Ok → (t : Trace) × IsTraceRead h.0 text t × IsRunOf h.0 t
            × (answer ≡ text_answer (summary t))
        given ok =
            let done = text_of (IsChecked h.0 text) answer h.2 ok in
            let law = (accepted h.0 text answer.out).0 done.0 in
            (law.0, law.1, law.2, done.1 ∙ ap text_answer law.3)

    -- the answer for a legitimate run is its summary
    summarized : (m : Machine) → IsSourceMachine 0 source m → (t : Trace) → IsTraceRead m text t
        → IsRunOf m t → answer ≡ text_answer (summary t)
    summarized m means t read run =
        let own : IsCheckAnswer m text answer =
        subst (λ (m : Machine). IsCheckAnswer m text answer)
        (one_source_machine 0 source h.0 m h.1.means means) h.2 in
        let is : IsChecked m text (Results.written (summary t)) =
        (accepted m text (summary t)).1 (t, read, run, refl) in
        own.2 ∙ ap answer_for (one_trace.one_answer m text own.0 (Results.written (summary t)) own.1
        is)

    pub check_accepts : CheckAcceptsRuns source text answer
    check_accepts = (
      λ done. (h.0, h.1.means),
      λ m means. (both m means, λ t (read, run). summarized m means t read run),
    )
      where
        both : (m : Machine) → IsSourceMachine 0 source m
            → answer.status ≡ ends.Ok ↔ ((t : Trace) × IsRunText m text t)
        both m means = (
          λ ok. let run = accepted_run ok m means in (run.0, (run.1, run.2)),
          λ (t, (read, run)). ap (λ (x : Answer). x.status) (summarized m means t read run),
        )

-- ---- comparisons

-- a comparison that stops does not have status 0
stop_status : (m : Machine) (stop : ComparisonStop)
    → (comparison_stop_answer m stop).status ≡ ends.Ok → ⊥
stop_status m (stops.Refused why) e = refusal_status why (inl e)
stop_status m (stops.Over tick var) e = cc
stop_status m stops.Memory e = cc

module _ (one two : Side) (source text : List ℕ) (traces : List (List ℕ)) (answer : Answer)
    (ok : answer.status ≡ ends.Ok) where
  not_stopped : (m : Machine) (stop : ComparisonStop) → answer ≡ comparison_stop_answer m stop
      → AreComparedRuns one two source text traces answer.out
  not_stopped m stop e =
      absurd (stop_status m stop (sym (ap (λ (x : Answer). x.status) e) ∙ ok))

  pub compare_sound : CompareAnswers one two (source ∷ text ∷ traces) answer
      → AreComparedRuns one two source text traces answer.out
  compare_sound (m, scoped, no_certificate stop none is e) = not_stopped m stop e
  compare_sound (m, scoped, no_first_run c given stop usable is has e) = not_stopped m stop e
  compare_sound (m, scoped, no_second_run c t1 rest given stop usable first is has e) =
      not_stopped m stop e
  compare_sound (m, scoped, not_compared c t1 t2 stop usable runs has e) = not_stopped m stop e
  compare_sound (m, scoped, compared c t1 t2 line usable runs has e) =
      let out : answer.out ≡ line = ap (λ (x : Answer). x.out) e in
      record {
        machine = m;
        means = scoped.means;
        certificate = c;
        usable = usable;
        conditions = accepted-holds (system_of m) (certificate_data c) (quanta_positive m)
            usable.accepted.verdict;
        first = t1;
        second = t2;
        named = runs;
        within = near_runs m text c runs.first.given runs.second.given t1 t2 answer.out
            scoped.means.shared.relative usable runs.first.run runs.second.run (rw out has);
      }

-- the answer for two runs that can be compared
pub compare_complete : (one two : Side) (source text : List ℕ) (traces : List (List ℕ))
    (answer : Answer) → CompareAnswers one two (source ∷ text ∷ traces) answer
    → CompareIsComplete one two source text traces answer
compare_complete one two source text traces answer h m line means has =
    let c = has.certificate in
    let usable = has.usable in
    let same : h.0 ≡ m = one_source_machine 0 source h.0 m h.1.means means in
    let own : ComparisonAnswers (origin_of one) (origin_of two) m text traces answer =
    subst (λ (m : Machine). ComparisonAnswers (origin_of one) (origin_of two) m text traces answer)
    same h.2 in
    let such : ComparisonAnswers (origin_of one) (origin_of two) m text traces (text_answer line) =
    compared c has.first has.second line usable has.named has.compared refl in
    let whole : ComparisonAnswers (origin_of one) (origin_of two) m text (traces ++ [])
    (text_answer line) =
    subst (λ (ts : List (List ℕ)). ComparisonAnswers (origin_of one) (origin_of two) m text ts
    (text_answer line)) (sym (append-nil traces)) such in
    (one_comparison (origin_of one) (origin_of two) m usable.accepted.read.scope text traces []
    answer (text_answer line) own whole).1

-- ---- all commands

pub have_properties : AnswersHaveProperties
have_properties (run_model _ options) (source ∷ []) answer h = run_prints options source answer h
have_properties (coupled_model _) (source ∷ []) answer h = run_prints plain_options source answer h
have_properties (second_model _) (source ∷ []) answer h = run2_prints source answer h
have_properties (print_model _) (source ∷ []) answer h = print_prints source answer h
have_properties (generate_model seed cells) [] answer h = gen_prints seed cells answer h
have_properties (propose_model _) (source ∷ []) answer h =
    (propose_sound source answer h, propose_complete source answer h)
have_properties (certify_model _ _ share) (source ∷ []) answer h = not_done share source answer h
have_properties (certify_model _ _ share) (source ∷ text ∷ []) answer h = (
  certify_sound share source text answer h,
  certify_complete share source text answer h,
)
have_properties (check_model _ _) (source ∷ []) answer h = not_done 0 source answer h
have_properties (check_model _ _) (source ∷ text ∷ []) answer h = check_accepts source text answer h
have_properties (compare_runs _ _ one two) (source ∷ []) answer h = not_done 0 source answer h
have_properties (compare_runs _ _ one two) (source ∷ text ∷ traces) answer h = (
  λ ok. compare_sound one two source text traces answer ok h,
  compare_complete one two source text traces answer h,
)
have_properties (upgrade_model _ _) (source ∷ []) answer h = not_done 0 source answer h
have_properties (upgrade_model _ _) (source ∷ text ∷ []) answer h =
    (upgrade_keeps source text answer h, upgrade_complete source text answer h)
have_properties _ _ answer h = absurd h
