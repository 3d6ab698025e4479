-- An answer that rejects a file as too long is the answer for every continuation of the file.
use Rattle.qss_guarantees.proofs.Common
use Common.{[], ℕ, ◌++◌, ◌<◌, ◌^◌, ◌∙◌, ◌∷◌, ◌≡◌, ◌≤◌, ◌⊎◌, Answer, answer_for, answer_of, Answers}
use Common.{AnswersFromRun, AnswersOfSource, ap, arith, Bool, bounds_text, Certificate}
use Common.{certificate_text, certify_model, CertifyAnswers, check_model, CheckAnswers, Command}
use Common.{compare_runs, CompareAnswers, comparison_stop_answer, ComparisonStop, coupled_model}
use Common.{false, first_order, first_run, FirstRunAnswers, generate_model, GenerationAnswers}
use Common.{HasNoRunTrace, inl, inr, is_too_long, IsCheckAnswer, IsMachineAnswer, IsOutOfScope}
use Common.{IsOwn, IsParseRefusal, IsPrintAnswer, IsProposeAnswer, IsRefusalFor, IsRefused}
use Common.{IsSourceRefusal, IsUnusableCertificate, length, List, long_for, Machine, MatchBool}
use Common.{model_answer, nat_lt, nat_tests, no_certificate, None, Option, origin_of, PairAnswer}
use Common.{plain_options, print_model, PrintAnswers, printed_run_answer, Proposal, propose_model}
use Common.{ProposeAnswers, refl, Refusal, refusal, Refused, rejection, run2_answer, Run2Answers}
use Common.{run_by_rule, run_model, RunAnswers, RunOptions, RunSource, second_model, second_order}
use Common.{second_run, second_run_answer, SecondRunAnswers, Side, Some, subst, suc, sym, too_long}
use Common.{Trace, traced as given_trace, true, upgrade_model, UpgradeAnswers, upgraded, zero}
use Rattle.cert_check.specs.declared.inequality_checker.Verdict.{Verdict}
use Rattle.qss_answers.specs.Answers.{judged}
use Rattle.qss_cli.specs.Commands.{traced}
use Rattle.qss_order2.specs.SecondRuns.{Past}
use Rattle.qss_order2.specs.SecondRunTexts.{second_order_run}
use Rattle.qss_top.specs.MachineAnswers.{refused}
use Rattle.qss_guarantees.proofs.Existence.{comparison_answers}
use Rattle.qss_guarantees.proofs.Sameness.{AnswerRelation, by_steps}
use Rattle.cert_check.specs.declared.inequality_checker.Verdict.TheVariants as verdicts
use Rattle.cert_propose.specs.declared.certificate_proposal.Proposal.TheVariants as proposals
use Rattle.qss_answers.specs.Answers as Results
use Rattle.qss_answers.specs.CertificateAnswers as Certificates
use Rattle.qss_answers.specs.TraceAnswers as Traces
use Rattle.qss_answers.specs.declared.comparison_ending.ComparisonStop.TheVariants as stops
use Rattle.qss_top.specs.declared.status.Status.TheVariants as ends

-- the answer rejects a file as too long
abbrev pub IsLong : Answer → Type 0
IsLong a = is_too_long a ≡ true

-- an answer does not, if it equals an answer that does not
other_than : (a b : Answer) → a ≡ b → is_too_long b ≡ false → IsLong a → ⊥
other_than a b e short long = cc (ap is_too_long e, short, long)

-- ---- the answers for a machine reject no file as too long

-- the answer that prints a run
run_short : (options : RunOptions) (m : Machine) → IsLong (printed_run_answer options m) → ⊥
run_short options m long = by (run_by_rule options.rule m).overflow refl
  where
    by : (over : Option ℕ) → (run_by_rule options.rule m).overflow ≡ over → ⊥
    by None e = let wrong = rw e at long in cc wrong
    by (Some var) e = let wrong = rw e at long in cc wrong

-- the answer of `run2`
second_short : (m : Machine) → IsLong (run2_answer m) → ⊥
second_short m long = by (length m.clauses) refl
  where
    run : (over : Option Past) → (second_order_run m).overflow ≡ over
        → IsLong (second_run_answer m) → ⊥
    run None e h = let wrong = rw e at h in cc wrong
    run (Some past) e h = let wrong = rw e at h in cc wrong

    by : (clauses : ℕ) → length m.clauses ≡ clauses → ⊥
    by zero e = run (second_order_run m).overflow refl (rw e at long)
    by (suc more) e = let wrong = rw e at long in cc wrong

-- the answer to a certificate with this verdict
judged_short : (text : List ℕ) (v : Verdict) → IsLong (answer_for (judged text v)) → ⊥
judged_short text verdicts.Accepted long = cc long
judged_short text _ long = cc long

-- the answers of `propose`
proposal_short : (p : Proposal) → IsLong (answer_for (answer_of p)) → ⊥
proposal_short (proposals.Candidate c v) long = judged_short (certificate_text c) v long
proposal_short (proposals.NoCandidate step) long = cc long

propose_short : (m : Machine) (a : Answer) → IsProposeAnswer m a → IsLong a → ⊥
propose_short m a (such, inl (why, out, e), is) long =
    other_than a _ (is ∙ ap answer_for e) refl long
propose_short m a (such, inr (scope, (p, found, e)), is) long =
    proposal_short p (sym (ap is_too_long (is ∙ ap answer_for e)) ∙ long)

-- ---- texts that continue

-- a text is at most as long as another one, and this answer rejects a file as too long
module _ (x y : List ℕ) (more : length x ≤ length y) (a : Answer) (long : IsLong a) where
  -- the longer source is rejected as too long
  refusal_grows : (Refuses : List ℕ → Refused → Type 0) → IsRefusalFor Refuses x a
      → IsRefusalFor Refuses y a
  refusal_grows Refuses h = by (nat_lt (2 ^ 20) (length x)) refl h
    where
      by : (exceeds : Bool) → nat_lt (2 ^ 20) (length x) ≡ exceeds
          → MatchBool exceeds (a ≡ refusal ends.ModelRefused too_long)
          ((r : Refused) × Refuses x r × (a ≡ refusal ends.ModelRefused (refused x)))
          → IsRefusalFor Refuses y a
      by true e is =
          let over : 2 ^ 20 < length x = grind (arith, nat_tests) in
          subst (λ (b : Answer). IsRefusalFor Refuses y b) (sym is)
          (long_for Refuses y (omega (arith, over, more)))
      by false e is = absurd (other_than a _ is.2 refl long)

  -- the answer to a source
  machine_grows : (share : ℕ) (Is : Machine → Answer → Type 0)
      → ((m : Machine) → Is m a → IsLong a → ⊥) → IsMachineAnswer share Is x a
      → IsMachineAnswer share Is y a
  machine_grows share Is short (inl refuses) = inl (refusal_grows IsRefused refuses)
  machine_grows share Is short (inr (m, means, is)) = absurd (short m is long)

  -- each command on one source
  run_grows : (options : RunOptions)
      → IsMachineAnswer options.share (λ m a. a ≡ printed_run_answer options m) x a
      → IsMachineAnswer options.share (λ m a. a ≡ printed_run_answer options m) y a
  run_grows options = machine_grows options.share (λ m a. a ≡ printed_run_answer options m)
      (λ m e exceeds. run_short options m (sym (ap is_too_long e) ∙ exceeds))

  second_grows : IsMachineAnswer 0 (λ m a. a ≡ run2_answer m) x a
      → IsMachineAnswer 0 (λ m a. a ≡ run2_answer m) y a
  second_grows = machine_grows 0 (λ m a. a ≡ run2_answer m)
      (λ m e exceeds. second_short m (sym (ap is_too_long e) ∙ exceeds))

  propose_grows : IsMachineAnswer 0 IsProposeAnswer x a → IsMachineAnswer 0 IsProposeAnswer y a
  propose_grows = machine_grows 0 IsProposeAnswer (λ m. propose_short m a)

  print_grows : IsPrintAnswer x a → IsPrintAnswer y a
  print_grows (inl refuses) = inl (refusal_grows IsParseRefusal refuses)
  print_grows (inr (tree, parses, e)) = absurd (other_than a (model_answer tree) e refl long)

  -- only the source is read
  source_grows : (share : ℕ) → IsSourceRefusal x a ⊎ IsOutOfScope share x a
      → IsSourceRefusal y a ⊎ IsOutOfScope share y a
  source_grows share (inl refuses) = inl (refusal_grows IsRefused refuses)
  source_grows share (inr (m, means, (why, out, e))) = absurd (other_than a _ e refl long)

  -- the text of a certificate
  certificate_grows : (m : Machine) (IsSuch : Certificate → Results.Answer → Type 0)
      → ((c : Certificate) (such : Results.Answer) → IsSuch c such → IsLong (answer_for such) → ⊥)
      → (such : Results.Answer) → a ≡ answer_for such → Certificates.IsAnswer m IsSuch x such
      → Certificates.IsAnswer m IsSuch y such
  certificate_grows m IsSuch short such is (inl (why, inl (out, by, told), e)) =
      absurd (other_than a _ (is ∙ ap answer_for (e ∙ ap Results.refused told)) refl long)
  certificate_grows m IsSuch short such is (inl (why, inr (inl (scope, over, told)), e)) =
      inl (why, inr (inl (scope, omega (arith, over, more), told)), e)
  certificate_grows m IsSuch short such is
      (inl (why, inr (inr (scope, within, (fault, has, told))), e)) =
      absurd (other_than a _ (is ∙ ap answer_for (e ∙ ap Results.refused told)) refl long)
  certificate_grows m IsSuch short such is (inr (c, read, so)) =
      absurd (short c such so (sym (ap is_too_long is) ∙ long))

  certification_grows : (m : Machine) (such : Results.Answer) → a ≡ answer_for such
      → Certificates.IsCertification m x such → Certificates.IsCertification m y such
  certification_grows m such is h = certificate_grows m (Certificates.IsCertified m)
      (λ c so told exceeds. judged_short (bounds_text m c) told.0
      (sym (ap is_too_long (ap answer_for told.2)) ∙ exceeds)) such is h

  upgrade_grows : (m : Machine) (such : Results.Answer) → a ≡ answer_for such
      → Certificates.IsUpgrade m x such → Certificates.IsUpgrade m y such
  upgrade_grows m such is h = certificate_grows m (λ c so. so ≡ upgraded c)
      (λ c so e exceeds. other_than (answer_for so) _ (ap answer_for e) refl exceeds) such is h

  -- the text of a trace
  trace_grows : (m : Machine) (why : Refusal) → a ≡ rejection why → Traces.IsRefusal m x why
      → Traces.IsRefusal m y why
  trace_grows m why is (inl (out, by, told)) =
      absurd (other_than a _ (is ∙ ap rejection told) refl long)
  trace_grows m why is (inr (inl (scope, over, told))) =
      inr (inl (scope, omega (arith, over, more), told))
  trace_grows m why is (inr (inr (inl (scope, within, (fault, has, told))))) =
      absurd (other_than a _ (is ∙ ap rejection told) refl long)
  trace_grows m why is (inr (inr (inr (t, read, broken)))) =
      absurd (other_than a _ (is ∙ ap rejection broken.told) refl long)

  check_grows : (m : Machine) → IsCheckAnswer m x a → IsCheckAnswer m y a
  check_grows m (such, inl (why, refuses, e), is) =
      (such, inl (why, trace_grows m why (is ∙ ap answer_for e) refuses, e), is)
  check_grows m (such, inr (t, accepted, e), is) =
      absurd (other_than a _ (is ∙ ap answer_for e) refl long)

  -- the certificate or the trace of a comparison
  unusable_grows : (m : Machine) (stop : ComparisonStop) → a ≡ comparison_stop_answer m stop
      → IsUnusableCertificate m x stop → IsUnusableCertificate m y stop
  unusable_grows m (stops.Refused why) is (inl h) =
      inl (certification_grows m (Results.refused why) is h)
  unusable_grows m (stops.Refused why) is (inr (told, c)) =
      absurd (other_than a _ (is ∙ ap rejection told) refl long)
  unusable_grows m _ is h = absurd h

  no_trace_grows : (m : Machine) (c : Certificate) (run : ℕ) (stop : ComparisonStop)
      → a ≡ comparison_stop_answer m stop → HasNoRunTrace m c run (given_trace x) stop
      → HasNoRunTrace m c run (given_trace y) stop
  no_trace_grows m c run (stops.Refused why) is (inl h) = inl (trace_grows m why is h)
  no_trace_grows m c run (stops.Refused why) is (inr (inl (t, state, given, above, told))) =
      absurd (other_than a _ (is ∙ ap rejection told) refl long)
  no_trace_grows m c run (stops.Refused why) is (inr (inr (own, over, told))) = absurd own
  no_trace_grows m c run (stops.Over tick var) is h = absurd h.1
  no_trace_grows m c run stops.Memory is h = absurd h

-- ---- the contents of files

-- an answer that rejects a file as too long is the answer for each longer last text
abbrev pub IsStable : AnswerRelation → Type 0
IsStable Such = (before : List (List ℕ)) (x y : List ℕ) → length x ≤ length y → (a : Answer)
    → IsLong a → Such (before ++ x ∷ []) a → Such (before ++ y ∷ []) a

-- no file is rejected as too long, if none is read
abbrev IsShort : AnswerRelation → Type 0
IsShort Such = (a : Answer) → Such [] a → IsLong a → ⊥

-- a list with a last element is not empty
not_nil : (before : List (List ℕ)) (x : List ℕ) → before ++ x ∷ [] ≡ [] → ⊥
not_nil [] x e = absurd (cc e)
not_nil (first ∷ before) x e = absurd (cc e)

-- a command on one source
one_file : (Such : AnswerRelation)
    → ((x y : List ℕ) (xs : List (List ℕ)) (a : Answer) → Such (x ∷ y ∷ xs) a → ⊥)
    → ((x y : List ℕ) → length x ≤ length y → (a : Answer) → IsLong a → Such (x ∷ []) a
    → Such (y ∷ []) a) → IsStable Such
one_file Such two one [] x y more a long h = one x y more a long h
one_file Such two one (first ∷ []) x y more a long h = absurd (two first x [] a h)
one_file Such two one (first ∷ second ∷ before) x y more a long h =
    absurd (two first second (before ++ x ∷ []) a h)

-- the commands on a source and a second text
certify_stable : (share : ℕ) → IsStable (CertifyAnswers share)
certify_stable share [] x y more a long h = source_grows x y more a long share h
certify_stable share (source ∷ []) x y more a long (m, scoped, (such, is, e)) =
    (m, scoped, (such, certification_grows x y more a long m such e is, e))
certify_stable share (source ∷ text ∷ []) x y more a long h = absurd h
certify_stable share (source ∷ text ∷ other ∷ before) x y more a long h = absurd h

upgrade_stable : IsStable UpgradeAnswers
upgrade_stable [] x y more a long h = source_grows x y more a long 0 h
upgrade_stable (source ∷ []) x y more a long (m, scoped, (such, is, e)) =
    (m, scoped, (such, upgrade_grows x y more a long m such e is, e))
upgrade_stable (source ∷ text ∷ []) x y more a long h = absurd h
upgrade_stable (source ∷ text ∷ other ∷ before) x y more a long h = absurd h

check_stable : IsStable CheckAnswers
check_stable [] x y more a long h = source_grows x y more a long 0 h
check_stable (source ∷ []) x y more a long (m, scoped, is) =
    (m, scoped, check_grows x y more a long m is)
check_stable (source ∷ text ∷ []) x y more a long h = absurd h
check_stable (source ∷ text ∷ other ∷ before) x y more a long h = absurd h

-- ---- a comparison

module _ (m : Machine) (c : Certificate) where
  -- the answer for two traces rejects no file as too long
  pair_short : (t1 t2 : Trace) (a : Answer) → PairAnswer m c t1 t2 a → IsLong a → ⊥
  pair_short t1 t2 a (inl (stops.Refused why, (place1, place2, is, told), e)) long =
      other_than a _ (e ∙ ap rejection told) refl long
  pair_short t1 t2 a (inl (stops.Over tick var, is, e)) long = absurd is
  pair_short t1 t2 a (inl (stops.Memory, is, e)) long = absurd is
  pair_short t1 t2 a (inr (text, is, e)) long = other_than a _ e refl long

  module _ (run : ℕ) (Then : Trace → AnswerRelation) where
    abbrev Runs : RunSource → AnswerRelation
    Runs given = AnswersOfSource m c run given Then

    -- one of the machine's own runs is not rejected as too long
    own_stop : (given : RunSource) → IsOwn given → (stop : ComparisonStop) (a : Answer)
        → HasNoRunTrace m c run given stop → a ≡ comparison_stop_answer m stop → IsLong a → ⊥
    own_stop first_order own (stops.Refused why) a (inl text) e long = absurd text
    own_stop second_order own (stops.Refused why) a (inl text) e long = absurd text
    own_stop (given_trace bytes) own (stops.Refused why) a (inl text) e long = absurd own
    own_stop given own (stops.Refused why) a (inr (inl (t, state, is, above, told))) e long =
        other_than a _ (e ∙ ap rejection told) refl long
    own_stop given own (stops.Refused why) a (inr (inr (mine, over, told))) e long =
        other_than a _ (e ∙ ap rejection told) refl long
    own_stop given own (stops.Over tick var) a h e long = other_than a _ e refl long
    own_stop given own stops.Memory a h e long = absurd h

    -- the answers after one of the machine's own runs
    own_short : (given : RunSource) → IsOwn given → ((t : Trace) → IsShort (Then t))
        → IsShort (Runs given)
    own_short given own short a (inl (stop, has, none, e)) long =
        own_stop given own stop a has e long
    own_short given own short a (inr (t, is, such)) long = short t a such long

    -- the last text is not the one of this run
    later_stable : (given : RunSource) → ((t : Trace) → IsStable (Then t)) → IsStable (Runs given)
    later_stable given each before x y more a long (inl (stop, has, none, e)) =
        absurd (not_nil before x none)
    later_stable given each before x y more a long (inr (t, is, such)) =
        inr (t, is, each t before x y more a long such)

    -- the last text is the trace of this run
    text_grows : ((t : Trace) → IsShort (Then t)) → (x y : List ℕ) → length x ≤ length y
        → (a : Answer) → IsLong a → Runs (given_trace x) [] a → Runs (given_trace y) [] a
    text_grows short x y more a long (inl (stop, has, none, e)) =
        inl (stop, no_trace_grows x y more a long m c run stop e has, none, e)
    text_grows short x y more a long (inr (t, is, such)) = absurd (short t a such long)

    -- the answers after a run, if no file is read
    run_shorts : (side : Side) → ((t : Trace) → IsShort (Then t))
        → IsShort (AnswersFromRun m c run (origin_of side) Then)
    run_shorts first_run short a p long =
        own_short first_order tt short a (rw (p.read.1, ← p.read.0) at p.answers) long
    run_shorts second_run short a p long =
        own_short second_order tt short a (rw (p.read.1, ← p.read.0) at p.answers) long
    run_shorts (traced name) short a p long = absurd (cc (p.read.1))

    -- the answers after a run
    run_stable : (side : Side) → ((t : Trace) → IsShort (Then t))
        → ((t : Trace) → IsStable (Then t))
        → IsStable (AnswersFromRun m c run (origin_of side) Then)
    run_stable first_run short each before x y more a long p = record {
      given = first_order;
      rest = before ++ y ∷ [];
      read = (refl, refl);
      answers = later_stable first_order each before x y more a long
          (rw (p.read.1, ← p.read.0) at p.answers);
    }
    run_stable second_run short each before x y more a long p = record {
      given = second_order;
      rest = before ++ y ∷ [];
      read = (refl, refl);
      answers = later_stable second_order each before x y more a long
          (rw (p.read.1, ← p.read.0) at p.answers);
    }
    run_stable (traced name) short each [] x y more a long p =
        let bytes : p.read.0 ≡ x = cc (p.read.1) in
        let rest : p.rest ≡ [] = cc (p.read.1) in record {
          given = given_trace y;
          rest = [];
          read = (y, refl, refl);
          answers = text_grows short x y more a long (rw (p.read.2, bytes, rest) at p.answers);
        }
    run_stable (traced name) short each (first ∷ before) x y more a long p =
        let bytes : p.read.0 ≡ first = cc (p.read.1) in
        let rest : p.rest ≡ before ++ x ∷ [] = cc (p.read.1) in record {
          given = given_trace first;
          rest = before ++ y ∷ [];
          read = (first, refl, refl);
          answers = later_stable (given_trace first) each before x y more a long
              (rw (p.read.2, bytes, rest) at p.answers);
        }

  -- both runs
  module _ (one two : Side) where
    second_shorts : (t1 : Trace) → IsShort (SecondRunAnswers (origin_of two) m c t1)
    second_shorts t1 = run_shorts 2 (λ t2 rest a. (rest ≡ []) × PairAnswer m c t1 t2 a) two
        (λ t2 a h long. pair_short t1 t2 a h.1 long)

    first_shorts : IsShort (FirstRunAnswers (origin_of one) (origin_of two) m c)
    first_shorts = run_shorts 1 (SecondRunAnswers (origin_of two) m c) one second_shorts

    first_stable : IsStable (FirstRunAnswers (origin_of one) (origin_of two) m c)
    first_stable = run_stable 1 (SecondRunAnswers (origin_of two) m c) one second_shorts
        (λ t1. run_stable 2 (λ t2 rest a. (rest ≡ []) × PairAnswer m c t1 t2 a) two
        (λ t2 a h long. pair_short t1 t2 a h.1 long)
        (λ t2 before x y more a long h. absurd (not_nil before x h.0)))

module _ (one two : Side) where
  compare_stable : IsStable (CompareAnswers one two)
  compare_stable [] x y more a long h = source_grows x y more a long 0 h
  compare_stable (source ∷ []) x y more a long (m, scoped, h) = (
    m,
    scoped,
    elim (by_steps (origin_of one) (origin_of two) m scoped.scope x [] a h) [
      | inl (stop, unusable, none, e) ↦
          no_certificate stop refl (unusable_grows x y more a long m stop e unusable) e
      | inr (c, usable, first) ↦ absurd (first_shorts m c one two a first long)
    ],
  )
  compare_stable (source ∷ text ∷ before) x y more a long (m, scoped, h) = (
    m,
    scoped,
    elim (by_steps (origin_of one) (origin_of two) m scoped.scope text
        (before ++ x ∷ []) a h) [
          | inl (stop, unusable, none, e) ↦ absurd (not_nil before x none)
          | inr (c, usable, first) ↦ comparison_answers (origin_of one) (origin_of two) m text c
              usable (before ++ y ∷ []) a (first_stable m c one two before x y more a long first)
        ],
  )

-- ---- all commands

-- `gen` reads no file
generate_stable : (seed cells : ℕ) → IsStable (GenerationAnswers seed cells)
generate_stable seed cells [] x y more a long h = absurd h
generate_stable seed cells (first ∷ before) x y more a long h = absurd h

-- if an answer rejects the last file as too long, it is the answer for every continuation
pub stable : (command : Command) → IsStable (Answers command)
stable (run_model model options) = one_file (RunAnswers options) (λ x y xs a h. h)
    (λ x y more a long. run_grows x y more a long options)
stable (coupled_model model) = one_file (RunAnswers plain_options) (λ x y xs a h. h)
    (λ x y more a long. run_grows x y more a long plain_options)
stable (second_model model) = one_file Run2Answers (λ x y xs a h. h) second_grows
stable (print_model model) = one_file PrintAnswers (λ x y xs a h. h) print_grows
stable (propose_model model) = one_file ProposeAnswers (λ x y xs a h. h) propose_grows
stable (generate_model seed cells) = generate_stable seed cells
stable (certify_model model certificate share) = certify_stable share
stable (upgrade_model model certificate) = upgrade_stable
stable (check_model model trace) = check_stable
stable (compare_runs model certificate one two) = compare_stable one two
