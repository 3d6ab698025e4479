-- A command has at most one answer, and arguments and files have at most one result.
use Rattle.qss_guarantees.proofs.Common
use Common.{[], ℕ, ◌++◌, ◌+◌, ◌<◌, ◌∙◌, ◌∷◌, ◌≡◌, ◌⊎◌, Answer, answer_for, answered, Answers}
use Common.{AnswersFromRun, AnswersOfSource, ap, append-nil, AreContents, arith, Certificate}
use Common.{certify_model, check_model, Command, command_of, CommandExpects, CommandLineExpects}
use Common.{compare_runs, compared, comparison_stop_answer, ComparisonAnswers, ComparisonStop}
use Common.{coupled_model, ExpectedReply, ExpectedResult, file_of, Files, files_of, FirstRunAnswers}
use Common.{generate_model, given_run, HasNoRunTrace, in_file, inl, inr, IsAnswerFor}
use Common.{IsCertification, IsCertifyAnswer, IsCheckAnswer, IsCompared, IsGenerationAnswer}
use Common.{IsInScope, IsJudged, IsMachineAnswer, IsNamedRun, IsOutOfScope, IsOutsideBy}
use Common.{IsPrintAnswer, IsProposeAnswer, IsRunAnswer, IsScopedMachine, IsSecondAnswer}
use Common.{IsSourceMachine, IsSourceRefusal, IsSourceTree, IsTreeRefusal, IsUnique}
use Common.{IsUnusableCertificate, IsUpgrade, IsUpgradeAnswer, IsUsableCertificate, length}
use Common.{length-append, List, Machine, model_answer, NeedsMore, no_certificate, no_first_run}
use Common.{no_second_run, None, not_compared, not_outside, Option, Origin, origin_of, Outside}
use Common.{PairAnswer, plain_options, print_model, propose_model, refl, rejection, run_model}
use Common.{RunOptions, RunSource, second_model, Some, source, subst, suc, sym, take, text_answer}
use Common.{Trace, traced as given_trace, upgrade_model}
use Rattle.std.proofs.Common.{append_assoc}
use Rattle.qss_guarantees.proofs.OneCertificateAnswer.{one_each}
use Rattle.qss_guarantees.proofs.Bases.{judged_basis}
use Rattle.qss_guarantees.proofs.Compared.{judged_text}
use Rattle.qss_guarantees.proofs.OneTraceAnswer.{one_each as one_trace}
use Rattle.qss_guarantees.proofs.OneProposalAnswer.{one_proposed}
use Rattle.qss_guarantees.proofs.Scopes.{one_outside}
use Rattle.qss_guarantees.proofs.Sides.{judged_side}
use Rattle.qss_top.specs.CommandAnswers.{IsGivenBy}
use Rattle.qss_guarantees.specs.ExpectedResults.{IsAnswered, LacksFile}
use Rattle.qss_guarantees.specs.AnswerLaws.{AnswersAreUnique, BytesDetermineAnswers}
use Rattle.qss_guarantees.proofs.Sources.{one_source_refusal, one_tree_refusal, one_source_machine}
use Rattle.qss_guarantees.proofs.Sources.{one_source_tree, source_fine, tree_fine}
use Rattle.qss_answers.specs.Answers as Results
use Rattle.qss_answers.specs.declared.refusal.Refusal.TheVariants as reasons

-- ---- the answers for a source, a machine or a text

-- an answer is given by a refusal or by a value, if both are unique and exclude each other
one_judged : {B : Type 0} (Refuses : Answer → Type 0) (Gives : B → Type 0)
    (Is : B → Answer → Type 0) → IsUnique Refuses → ((x y : B) → Gives x → Gives y → x ≡ y)
    → ((a : Answer) (x : B) → Refuses a → Gives x → ⊥) → ((x : B) → IsUnique (Is x))
    → IsUnique (λ a. Refuses a ⊎ ((x : B) × Gives x × Is x a))
one_judged Refuses Gives Is one same apart each a b (inl p) (inl q) = one a b p q
one_judged Refuses Gives Is one same apart each a b (inl p) (inr q) = absurd (apart a q.0 p q.1)
one_judged Refuses Gives Is one same apart each a b (inr p) (inl q) = absurd (apart b p.0 q p.1)
one_judged {B} Refuses Gives Is one same apart each a b (inr p) (inr q) =
    each p.0 a b p.2 (subst (λ (x : B). Is x b) (same q.0 p.0 q.1 p.1) q.2)

-- a source has one answer, if each machine has one
pub one_machine_answer : (share : ℕ) (Is : Machine → Answer → Type 0)
    → ((m : Machine) → IsUnique (Is m)) → (bytes : List ℕ)
    → IsUnique (IsMachineAnswer share Is bytes)
one_machine_answer share Is one bytes a b p q =
    one_judged (IsSourceRefusal bytes) (IsSourceMachine share bytes) Is (one_source_refusal bytes)
    (one_source_machine share bytes) (source_fine share bytes) one a b p q

-- each command on one source has one answer
one_run : (options : RunOptions) (bytes : List ℕ) → IsUnique (IsRunAnswer options bytes)
one_run options bytes = one_machine_answer options.share _ (λ m a b e f. e ∙ sym f) bytes

pub one_print : (bytes : List ℕ) → IsUnique (IsPrintAnswer bytes)
one_print bytes a b p q =
    one_judged (IsTreeRefusal bytes) (IsSourceTree bytes) (λ tree a. a ≡ model_answer tree)
    (one_tree_refusal bytes) (one_source_tree bytes) (tree_fine bytes) (λ tree a b e f. e ∙ sym f)
    a b p q

one_generated : (seed cells : ℕ) → IsUnique (IsGenerationAnswer seed cells)
one_generated seed cells = one_machine_answer 0 _ (λ m a b e f. e ∙ sym f) (source seed cells)

pub one_second : (bytes : List ℕ) → IsUnique (IsMachineAnswer 0 IsSecondAnswer bytes)
one_second bytes = one_machine_answer 0 IsSecondAnswer (λ m a b e f. e ∙ sym f) bytes

-- an answer is unique if the result that it prints is
one_answer_for : (Is : Results.Answer → Type 0)
    → ((a b : Results.Answer) → Is a → Is b → a ≡ b) → IsUnique (IsAnswerFor Is)
one_answer_for Is one a b p q = p.2 ∙ ap answer_for (one p.0 q.0 p.1 q.1) ∙ sym q.2

pub one_certify : (m : Machine) (text : List ℕ) → IsUnique (IsCertifyAnswer m text)
one_certify m text = one_answer_for (IsCertification m text) (one_each.one_certification m text)

pub one_upgrade : (m : Machine) (text : List ℕ) → IsUnique (IsUpgradeAnswer m text)
one_upgrade m text = one_answer_for (IsUpgrade m text) (one_each.one_upgrade m text)

pub one_check : (m : Machine) (text : List ℕ) → IsUnique (IsCheckAnswer m text)
one_check m text = one_answer_for _ (one_trace.one_answer m text)

pub one_proposing : (bytes : List ℕ) → IsUnique (IsMachineAnswer 0 IsProposeAnswer bytes)
one_proposing bytes =
    one_machine_answer 0 IsProposeAnswer (λ m. one_answer_for _ (one_proposed.one m)) bytes

-- ---- the answers for the contents of files

-- a relation between the contents of files and answers
abbrev pub AnswerRelation : Type 1
AnswerRelation = List (List ℕ) → Answer → Type 0

-- contents have at most one answer, and have none if a proper prefix of them has one
abbrev pub IsPrefixUnique : AnswerRelation → Type 0
IsPrefixUnique Such = (contents more : List (List ℕ)) (a b : Answer) → Such contents a
    → Such (contents ++ more) b → (more ≡ []) × (a ≡ b)

-- no contents are used
ended : (Such : AnswerRelation)
    → ((x : List ℕ) (xs : List (List ℕ)) (a : Answer) → Such (x ∷ xs) a → ⊥)
    → (contents : List (List ℕ)) (a : Answer) → Such contents a → (contents ≡ []) × Such [] a
ended Such none [] a p = (refl, p)
ended Such none (x ∷ xs) a p = absurd (none x xs a p)

at_end : {Is : Answer → Type 0} → IsUnique Is
    → IsPrefixUnique (λ contents a. (contents ≡ []) × Is a)
at_end one contents more a b p q =
    (sym (ap (λ (c : List (List ℕ)). c ++ more) p.0) ∙ q.0, one a b p.1 q.1)

no_file : (Such : AnswerRelation)
    → ((x : List ℕ) (xs : List (List ℕ)) (a : Answer) → Such (x ∷ xs) a → ⊥) → IsUnique (Such [])
    → IsPrefixUnique Such
no_file Such none one contents more a b p q = at_end one contents more a b
    (ended Such none contents a p) (ended Such none (contents ++ more) b q)

-- a command on one source
one_source : (Such : AnswerRelation) → ((a : Answer) → Such [] a → ⊥)
    → ((x y : List ℕ) (xs : List (List ℕ)) (a : Answer) → Such (x ∷ y ∷ xs) a → ⊥)
    → ((x : List ℕ) → IsUnique (Such (x ∷ []))) → IsPrefixUnique Such
one_source Such none two one [] more a b p q = absurd (none a p)
one_source Such none two one (x ∷ xs) more a b p q =
    no_file (λ rest. Such (x ∷ rest)) (two x) (one x) xs more a b p q

-- the machine is in scope, and this is the answer for it
abbrev Scoped : ℕ → List ℕ → (Machine → Answer → Type 0) → Answer → Type 0
Scoped share source Is a = (m : Machine) × IsScopedMachine share source m × Is m a

-- a source is rejected or out of scope, and only then no second text is read
module _ (share : ℕ) (source : List ℕ) where
  abbrev IsRejected : Answer → Type 0
  IsRejected a = IsSourceRefusal source a ⊎ IsOutOfScope share source a

  one_rejected : IsUnique IsRejected
  one_rejected = one_machine_answer share _ (λ m a b p q. p.2
      ∙ ap (λ (why : Outside). rejection (reasons.Outside why)) (one_outside m p.0 q.0 p.1 q.1)
      ∙ sym q.2) source

  not_rejected : (Is : Machine → Answer → Type 0) (a b : Answer) → IsRejected a
      → Scoped share source Is b → ⊥
  not_rejected Is a b (inl refused) (m, is, such) = source_fine share source a m refused is.means
  not_rejected Is a b (inr (m, means, (why, out, e))) (n, is, such) =
      let same = one_source_machine share source m n means is.means in
      not_outside n why (subst (λ (k : Machine). IsOutsideBy k why) same out) is.scope

-- a command on a source, a second text, and texts after it
module _ {share : ℕ} (Such : AnswerRelation) (none : (a : Answer) → Such [] a → ⊥)
    (first : (x : List ℕ) (a : Answer) → Such (x ∷ []) a → IsRejected share x a) where
  one_scoped : {Then : Machine → List ℕ → AnswerRelation}
      → ((x y : List ℕ) (xs : List (List ℕ)) (a : Answer) → Such (x ∷ y ∷ xs) a
      → Scoped share x (λ m. Then m y xs) a)
      → ((m : Machine) → IsInScope m → (y : List ℕ) → IsPrefixUnique (Then m y))
      → IsPrefixUnique Such
  one_scoped both one [] more a b p q = absurd (none a p)
  one_scoped both one (x ∷ []) [] a b p q =
      (refl, one_rejected share x a b (first x a p) (first x b q))
  one_scoped {Then} both one (x ∷ []) (y ∷ more) a b p q =
      absurd (not_rejected share x (λ m. Then m y more) a b (first x a p) (both x y more b q))
  one_scoped {Then} both one (x ∷ y ∷ xs) more a b p q =
      let (m, is, such) = both x y xs a p in
      let (n, so, other) = both x y (xs ++ more) b q in
      one m is.scope y xs more a b such (subst (λ (k : Machine). Then k y (xs ++ more) b)
      (one_source_machine share x n m so.means is.means) other)

  -- no further text is read
  one_second_text : {Is : Machine → List ℕ → Answer → Type 0}
      → ((x y : List ℕ) (a : Answer) → Such (x ∷ y ∷ []) a → Scoped share x (λ m. Is m y) a)
      → ((x y z : List ℕ) (xs : List (List ℕ)) (a : Answer) → Such (x ∷ y ∷ z ∷ xs) a → ⊥)
      → ((m : Machine) (y : List ℕ) → IsUnique (Is m y)) → IsPrefixUnique Such
  one_second_text {Is} second third one =
      one_scoped {Then = λ m y xs a. (xs ≡ []) × Is m y a}
      (λ x y xs a p. let end = ended (λ rest. Such (x ∷ y ∷ rest)) (third x y) xs a p in
      let such = second x y a end.1 in (such.0, such.1, (end.0, such.2)))
      (λ m scope y. at_end (one m y))

-- ---- a comparison

module _ (m : Machine) where
  -- a step has one value or stops the comparison for one reason
  module _ {X : Type 0} {Gives : X → Type 0} {Stops : ComparisonStop → Type 0}
      (judged : IsJudged Gives Stops) where
    one_stop : IsUnique (λ a. (stop : ComparisonStop) × Stops stop
        × (a ≡ comparison_stop_answer m stop))
    one_stop a b p q = p.2 ∙ ap (comparison_stop_answer m) (judged.one_stop p.0 q.0 p.1 q.1)
        ∙ sym q.2

    one_step : (Then : X → AnswerRelation) → ((x : X) → IsPrefixUnique (Then x))
        → IsPrefixUnique (λ contents a. ((stop : ComparisonStop) × Stops stop × (contents ≡ [])
        × (a ≡ comparison_stop_answer m stop)) ⊎ ((x : X) × Gives x × Then x contents a))
    one_step Then each contents more a b (inl (s, is, e, p)) (inl (t, so, f, q)) =
        (sym (ap (λ (c : List (List ℕ)). c ++ more) e) ∙ f, one_stop a b (s, is, p) (t, so, q))
    one_step Then each contents more a b (inl p) (inr q) = absurd (judged.apart q.0 p.0 q.1 p.1)
    one_step Then each contents more a b (inr p) (inl q) = absurd (judged.apart p.0 q.0 p.1 q.1)
    one_step Then each contents more a b (inr (x, is, p)) (inr (y, so, q)) =
        each x contents more a b p
        (subst (λ (z : X). Then z (contents ++ more) b) (judged.one y x so is) q)

  -- two traces have one answer
  one_traces : (c : Certificate) (t1 t2 : Trace) → IsUnique (PairAnswer m c t1 t2)
  one_traces c t1 t2 = let judged = judged_text m c t1 t2 in
      one_judged _ (IsCompared m c t1 t2) (λ line a. a ≡ text_answer line) (one_stop judged)
      judged.one (λ a line stops is. judged.apart line stops.0 is stops.1)
      (λ line a b e f. e ∙ sym f)

module _ (one two : Origin) (m : Machine) (scope : IsInScope m) where
  -- a run and the answers for its trace
  module _ (c : Certificate) (run : ℕ) (Then : Trace → AnswerRelation) where
    abbrev Runs : RunSource → AnswerRelation
    Runs given = AnswersOfSource m c run given Then

    moved : {g h : RunSource} {xs ys : List (List ℕ)} (a : Answer) → g ≡ h → xs ≡ ys
        → Runs g xs a → Runs h ys a
    moved {g} {h} {xs} {ys} a e f p = subst (λ (k : RunSource). Runs k ys a) e
        (subst (λ (r : List (List ℕ)). Runs g r a) f p)

    one_after : (origin : Origin) → ((t : Trace) → IsPrefixUnique (Then t))
        → IsPrefixUnique (AnswersFromRun m c run origin Then)
    one_after (given_run given) each contents more a b p q =
        one_step m (judged_side m c run given scope) Then each contents more a b
        (moved a p.read.1 (sym p.read.0) p.answers) (moved b q.read.1 (sym q.read.0) q.answers)
    one_after (in_file name) each [] more a b p q = absurd (cc p.read.1)
    one_after (in_file name) each (x ∷ xs) more a b p q =
        one_step m (judged_side m c run (given_trace x) scope) Then each xs more a b
        (moved a (cc (p.read.1, p.read.2)) (cc p.read.1) p.answers)
        (moved b (cc (q.read.1, q.read.2)) (cc q.read.1) q.answers)

  module _ {c : Certificate} {run : ℕ} {Then : Trace → AnswerRelation} {origin : Origin}
      {xs : List (List ℕ)} {a : Answer} where
    -- the run has no trace
    no_trace : (given : RunSource) (stop : ComparisonStop) → IsGivenBy origin xs [] given
        → HasNoRunTrace m c run given stop → a ≡ comparison_stop_answer m stop
        → AnswersFromRun m c run origin Then xs a
    no_trace given stop read is e =
        record { given = given; rest = []; read = read; answers = inl (stop, is, refl, e) }

    -- the run has a trace, and this is an answer for it
    with_trace : {rest : List (List ℕ)} {t : Trace} → IsNamedRun m c origin xs rest t
        → Then t rest a → AnswersFromRun m c run origin Then xs a
    with_trace {rest} {t} is such =
        record { given = is.given; rest = rest; read = is.read; answers = inr (t, is.run, such) }

  -- the rules of a comparison, by its steps
  pub by_steps : (text : List ℕ) (traces : List (List ℕ)) (a : Answer)
      → ComparisonAnswers one two m text traces a
      → ((stop : ComparisonStop) × IsUnusableCertificate m text stop × (traces ≡ [])
      × (a ≡ comparison_stop_answer m stop))
      ⊎ ((c : Certificate) × IsUsableCertificate m text c × FirstRunAnswers one two m c traces a)
  by_steps text traces a (no_certificate stop end is e) = inl (stop, is, end, e)
  by_steps text traces a (no_first_run c given stop usable read is e) =
      inr (c, usable, no_trace given stop read is e)
  by_steps text traces a (no_second_run c t1 rest given stop usable first read is e) =
      inr (c, usable, with_trace first (no_trace given stop read is e))
  by_steps text traces a (not_compared c t1 t2 stop usable runs is e) =
      inr (c, usable, with_trace runs.first (with_trace runs.second (refl, inl (stop, is, e))))
  by_steps text traces a (compared c t1 t2 line usable runs is e) =
      inr (c, usable, with_trace runs.first (with_trace runs.second (refl, inr (line, is, e))))

  pub one_comparison : (text : List ℕ) → IsPrefixUnique (ComparisonAnswers one two m text)
  one_comparison text traces more a b p q =
      one_step m (judged_basis m text) (FirstRunAnswers one two m)
      (λ c. one_after c 1 _ one (λ t1. one_after c 2 _ two (λ t2.
      at_end (one_traces m c t1 t2))))
      traces more a b (by_steps text traces a p) (by_steps text (traces ++ more) b q)

-- ---- all commands

-- contents have at most one answer to a command, and have none if a proper prefix of them has one
prefix_unique : (command : Command) → IsPrefixUnique (Answers command)
prefix_unique (run_model model options) =
    one_source _ (λ a p. p) (λ x y xs a p. p) (one_run options)
prefix_unique (coupled_model model) =
    one_source _ (λ a p. p) (λ x y xs a p. p) (one_run plain_options)
prefix_unique (second_model model) = one_source _ (λ a p. p) (λ x y xs a p. p) one_second
prefix_unique (print_model model) = one_source _ (λ a p. p) (λ x y xs a p. p) one_print
prefix_unique (propose_model model) = one_source _ (λ a p. p) (λ x y xs a p. p) one_proposing
prefix_unique (generate_model seed cells) =
    no_file _ (λ x xs a p. p) (one_generated seed cells)
prefix_unique (certify_model model certificate share) =
    one_second_text _ (λ a p. p) (λ x a p. p) (λ x y a p. p) (λ x y z xs a p. p) one_certify
prefix_unique (upgrade_model model certificate) =
    one_second_text _ (λ a p. p) (λ x a p. p) (λ x y a p. p) (λ x y z xs a p. p) one_upgrade
prefix_unique (check_model model trace) =
    one_second_text _ (λ a p. p) (λ x a p. p) (λ x y a p. p) (λ x y z xs a p. p) one_check
prefix_unique (compare_runs model certificate one two) =
    one_scoped _ (λ a p. p) (λ x a p. p) (λ x y xs a p. p)
    (one_comparison (origin_of one) (origin_of two))

pub bytes_determine_answers : BytesDetermineAnswers
bytes_determine_answers command names others contents first second p q =
    let same : Answers command (contents ++ []) second =
    subst (λ (c : List (List ℕ)). Answers command c second) (sym (append-nil contents)) q.1 in
    (p.0 ∙ sym q.0, (prefix_unique command contents [] first second p.1 same).1)

-- no answer for contents, if others that begin with them need further contents
no_answer : (command : Command) (contents more : List (List ℕ)) (bytes : List ℕ)
    (rest : List (List ℕ)) (a b : Answer) → Answers command contents a
    → Answers command ((contents ++ more) ++ bytes ∷ rest) b → ⊥
no_answer command contents more bytes rest a b p q =
    not_nil more (prefix_unique command contents (more ++ bytes ∷ rest) a b p
    (subst (λ (c : List (List ℕ)). Answers command c b)
    (append_assoc contents more (bytes ∷ rest)) q)).0
  where
    not_nil : (xs : List (List ℕ)) → xs ++ bytes ∷ rest ≡ [] → ⊥
    not_nil [] e = absurd (cc e)
    not_nil (x ∷ xs) e = absurd (cc e)

-- ---- the results for known files

module _ (files : Files) where
  -- these are the contents of the first of these files
  abbrev pub AreFirst : (names contents : List (List ℕ)) → Type 0
  AreFirst names contents = AreContents files (take (length contents) names) contents

  -- of two such lists of contents one is a prefix of the other
  one_before_other : (names xs ys : List (List ℕ)) → AreFirst names xs → AreFirst names ys
      → ((more : List (List ℕ)) × (xs ++ more ≡ ys)) ⊎ ((more : List (List ℕ)) × (ys ++ more ≡ xs))
  one_before_other names [] ys p q = inl (ys, refl)
  one_before_other names (x ∷ xs) [] p q = inr (x ∷ xs, refl)
  one_before_other [] (x ∷ xs) (y ∷ ys) p q = absurd p
  one_before_other (name ∷ names) (x ∷ xs) (y ∷ ys) p q =
      elim (one_before_other names xs ys p.1 q.1) [
        | inl (more, e) ↦ inl (more, cc (p.0, q.0, e))
        | inr (more, e) ↦ inr (more, cc (p.0, q.0, e))
      ]

  -- no contents reach beyond a file that is missing
  before_missing : (names xs ys : List (List ℕ)) (missing : List ℕ) (later : List (List ℕ))
      → names ≡ take (length ys) names ++ missing ∷ later → file_of files missing ≡ None
      → AreFirst names xs → AreFirst names ys → (more : List (List ℕ)) × (xs ++ more ≡ ys)
  before_missing names [] ys missing later named none p q = (ys, refl)
  before_missing [] (x ∷ xs) ys missing later named none p q = absurd p
  before_missing (name ∷ names) (x ∷ xs) [] missing later named none p q =
      let same : name ≡ missing = cc named in absurd (cc (p.0, same, none))
  before_missing (name ∷ names) (x ∷ xs) (y ∷ ys) missing later named none p q =
      let more = before_missing names xs ys missing later (cc named) none p.1 q.1 in
      (more.0, cc (p.0, q.0, more.1))

-- two lists are equal if each begins with the other
same_lists : (xs ys : List (List ℕ)) → (more : List (List ℕ)) × (xs ++ more ≡ ys)
    → (more : List (List ℕ)) × (ys ++ more ≡ xs) → xs ≡ ys
same_lists [] [] p q = refl
same_lists [] (y ∷ ys) p (more, e) = absurd (cc e)
same_lists (x ∷ xs) [] (more, e) q = absurd (cc e)
same_lists (x ∷ xs) (y ∷ ys) (more, e) (others, f) =
    let same = same_lists xs ys (more, cc e) (others, cc f) in cc same

-- two results with the same files, contents and reply are one
abbrev made : List (List ℕ) → List (List ℕ) → ExpectedReply → ExpectedResult
made names contents reply = record { files_read = names; contents = contents; reply = reply }

abbrev AreSame : (s t : ExpectedResult) → Type 0
AreSame s t = made s.files_read s.contents s.reply ≡ made t.files_read t.contents t.reply

module _ (command : Command) (files : Files) where
  abbrev names : List (List ℕ)
  names = files_of command

  -- contents with an answer are not a proper prefix of others with an answer
  same_answer : (xs more ys : List (List ℕ)) (a b : Answer) → xs ++ more ≡ ys
      → Answers command xs a → Answers command ys b → (xs ≡ ys) × (a ≡ b)
  same_answer xs more ys a b e p q =
      let same = prefix_unique command xs more a b p
      (subst (λ (c : List (List ℕ)). Answers command c b) (sym e) q) in
      (sym (append-nil xs) ∙ ap (λ (c : List (List ℕ)). xs ++ c) (sym same.0) ∙ e, same.1)

  answered_first : (s : ExpectedResult) (p : IsAnswered command files s)
      → AreFirst files names s.contents
  answered_first s p = subst (λ (ns : List (List ℕ)). AreContents files ns s.contents)
      p.specified.0 p.found

  -- the contents do not reach beyond the missing file of another result
  before : (s t : ExpectedResult) → AreFirst files names s.contents
      → (q : LacksFile command files t)
      → (more : List (List ℕ)) × (s.contents ++ more ≡ t.contents)
  before s t p q = before_missing files names s.contents t.contents q.missing q.later q.named
      q.not_found p q.found

  -- if a file is missing, the contents before it have no answer
  apart : (s t : ExpectedResult) → IsAnswered command files s → LacksFile command files t → ⊥
  apart s t p q =
      let order = before s t (answered_first s p) q in
      let (bytes, rest, b, such) = q.needed in
      no_answer command s.contents order.0 bytes rest p.answer b p.specified.1
      (subst (λ (c : List (List ℕ)). Answers command (c ++ bytes ∷ rest) b) (sym order.1) such)

  -- at most one result is specified
  one_result : (s t : ExpectedResult) → CommandExpects command files s
      → CommandExpects command files t → s ≡ t
  one_result s t (inl p) (inl q) = by (elim (one_before_other files names s.contents t.contents
      (answered_first s p) (answered_first t q)) [
        | inl (more, e) ↦
            same_answer s.contents more t.contents p.answer q.answer e p.specified.1 q.specified.1
        | inr (more, e) ↦
            let same = same_answer t.contents more s.contents q.answer p.answer e q.specified.1
            p.specified.1 in
            (sym same.0, sym same.1)
      ])
    where
      by : (s.contents ≡ t.contents) × (p.answer ≡ q.answer) → s ≡ t
      by (e, f) = let same : AreSame s t =
          cc (p.specified.0, q.specified.0, p.replied, q.replied, e, f) in same
  one_result s t (inl p) (inr q) = absurd (apart s t p q)
  one_result s t (inr p) (inl q) = absurd (apart t s q p)
  one_result s t (inr p) (inr q) =
      let e = same_lists s.contents t.contents (before s t p.found q) (before t s q.found p) in
      let same : AreSame s t = cc (p.read, q.read, p.replied, q.replied, e) in same

  -- ---- the result of known contents

  module _ (expected : ExpectedResult) (expects : CommandExpects command files expected)
      (contents : List (List ℕ)) (found : AreFirst files names contents) where
    -- an answer for the contents of the first files is the expected one
    pub only_reply : (a : Answer) → Answers command contents a → expected.reply ≡ answered a
    only_reply a is =
        let other = made (take (length contents) names) contents (answered a) in
        ap (λ (r : ExpectedResult). r.reply) (one_result expected other expects
        (inl (record { answer = a; specified = (refl, is); found = found; replied = refl })))

    -- the files that are read include one after the first ones, if further contents are needed
    pub reads_beyond : NeedsMore (Answers command) contents
        → (n : ℕ) × (expected.files_read ≡ take n names) × (length contents < n)
    reads_beyond (bytes, rest, b, needed) = by expects
      where
        beyond : (p : IsAnswered command files expected) (more : List (List ℕ))
            → expected.contents ++ more ≡ contents → ⊥
        beyond p more e = no_answer command expected.contents more bytes rest p.answer b
            p.specified.1 (subst (λ (c : List (List ℕ)). Answers command (c ++ bytes ∷ rest) b)
            (sym e) needed)

        longer : (xs more ys : List (List ℕ)) → xs ++ more ≡ ys
            → length xs + length more ≡ length ys
        longer xs more ys e =
            sym (length-append xs more) ∙ ap (λ (c : List (List ℕ)). length c) e

        by : CommandExpects command files expected
            → (n : ℕ) × (expected.files_read ≡ take n names) × (length contents < n)
        by (inl p) = elim (one_before_other files names contents expected.contents found
            (answered_first expected p)) [
              | inl ([], e) ↦ absurd (beyond p [] (append-nil expected.contents ∙ sym e
                  ∙ append-nil contents))
              | inl (x ∷ more, e) ↦ let more = longer contents (x ∷ more) expected.contents e in
                  (length expected.contents, p.specified.0, omega (arith, more))
              | inr (more, e) ↦ absurd (beyond p more e)
            ]
        by (inr q) =
            let (more, e) = before_missing files names contents expected.contents q.missing q.later
            q.named q.not_found found q.found in
            let more = longer contents more expected.contents e in
            (suc (length expected.contents), q.read, omega (arith, more))

one_told : (command : Option Command) (files : Option Files) (s t : ExpectedResult)
    → CommandLineExpects command files s → CommandLineExpects command files t → s ≡ t
one_told None files s t p q = p ∙ sym q
one_told (Some command) None s t p q = absurd p
one_told (Some command) (Some files) s t p q = one_result command files s t p q

pub answers_are_unique : AnswersAreUnique
answers_are_unique words files s t p q = one_told (command_of words) files s t p q
