-- Arguments and known files have a result.
use Rattle.qss_guarantees.proofs.Common
use Common.{[], ℕ, ◌++◌, ◌∷◌, ◌≡◌, ◌≤◌, ◌⊎◌, Answer, answer_for, answered, Answers, AnswersFromRun}
use Common.{AnswersOfSource, ap, append-nil, arith, Certificate, certify_model, check_model}
use Common.{Command, command_of, CommandLineExpects, compare_runs, compared, comparison_stop_answer}
use Common.{ComparisonAnswers, coupled_model, ExpectedResult, file_missing, file_of, Files}
use Common.{files_of, first_run, FirstRunAnswers, generate_model, given_run, in_file, inl, inr}
use Common.{IsAnswerFor, IsCertification, IsCertifyAnswer, IsCheckAnswer, IsGenerationAnswer}
use Common.{IsInScope, IsMachineAnswer, IsNamedRun, IsOutOfScope, IsPrintAnswer, IsProposeAnswer}
use Common.{IsRunAnswer, IsScopedMachine, IsSecondAnswer, IsSourceRefusal, IsUpgrade}
use Common.{IsUpgradeAnswer, IsUsableCertificate, length, List, Machine, model_answer, NeedsMore}
use Common.{no_certificate, no_first_run, no_second_run, None, not_compared, Option, Origin}
use Common.{origin_of, PairAnswer, plain_options, print_model, printed_run_answer, propose_model}
use Common.{refl, refusal, rejection, run2_answer, run_model, RunOptions, RunSource, second_model}
use Common.{second_run, SecondRunAnswers, Side, Some, source, subst, suc, summary_answer, take}
use Common.{text_answer, Trace, traced as given_trace, upgrade_model, usage}
use Rattle.std.specs.Prelude.{IfSome}
use Rattle.qss_guarantees.proofs.OneCertificateAnswer.{one_each}
use Rattle.qss_guarantees.proofs.Scopes.{scope_of}
use Rattle.qss_guarantees.proofs.Bases.{judged_basis}
use Rattle.qss_guarantees.proofs.Compared.{judged_text}
use Rattle.qss_guarantees.proofs.OneTraceAnswer.{one_each as one_trace}
use Rattle.qss_guarantees.proofs.OneProposalAnswer.{one_proposed}
use Rattle.qss_guarantees.proofs.Sides.{judged_side}
use Rattle.qss_cli.specs.Commands.{traced, files_of_side}
use Rattle.qss_cli.proofs.CommandShares.{HasShare, command_share}
use Rattle.qss_top.specs.CommandAnswers.{AreNamedRuns}
use Rattle.qss_top.specs.ComparisonOutcomes.{names_of}
use Rattle.qss_guarantees.specs.AnswerLaws.{AnswersExist}
use Rattle.qss_guarantees.proofs.Sources.{source_judged, tree_judged}
use Rattle.qss_guarantees.proofs.Sameness.{AnswerRelation, AreFirst}
use Rattle.qss_answers.specs.Answers as Results
use Rattle.qss_answers.specs.declared.refusal.Refusal.TheVariants as reasons
use Rattle.qss_top.specs.declared.status.Status.TheVariants as ends

-- ---- the answers for a source, a machine or a text

-- some answer has this property
abbrev pub HasAnswer : (Answer → Type 0) → Type 0
HasAnswer Is = (answer : Answer) × Is answer

-- a source has an answer, if each machine has one
machine_answer : (share : ℕ) → share ≤ 2048 → (Is : Machine → Answer → Type 0)
    → ((m : Machine) → HasAnswer (Is m)) → (bytes : List ℕ)
    → HasAnswer (IsMachineAnswer share Is bytes)
machine_answer share few Is some bytes = elim (source_judged share few bytes) [
  | inl (a, refused) ↦ (a, inl refused)
  | inr (m, means) ↦ let such = some m in (such.0, inr (m, means, such.1))
]

-- each command on one source has an answer
run_answer : (options : RunOptions) → options.share ≤ 2048 → (bytes : List ℕ)
    → HasAnswer (IsRunAnswer options bytes)
run_answer options few bytes =
    machine_answer options.share few _ (λ m. (printed_run_answer options m, refl)) bytes

plain_answer : (bytes : List ℕ) → HasAnswer (IsRunAnswer plain_options bytes)
plain_answer bytes = run_answer plain_options (omega arith) bytes

print_answer : (bytes : List ℕ) → HasAnswer (IsPrintAnswer bytes)
print_answer bytes = elim (tree_judged bytes) [
  | inl (a, refused) ↦ (a, inl refused)
  | inr (tree, parses) ↦ (model_answer tree, inr (tree, parses, refl))
]

generation_answer : (seed cells : ℕ) → HasAnswer (IsGenerationAnswer seed cells)
generation_answer seed cells =
    machine_answer 0 (omega arith) _ (λ m. (summary_answer cells m, refl)) (source seed cells)

second_answer : (bytes : List ℕ) → HasAnswer (IsMachineAnswer 0 IsSecondAnswer bytes)
second_answer bytes =
    machine_answer 0 (omega arith) IsSecondAnswer (λ m. (run2_answer m, refl)) bytes

-- the answer that prints a result
some_answer_for : (Is : Results.Answer → Type 0) → (such : Results.Answer) × Is such
    → HasAnswer (IsAnswerFor Is)
some_answer_for Is such = (answer_for such.0, (such.0, such.1, refl))

some_certify : (m : Machine) (text : List ℕ) → HasAnswer (IsCertifyAnswer m text)
some_certify m text = some_answer_for (IsCertification m text) (one_each.some_certification m text)

some_upgrade : (m : Machine) (text : List ℕ) → HasAnswer (IsUpgradeAnswer m text)
some_upgrade m text = some_answer_for (IsUpgrade m text) (one_each.some_upgrade m text)

some_check : (m : Machine) (text : List ℕ) → HasAnswer (IsCheckAnswer m text)
some_check m text = some_answer_for _ (one_trace.some_answer m text)

propose_answer : (bytes : List ℕ) → HasAnswer (IsMachineAnswer 0 IsProposeAnswer bytes)
propose_answer bytes = machine_answer 0 (omega arith) IsProposeAnswer
    (λ m. some_answer_for _ (one_proposed.some m)) bytes

-- ---- a comparison

-- two traces have an answer
some_traces_answer : (m : Machine) (c : Certificate) (t1 t2 : Trace)
    → HasAnswer (PairAnswer m c t1 t2)
some_traces_answer m c t1 t2 = elim ((judged_text m c t1 t2).some) [
  | inl (text, is) ↦ (text_answer text, inr (text, is, refl))
  | inr (stop, is) ↦ (comparison_stop_answer m stop, inl (stop, is, refl))
]

-- the answers after the certificate is read are those of the comparison
pub comparison_answers : (one two : Origin) (m : Machine) (text : List ℕ) (c : Certificate)
    → IsUsableCertificate m text c → (traces : List (List ℕ)) (a : Answer)
    → FirstRunAnswers one two m c traces a → ComparisonAnswers one two m text traces a
comparison_answers one two m text c usable traces a first = elim (first.answers) [
  | inl (stop, none, e, is) ↦
      no_first_run c first.given stop usable (rw e at (first.read)) none is
  | inr (t1, run, second) ↦
      let named : IsNamedRun m c one traces first.rest t1
      = record { given = first.given; read = first.read; run = run } in
      elim (second.answers) [
        | inl (stop, none, e, is) ↦ no_second_run c t1 first.rest second.given stop usable named
            (rw e at (second.read)) none is
        | inr (t2, other, (e, answers)) ↦
            let runs : AreNamedRuns m c one two traces t1 t2 = record {
              rest = first.rest;
              first = named;
              second = record { given = second.given; read = rw e at (second.read); run = other };
            } in
            elim answers [
              | inl (stop, refused, is) ↦ not_compared c t1 t2 stop usable runs refused is
              | inr (line, so, is) ↦ compared c t1 t2 line usable runs so is
            ]
      ]
]

-- ---- the result for known files

module _ (files : Files) where
  -- the first of these files are found, and their contents have an answer, or the next file is
  -- missing and needed
  record HasResult (names : List (List ℕ)) (Such : AnswerRelation) : Type 0 where
    pub contents : List (List ℕ)
    pub found : AreFirst files names contents
    pub ends : HasAnswer (Such contents) ⊎ ((missing : List ℕ) × (later : List (List ℕ))
        × (names ≡ take (length contents) names ++ missing ∷ later)
        × (file_of files missing ≡ None) × NeedsMore Such contents)

  -- no file is needed
  done : {names : List (List ℕ)} {Such : AnswerRelation} (a : Answer) → Such [] a
      → HasResult names Such
  done a such = record { contents = []; found = tt; ends = inl (a, such) }

  -- a file is needed, and then further files for all contents of this file
  reads : {name : List ℕ} {names : List (List ℕ)} {Such : AnswerRelation}
      → ((bytes : List ℕ) → HasResult names (λ contents. Such (bytes ∷ contents)))
      → HasResult (name ∷ names) Such
  reads {name} {names} {Such} some = by (file_of files name) refl
    where
      needed : HasResult names (λ contents. Such ([] ∷ contents)) → NeedsMore Such []
      needed p = elim (p.ends) [
        | inl (a, such) ↦ ([], p.contents, a, such)
        | inr (missing, later, named, none, more) ↦
            ([], p.contents ++ more.0 ∷ more.1, more.2, more.3)
      ]

      by : (found : Option (List ℕ)) → file_of files name ≡ found → HasResult (name ∷ names) Such
      by None e = record {
        contents = [];
        found = tt;
        ends = inr (name, names, refl, e, needed (some []));
      }
      by (Some bytes) e = let p = some bytes in record {
        contents = bytes ∷ p.contents;
        found = (e, p.found);
        ends = elim (p.ends) [
          | inl such ↦ inl such
          | inr (missing, later, named, none, more) ↦
              inr (missing, later, ap (λ (ns : List (List ℕ)). name ∷ ns) named, none, more)
        ];
      }

  -- the answers are also those of another relation
  map_result : {names : List (List ℕ)} {Such Others : AnswerRelation}
      → ((contents : List (List ℕ)) (a : Answer) → Such contents a → Others contents a)
      → HasResult names Such → HasResult names Others
  map_result step p = record {
    contents = p.contents;
    found = p.found;
    ends = elim (p.ends) [
      | inl (a, such) ↦ inl (a, step p.contents a such)
      | inr (missing, later, named, none, (bytes, more, a, such)) ↦
          let other = step (p.contents ++ bytes ∷ more) a such in
          inr (missing, later, named, none, (bytes, more, a, other))
    ];
  }

  -- a command on one source
  one_file : {model : List ℕ} {Such : AnswerRelation}
      → ((bytes : List ℕ) → HasAnswer (Such (bytes ∷ []))) → HasResult (model ∷ []) Such
  one_file some = reads (λ bytes. let a = some bytes in done a.0 a.1)

  -- a command on a source, a second text, and texts after it
  two_files : {share : ℕ} {model second : List ℕ} {names : List (List ℕ)} {Such : AnswerRelation}
      → share ≤ 2048
      → ((bytes : List ℕ) (a : Answer) → IsSourceRefusal bytes a ⊎ IsOutOfScope share bytes a
      → Such (bytes ∷ []) a)
      → ((bytes : List ℕ) (m : Machine) → IsScopedMachine share bytes m → (text : List ℕ)
      → HasResult names (λ contents. Such (bytes ∷ text ∷ contents)))
      → HasResult (model ∷ second ∷ names) Such
  two_files {share} few first both = reads (λ bytes. elim (source_judged share few bytes) [
    | inl (a, refused) ↦ done a (first bytes a (inl refused))
    | inr (m, means) ↦ elim (scope_of m) [
      | inl (why, outside) ↦ let a = rejection (reasons.Outside why) in
          done a (first bytes a (inr (m, means, (why, outside, refl))))
      | inr scope ↦ reads (both bytes m (record { means = means; scope = scope }))
    ]
  ])

  -- ---- a comparison

  module _ (m : Machine) (scope : IsInScope m) where
    -- the answers after a run
    some_after : (c : Certificate) (run : ℕ) (origin : Origin) {names : List (List ℕ)}
        {Then : Trace → AnswerRelation} → ((t : Trace) → HasResult names (Then t))
        → HasResult (names_of origin ++ names) (AnswersFromRun m c run origin Then)
    some_after c run origin {names} {Then} some = by origin
      where
        after : (given : RunSource) → HasResult names (AnswersOfSource m c run given Then)
        after given = elim ((judged_side m c run given scope).some) [
          | inl (t, is) ↦ map_result (λ rest a such. inr (t, is, such)) (some t)
          | inr (stop, is) ↦ done (comparison_stop_answer m stop) (inl (stop, is, refl, refl))
        ]

        by : (origin : Origin)
            → HasResult (names_of origin ++ names) (AnswersFromRun m c run origin Then)
        by (given_run given) = map_result (λ rest a such. record {
          given = given;
          rest = rest;
          read = (refl, refl);
          answers = such;
        }) (after given)
        by (in_file name) = reads (λ bytes. map_result (λ rest a such. record {
          given = given_trace bytes;
          rest = rest;
          read = (bytes, refl, refl);
          answers = such;
        }) (after (given_trace bytes)))

    comparison : (one two : Origin) (text : List ℕ)
        → HasResult (names_of one ++ names_of two) (ComparisonAnswers one two m text)
    comparison one two text = elim ((judged_basis m text).some) [
      | inl (c, usable) ↦ map_result (comparison_answers one two m text c usable)
          (some_after c 1 one (λ t1.
          subst (λ ns. HasResult ns (SecondRunAnswers two m c t1)) (append-nil (names_of two))
          (some_after c 2 two (λ t2.
          let a = some_traces_answer m c t1 t2 in done a.0 (refl, a.1)))))
      | inr (stop, is) ↦
          done (comparison_stop_answer m stop) (no_certificate stop refl is refl)
    ]

  same_names : (side : Side) → names_of (origin_of side) ≡ files_of_side side
  same_names first_run = refl
  same_names second_run = refl
  same_names (traced name) = refl

  -- ---- all commands

  of_command : (command : Command) → HasShare command
      → HasResult (files_of command) (Answers command)
  of_command (run_model model options) few = one_file (run_answer options few)
  of_command (coupled_model model) few = one_file plain_answer
  of_command (second_model model) few = one_file second_answer
  of_command (print_model model) few = one_file print_answer
  of_command (propose_model model) few = one_file propose_answer
  of_command (generate_model seed cells) few = let a = generation_answer seed cells in done a.0 a.1
  of_command (certify_model model certificate share) few =
      two_files few (λ bytes a p. p) (λ bytes m is text.
      let a = some_certify m text in done a.0 (m, is, a.1))
  of_command (upgrade_model model certificate) few =
      two_files (omega arith) (λ bytes a p. p) (λ bytes m is text.
      let a = some_upgrade m text in done a.0 (m, is, a.1))
  of_command (check_model model trace) few =
      two_files (omega arith) (λ bytes a p. p) (λ bytes m is text.
      let a = some_check m text in done a.0 (m, is, a.1))
  of_command (compare_runs model certificate one two) few =
      two_files (omega arith) (λ bytes a p. p) (λ bytes m is text.
      map_result (λ traces a such. (m, is, such))
      (subst (λ ns. HasResult ns (ComparisonAnswers (origin_of one) (origin_of two) m text))
      (cc (same_names one, same_names two))
      (comparison m is.scope (origin_of one) (origin_of two) text)))

  -- the result of an argument list
  of_line : (command : Option Command) → IfSome command HasShare
      → (expected : ExpectedResult) × CommandLineExpects command (Some files) expected
  of_line None few = (
    record { files_read = []; contents = []; reply = answered (refusal ends.Usage usage) },
    refl,
  )
  of_line (Some command) few = let p = of_command command few in elim (p.ends) [
    | inl (a, such) ↦ (
      record {
        files_read = take (length p.contents) (files_of command);
        contents = p.contents;
        reply = answered a;
      },
      inl (record { answer = a; specified = (refl, such); found = p.found; replied = refl }),
    )
    | inr (missing, later, named, none, needed) ↦ (
      record {
        files_read = take (suc (length p.contents)) (files_of command);
        contents = p.contents;
        reply = file_missing;
      },
      inr (record {
        missing = missing;
        later = later;
        named = named;
        read = refl;
        found = p.found;
        not_found = none;
        needed = needed;
        replied = refl;
      }),
    )
  ]

pub answers_exist : AnswersExist
answers_exist words files = of_line files (command_of words) (command_share words)
