-- Names from outside the lemmas of this crate that several of its proofs cite, passed on from one place.
pub use Rattle.std.proofs.Common.{[], ℕ, ℤ, ◌++◌, ◌+◌, ◌<◌, ◌^◌, ◌∙◌, ◌∷◌, ◌≡◌, ◌≢◌, ◌≤◌, ◌⊎◌, ap}
pub use Rattle.std.proofs.Common.{append-nil, ap₂, arith, Bool, false, get_or, inl, inr, length}
pub use Rattle.std.proofs.Common.{length-append, List, map, nat_lt, None, pos, refl, Some, subst}
pub use Rattle.std.proofs.Common.{suc, sym, take, true, zero}
pub use Rattle.std.proofs.lemmas.Bool.{cases_lt}
pub use Rattle.std.proofs.lemmas.Bool.Decides.{nat_tests}
pub use Rattle.std.proofs.lemmas.List.{length-map}
pub use Rattle.std.specs.Io.KnownBytes.{Appends}
pub use Rattle.std.specs.Ordering.{int_eq}
pub use Rattle.std.specs.Prelude.{All, MatchBool, Ok}
pub use Rattle.std.specs.declared.option.Option.{Option}
pub use Rattle.mu_io.specs.Files.{file_of, Files}
pub use Rattle.mu_io.specs.Readings.{faulted, fully_read, Reading, reading}
pub use Rattle.mu_num.specs.IndexedSums.{int_at}
pub use Rattle.qss_generate.specs.Source.{source}
pub use Rattle.qss_machine.proofs.Near.{quanta_positive}
pub use Rattle.qss_machine.specs.Machines.{start_states, state_count}
pub use Rattle.qss_machine.specs.RunLaws.{levels_from, states_from}
pub use Rattle.qss_machine.specs.Runs.{run_rows}
pub use Rattle.qss_machine.specs.Ticks.{Snapshot, start_snapshot}
pub use Rattle.qss_machine.specs.declared.compiled_machine.Machine.{Machine}
pub use Rattle.qss_machine.specs.declared.machine_parts.ClauseInfo.{ClauseInfo}
pub use Rattle.cert_check.proofs.Accepted.{accepted-holds}
pub use Rattle.cert_check.proofs.Judged.{judged_texts}
pub use Rattle.cert_check.proofs.Verdicts.{verdicts}
pub use Rattle.cert_check.proofs.WrittenLines.{reads-back}
pub use Rattle.cert_check.specs.CertificateData.{certificate_data}
pub use Rattle.cert_check.specs.CertificateLines.{lines}
pub use Rattle.cert_check.specs.CertificateTexts.{IsTextOf}
pub use Rattle.cert_check.specs.Scope.{IsInScope, IsOutsideBy}
pub use Rattle.cert_check.specs.Systems.{system_of}
pub use Rattle.cert_check.specs.Written.{certificate_text, lines_text}
pub use Rattle.cert_check.specs.declared.certificate.Certificate.{Certificate}
pub use Rattle.cert_check.specs.declared.certificate_scope.Outside.{Outside}
pub use Rattle.cert_check.specs.declared.text_err.TextErr.{TextErr}
pub use Rattle.qss_cli.specs.Commands.{certify_model, check_model, Command, command_of}
pub use Rattle.qss_cli.specs.Commands.{compare_runs, coupled_model, files_of, first_run}
pub use Rattle.qss_cli.specs.Commands.{generate_model, plain_options, print_model, propose_model}
pub use Rattle.qss_cli.specs.Commands.{run_model, RunOptions, second_model, second_run, Side}
pub use Rattle.qss_cli.specs.Commands.{upgrade_model}
pub use Rattle.qss_events.specs.RunTexts.{run_by_rule}
pub use Rattle.qss_trace.proofs.OneTrace.{one-trace}
pub use Rattle.qss_trace.specs.Trace.{IsRunOf}
pub use Rattle.qss_trace.specs.declared.trace.Trace.{Trace}
pub use Rattle.cert_propose.specs.declared.certificate_proposal.Proposal.{Proposal}
pub use Rattle.qss_compile.specs.Compilation.{IsParseRefusal, IsRefused}
pub use Rattle.qss_compile.specs.declared.model_refusal.Refused.{Refused}
pub use Rattle.qss_answers.proofs.BoundsHold.{accepted_text, bounds, kept_texts}
pub use Rattle.qss_answers.proofs.Scopes.{not_outside}
pub use Rattle.qss_answers.proofs.TraceEnds.{accepted_fine}
pub use Rattle.qss_answers.specs.Answers.{refused, written}
pub use Rattle.qss_answers.specs.BoundTexts.{bounds_text}
pub use Rattle.qss_answers.specs.CertificateAnswers.{certified, IsCertification, IsUpgrade}
pub use Rattle.qss_answers.specs.CertificateAnswers.{upgraded}
pub use Rattle.qss_answers.specs.Comparisons.{first_order, HasNoRunTrace, IsCompared, IsGivenRun}
pub use Rattle.qss_answers.specs.Comparisons.{IsOwn, IsRunTrace, IsUnusableCertificate}
pub use Rattle.qss_answers.specs.Comparisons.{IsUsableCertificate, RunSource, second_order, traced}
pub use Rattle.qss_answers.specs.ProposalAnswers.{answer_of, IsProposed}
pub use Rattle.qss_answers.specs.TraceAnswers.{IsChecked, IsRead, summary}
pub use Rattle.qss_answers.specs.declared.comparison_ending.ComparisonStop.{ComparisonStop}
pub use Rattle.qss_answers.specs.declared.refusal.Refusal.{Refusal}
pub use Rattle.qss_top.proofs.Sources.{long_for}
pub use Rattle.qss_top.specs.Calls.{Call, ComputesSpecification}
pub use Rattle.qss_top.specs.CommandAnswers.{Answers, CertifyAnswers, CheckAnswers, CompareAnswers}
pub use Rattle.qss_top.specs.CommandAnswers.{compared, ComparisonAnswers, GenerationAnswers}
pub use Rattle.qss_top.specs.CommandAnswers.{given_run, in_file, IsNamedRun, IsOutOfScope}
pub use Rattle.qss_top.specs.CommandAnswers.{IsScopedMachine, NeedsMore, no_certificate}
pub use Rattle.qss_top.specs.CommandAnswers.{no_first_run, no_second_run, not_compared, Origin}
pub use Rattle.qss_top.specs.CommandAnswers.{origin_of, PrintAnswers, ProposeAnswers, Run2Answers}
pub use Rattle.qss_top.specs.CommandAnswers.{RunAnswers, UpgradeAnswers}
pub use Rattle.qss_top.specs.ComparisonOutcomes.{AnswersFromRun, AnswersOfSource, FirstRunAnswers}
pub use Rattle.qss_top.specs.ComparisonOutcomes.{PairAnswer, SecondRunAnswers}
pub use Rattle.qss_top.specs.MachineAnswers.{Answer, answer_for, comparison_stop_answer}
pub use Rattle.qss_top.specs.MachineAnswers.{IsAnswerFor, IsCertifyAnswer, IsCheckAnswer}
pub use Rattle.qss_top.specs.MachineAnswers.{IsGenerationAnswer, IsMachineAnswer, IsMessageText}
pub use Rattle.qss_top.specs.MachineAnswers.{IsPrintAnswer, IsProposeAnswer, IsRefusalFor}
pub use Rattle.qss_top.specs.MachineAnswers.{IsRunAnswer, IsSecondAnswer, IsSourceMachine}
pub use Rattle.qss_top.specs.MachineAnswers.{IsSourceRefusal, IsSourceTree, IsTreeRefusal}
pub use Rattle.qss_top.specs.MachineAnswers.{IsUpgradeAnswer, model_answer, printed_run_answer}
pub use Rattle.qss_top.specs.MachineAnswers.{refusal, rejection, run2_answer, second_run_answer}
pub use Rattle.qss_top.specs.MachineAnswers.{summary_answer, text_answer, too_long, usage}
pub use Rattle.qss_top.specs.ReadAnswers.{AreReadInOrder, DeterminesAnswer, is_too_long}
pub use Rattle.qss_top.specs.Sessions.{seen}
pub use Rattle.qss_top.specs.Statuses.{is_defined}
pub use Rattle.qss_top.specs.declared.status.Status.{Status}
pub use Rattle.qss_guarantees.specs.AnswerLaws.{IsUnique}
pub use Rattle.qss_guarantees.specs.CallProperties.{HasPropertiesOfReads}
pub use Rattle.qss_guarantees.specs.ExpectedResults.{answered, AreContents, CommandExpects}
pub use Rattle.qss_guarantees.specs.ExpectedResults.{CommandLineExpects, ExpectedReply}
pub use Rattle.qss_guarantees.specs.ExpectedResults.{ExpectedResult, file_missing, IsExpectedResult}
pub use Rattle.qss_guarantees.specs.Guarantees.{IsRunStatus}
pub use Rattle.qss_guarantees.specs.Replies.{IsReplyGiven}
pub use Rattle.qss_guarantees.specs.TraceLaws.{IsJudged}
