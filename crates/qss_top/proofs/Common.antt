-- Names from outside the lemmas of this crate that several of its proofs cite, passed on from one place.
pub use Rattle.std.proofs.Common.{[], ℕ, ◌++◌, ◌<◌, ◌^◌, ◌∙◌, ◌∷◌, ◌≡◌, ◌≢◌, ◌≤◌, ◌⊎◌, ap}
pub use Rattle.std.proofs.Common.{append-nil, append_assoc, arith, Bool, false, inl, inr, length}
pub use Rattle.std.proofs.Common.{List, map, None, refl, Some, subst, suc, sym, take, true, zero}
pub use Rattle.std.proofs.KnownBytes.{Appends-nil}
pub use Rattle.std.specs.Io.KnownBytes.{Appends}
pub use Rattle.std.specs.Prelude.{codes, Err, Ok}
pub use Rattle.std.specs.declared.option.Option.{Option}
pub use Rattle.mu_io.specs.FaultCounts.{HasOneMoreFault}
pub use Rattle.mu_io.specs.Files.{Files}
pub use Rattle.mu_io.specs.Readings.{faulted, fully_read, in_progress, IsOf, ReadFails, Reading}
pub use Rattle.mu_io.specs.Readings.{reading}
pub use Rattle.qss_machine.specs.declared.compiled_machine.Machine.{Machine}
pub use Rattle.cert_check.specs.Scope.{IsInScope, IsOutsideBy}
pub use Rattle.cert_check.specs.declared.certificate.Certificate.{Certificate}
pub use Rattle.cert_check.specs.declared.certificate_scope.Outside.{Outside}
pub use Rattle.qss_cli.specs.Commands.{Command, command_of, files_of, writes_as_it_goes}
pub use Rattle.qss_cli.specs.Requests.{command_on, command_with}
pub use Rattle.qss_cli.specs.declared.request.Task.{Task}
pub use Rattle.qss_cli.specs.declared.request.TwoFileTask.{TwoFileTask}
pub use Rattle.qss_compile.specs.Compilation.{IsParseRefusal, IsRefused}
pub use Rattle.qss_compile.specs.declared.model_refusal.Refused.{Refused}
pub use Rattle.qss_answers.specs.Comparisons.{traced}
pub use Rattle.qss_answers.specs.declared.refusal.Refusal.{Refusal}
pub use Rattle.qss_top.specs.CertificateOutcomes.{ScopeAnswers}
pub use Rattle.qss_top.specs.CommandAnswers.{Answers, ComparisonAnswers, no_certificate, Origin}
pub use Rattle.qss_top.specs.CommandOutcomes.{IsOutcome, IsRefusedFor, IsWhole, line_text}
pub use Rattle.qss_top.specs.CommandOutcomes.{status_of, takes_memory}
pub use Rattle.qss_top.specs.ComparisonOutcomes.{names_of}
pub use Rattle.qss_top.specs.FileReadings.{limit_of, long_answer, long_outcome}
pub use Rattle.qss_top.specs.Frames.{AddsReadings, AnswersFromFiles, IsAnsweredBy, IsFileFrame}
pub use Rattle.qss_top.specs.Frames.{WritesAnswer}
pub use Rattle.qss_top.specs.MachineAnswers.{Answer, IsMessageText, IsRefusalFor, Message}
pub use Rattle.qss_top.specs.MachineAnswers.{overflowed, refusal, refused, rejected, rejection}
pub use Rattle.qss_top.specs.MachineAnswers.{status_of_refusal, text_answer, too_long}
pub use Rattle.qss_top.specs.ReadAnswers.{AnswersFromReads, AreReadInOrder}
pub use Rattle.qss_top.specs.ReadAnswers.{ArgumentsAnswerFromReads, FailsAtFile, is_too_long}
pub use Rattle.qss_top.specs.ReadAnswers.{IsAnswerFromReads, MayHaveContents}
pub use Rattle.qss_top.specs.Statuses.{is_defined, leaves_out}
pub use Rattle.qss_top.specs.Tasks.{origin_in}
pub use Rattle.qss_top.specs.WrittenTexts.{IsOutOfMemoryPrefix}
pub use Rattle.qss_top.specs.declared.command_outcome.Outcome.{Outcome}
pub use Rattle.qss_top.specs.declared.file_reading.FileKind.{FileKind}
pub use Rattle.qss_top.specs.declared.status.Status.{Status}
