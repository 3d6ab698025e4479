-- Names from outside the lemmas of this crate that several of its proofs cite, passed on from one place.
pub use Rattle.std.proofs.Common.{ℕ, ℤ, ◌++◌, ◌<◌, ◌∙◌, ◌≡◌, ◌≤ℤ◌, ap, arith, Bool, inl, inr}
pub use Rattle.std.proofs.Common.{length, List, refl, rules, subst, sym}
pub use Rattle.std.specs.Io.KnownBytes.{Appends}
pub use Rattle.std.specs.Iterator.Adapters.{zip_first, zip_second}
pub use Rattle.std.specs.Prelude.{Err, IfErr, IfOk, Ok, Option, Result}
pub use Rattle.std.specs.Slice.Iter.{iter_rest}
pub use Rattle.std.specs.String.{string_bytes}
pub use Rattle.std.specs.declared.alloc.Global.{Global}
pub use Rattle.std.specs.declared.vec.Vec.{Vec}
pub use Rattle.mu_num.specs.IndexedSums.{int_at}
pub use Rattle.qss_machine.specs.Machines.{start_states, state_count}
pub use Rattle.qss_machine.specs.declared.compiled_machine.Machine.{Machine}
pub use Rattle.qss_machine.specs.declared.machine_parts.StateInfo.{StateInfo}
pub use Rattle.cert_check.specs.Scope.{IsInScope}
pub use Rattle.cert_check.specs.Written.{certificate_text}
pub use Rattle.cert_check.specs.declared.certificate.Certificate.{Certificate}
pub use Rattle.cert_check.specs.declared.inequality_checker.Verdict.{Verdict}
pub use Rattle.qss_trace.specs.declared.trace.Trace.{Trace}
pub use Rattle.qss_answers.specs.AcceptedBounds.{IsSoundCertification}
pub use Rattle.qss_answers.specs.Answers.{Answer, Ends, HasNoText, judged, refused, TakesMemory}
pub use Rattle.qss_answers.specs.Answers.{written}
pub use Rattle.qss_answers.specs.BoundTexts.{bound_line, bound_lines, bounds_text}
pub use Rattle.qss_answers.specs.CertificateAnswers.{IsCertification, IsUpgrade}
pub use Rattle.qss_answers.specs.Comparisons.{first_order, second_order, traced}
pub use Rattle.qss_answers.specs.ProposalAnswers.{IsProposed}
pub use Rattle.qss_answers.specs.ProposedBounds.{IsSoundProposal}
pub use Rattle.qss_answers.specs.TraceAnswers.{IsChecked}
pub use Rattle.qss_answers.specs.declared.answer_result.AnswerErr.{AnswerErr}
pub use Rattle.qss_answers.specs.declared.answer_result.AnswerResult.{AnswerResult}
pub use Rattle.qss_answers.specs.declared.refusal.Refusal.{Refusal}
