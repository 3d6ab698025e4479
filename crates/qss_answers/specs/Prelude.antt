-- Definitions of other crates that clauses of this crate cite. Declares nothing.
pub use Rattle.std.specs.Io.KnownBytes.{Appends}
pub use Rattle.cert_check.specs.CertificateData.{certificate_data}
pub use Rattle.cert_check.specs.CheckVerdicts.{IsVerdict}
pub use Rattle.cert_check.specs.Scope.{IsInScope}
pub use Rattle.cert_check.specs.Systems.{system_of}
pub use Rattle.cert_check.specs.declared.certificate.Certificate.{Certificate}
pub use Rattle.cert_check.specs.declared.inequality_checker.Verdict.TheVariants.{Accepted}
pub use Rattle.csv.specs.Writing.{default_writer, row_text}
pub use Rattle.qss_machine.specs.Machines.{start_states, state_count}
pub use Rattle.qss_trace.specs.Trace.{IsRunOf}
pub use Rattle.qss_trace.specs.TraceTexts.{IsTextOf}
pub use Rattle.qss_trace.specs.declared.trace.Trace.{Trace}
pub use Rattle.qss_trace.specs.declared.trace_checker.TraceVerdict.TheVariants.{Legitimate}
