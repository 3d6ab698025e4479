-- Definitions of other crates that clauses of this crate cite. Declares nothing.
pub use Rattle.std.specs.Io.KnownBytes.{Appends}
pub use Rattle.cert_check.specs.Scope.{IsInScope}
pub use Rattle.cert_check.specs.declared.certificate.Certificate.{Certificate}
pub use Rattle.mu_io.specs.Sinks.{EndsByFault}
pub use Rattle.mu_num.specs.Limits.{model_length_limit, relative_limit}
pub use Rattle.mu_tree.specs.ModelTree.{model}
pub use Rattle.qss_answers.specs.AcceptedBounds.{IsSoundCertification}
pub use Rattle.qss_answers.specs.Comparisons.{HasNoRunTrace, IfMemory, IsRunTrace, MayStop}
pub use Rattle.qss_answers.specs.Comparisons.{TakesMemory}
pub use Rattle.qss_cli.specs.Commands.{command_of, files_of, plain_options, writes_as_it_goes}
pub use Rattle.qss_cli.specs.RelativeQuanta.{share_of_task}
pub use Rattle.qss_cli.specs.Requests.{command_in, command_on, command_with, options_in, side_in}
pub use Rattle.qss_compile.specs.Compilation.{IsRefused}
pub use Rattle.qss_machine.specs.Machines.{state_count}
pub use Rattle.qss_machine.specs.declared.compiled_machine.Machine.{Machine}
pub use Rattle.qss_trace.specs.Trace.{IsRunOf}
pub use Rattle.qss_trace.specs.TraceTexts.{IsTextOf}
pub use Rattle.qss_trace.specs.declared.trace.Trace.{Trace}
