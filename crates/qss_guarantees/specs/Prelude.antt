-- Definitions of other crates that clauses of this crate cite. Declares nothing.
pub use Rattle.std.specs.Io.KnownBytes.{Appends}
pub use Rattle.mu_io.specs.FaultCounts.{HasOneMoreFault}
pub use Rattle.mu_io.specs.Sinks.{AppendsPrefix, EndsByFault}
pub use Rattle.qss_cli.specs.Commands.{Command, RunOptions, Side, command_of, files_of}
pub use Rattle.qss_cli.specs.Commands.{writes_as_it_goes}
pub use Rattle.qss_top.specs.CommandAnswers.{CertifyAnswers, CheckAnswers, CompareAnswers}
pub use Rattle.qss_top.specs.CommandAnswers.{GenerationAnswers, PrintAnswers, ProposeAnswers}
pub use Rattle.qss_top.specs.CommandAnswers.{Run2Answers, RunAnswers, UpgradeAnswers}
pub use Rattle.qss_top.specs.MachineAnswers.{Answer}
pub use Rattle.qss_top.specs.Statuses.{leaves_out}
pub use Rattle.qss_top.specs.WrittenTexts.{IsOutOfMemoryPrefix}
