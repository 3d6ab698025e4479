-- Definitions of other crates that clauses of this crate cite. Declares nothing.
pub use Rattle.std.specs.Io.KnownBytes.{Appends}
pub use Rattle.mu_io.specs.Events.{taken}
pub use Rattle.mu_io.specs.FaultCounts.{HasOneMoreFault}
pub use Rattle.mu_io.specs.Readings.{readings}
pub use Rattle.mu_io.specs.Sinks.{AppendsPrefix}
pub use Rattle.qss_cli.specs.Commands.{command_of}
pub use Rattle.qss_top.specs.Sessions.{IsAccepted, IsSession, seen}
