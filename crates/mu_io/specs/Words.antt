-- The names of this crate that clauses of many subjects cite, passed on from one place. Declares nothing.
pub use Rattle.mu_io.specs.FaultCounts.{HasOneMoreFault, OnlyCounts}
pub use Rattle.mu_io.specs.Files.{Files, Place, advanced, bytes_left, count_of, file_of}
pub use Rattle.mu_io.specs.Readings.{ReadGains, readings, started, unopened}
