-- Definitions of this crate that clauses of many subjects cite. Declares nothing.
pub use Rattle.qss_theorems.specs.AffectedStates.{AffectedStatesAreBounded}
pub use Rattle.qss_theorems.specs.CertificateLengths.{WrittenCertificatesAreShort}
pub use Rattle.qss_theorems.specs.CommaLines.{BoundLinesAreFields, LinesAreFields, SecondOrderLinesAreFields}
pub use Rattle.qss_theorems.specs.Expressions.{NamesAreTaken}
pub use Rattle.qss_theorems.specs.Items.{ItemsAreKept}
pub use Rattle.qss_theorems.specs.Listings.{ListingsAreRight}
pub use Rattle.qss_theorems.specs.Printed.{PrintedRunsAreFree}
pub use Rattle.qss_theorems.specs.RunCourses.{EventsLeadFreely}
pub use Rattle.qss_theorems.specs.Sources.{SourcesAreWellFormed}
