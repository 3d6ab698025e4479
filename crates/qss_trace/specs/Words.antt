-- The names of this crate that clauses of many subjects cite, passed on from one place. Declares nothing.
pub use Rattle.qss_trace.specs.ExpectedFields.{record_fault, shape_fault, trace_fault}
pub use Rattle.qss_trace.specs.Taking.{AddsPlace}
pub use Rattle.qss_trace.specs.TraceData.{AddsNumbers, HasShape}
pub use Rattle.qss_trace.specs.TraceDrafts.{IsDraftOf}
pub use Rattle.qss_trace.specs.TraceLimits.{AreQuanta, IsFactor}
pub use Rattle.qss_trace.specs.TraceTexts.{AreRecordsOf, IsRefusedFor, IsTextOf}
pub use Rattle.qss_trace.specs.declared.trace.Trace.{Trace}
