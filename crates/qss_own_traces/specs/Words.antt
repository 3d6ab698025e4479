-- The names of this crate that clauses of many subjects cite, passed on from one place. Declares nothing.
pub use Rattle.qss_own_traces.specs.SecondPlaces.{change_after, changes_after, leaves_at}
pub use Rattle.qss_own_traces.specs.SecondRuns.{IsSecondRefusal, IsSecondTrace, is_wide_at}
pub use Rattle.qss_own_traces.specs.TraceSystems.{Fits, heavy_row, row_weight, system_weight}
