-- The names of this crate that clauses of many subjects cite, passed on from one place. Declares nothing.
pub use Rattle.qss_states.specs.EventContexts.{AreNewLevels, AreNewLevelsAt, AreStatesOf, CanFollow, CanRestart, CanSchedule, CanScheduleOne, CanUpdateAfterHandlers, CanUpdateSlopes, IsHandlerResult, WereSums, WereWeights, first_row_exceeding, new_slopes, new_sums, states_left}
pub use Rattle.qss_states.specs.KeptWeights.{AreWeights, StayKept}
pub use Rattle.qss_states.specs.LineReplacements.{IsCounted, IsCountedFrom, goes_from, has_level_and_slope, replaced_lines_from}
pub use Rattle.qss_states.specs.RowLimits.{IsLeastPast, IsWeighed, comes_before}
pub use Rattle.qss_states.specs.RowSums.{CanAddUp, HasSums, IsSumAfterLevelChange}
pub use Rattle.qss_states.specs.SafeBounds.{AreUpToAt, IsSafeBound, IsUpTo}
pub use Rattle.qss_states.specs.SlopeUpdates.{AreScheduled, HaveSlopesUpdated, IsOneScheduled, MaySchedule, MayUpdateSlope}
pub use Rattle.qss_states.specs.StateLines.{IsRestartedFrom, MayMove, line_at}
pub use Rattle.qss_states.specs.SumMarks.{AreMarkedOr, AreReaderSums, AreReadersMarkedOr, IsSlopeAt}
pub use Rattle.qss_states.specs.Variables.{AreDiscretes, AreLevelsOf}
