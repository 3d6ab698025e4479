-- The names of this crate that clauses of many subjects cite, passed on from one place. Declares nothing.
pub use Rattle.qss_run.specs.ConditionContexts.{AreConditionValues, CanSetDetectors, CanSettle, CanUpdateDetectors, CanUpdateReaderDetectors}
pub use Rattle.qss_run.specs.ConditionPlaces.{AreConditionsOf, AreDetectorsAt, HasPlaces, KnowsApart, ListsFlipped, has_risen}
pub use Rattle.qss_run.specs.DetectorUpdates.{AreAlikeButSettled, AreMarkedChanged, AreSettled, AreSettledAlong, OthersAreKept, OthersAreUnread, detector_states_of, readers_before, readers_of, touched_after, touched_by, touched_of}
pub use Rattle.qss_run.specs.DueLists.{AreAlikeBut, AreChanging, AreDue, AreMovedOut, HasRoomFor, IsSameBut, IsTakenAfter, differ}
pub use Rattle.qss_run.specs.EventSteps.{CanContinueAfterHandlers, HadDetectors, HasDetectorsUpdated, IsEventRun, snapshot_after, snapshot_left}
pub use Rattle.qss_run.specs.HandlerResults.{is_reinitialized}
pub use Rattle.qss_run.specs.SimViews.{view_of}
pub use Rattle.qss_run.specs.SpeedUpdates.{AreDetectorsUpdated, AreReaderDetectorsUpdated, GoesOn}
pub use Rattle.qss_run.specs.Stores.{FitsMachine, HasDueRemoved, IsStoreAt, IsUnderWay, snapshot_of}
pub use Rattle.qss_run.specs.TouchCounts.{MovesTouched, touches_at}
