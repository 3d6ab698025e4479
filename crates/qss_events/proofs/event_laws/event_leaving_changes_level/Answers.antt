-- A new level is nearer than a quantum.
use Rattle.qss_events.proofs.Changes.{leaving_changes_level}
use Rattle.qss_events.proofs.event_laws.event_leaving_changes_level.Goals as goal

pub returns : goal.returns
returns c = leaving_changes_level
