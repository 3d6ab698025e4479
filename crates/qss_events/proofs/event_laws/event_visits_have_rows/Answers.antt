-- By what a run is.
use Rattle.qss_events.proofs.Skipped.{rows_of_visits}
use Rattle.qss_events.proofs.event_laws.event_visits_have_rows.Goals as goal

pub returns : goal.returns
returns c = rows_of_visits
