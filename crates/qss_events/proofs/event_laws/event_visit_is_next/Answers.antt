-- Up to the next event step no event occurs.
use Rattle.qss_events.proofs.NextVisit.{goes_to_next_visit}
use Rattle.qss_events.proofs.event_laws.event_visit_is_next.Goals as goal

pub returns : goal.returns
returns c = goes_to_next_visit
