-- Up to the next event step no event occurs.
use Rattle.qss_events.proofs.NextVisit.{only_due_states_pass}
use Rattle.qss_events.proofs.event_laws.event_passes_due_states.Goals as goal

pub returns : goal.returns
returns c = only_due_states_pass
