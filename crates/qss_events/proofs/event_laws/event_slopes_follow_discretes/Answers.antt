-- The drive changes, and the products stay.
use Rattle.qss_events.proofs.DiscreteChanges.{slopes_follow_discretes}
use Rattle.qss_events.proofs.event_laws.event_slopes_follow_discretes.Goals as goal

pub returns : goal.returns
returns c = slopes_follow_discretes
