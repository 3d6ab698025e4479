-- One term of a sum changes.
use Rattle.qss_events.proofs.Changes.{slopes_follow_levels}
use Rattle.qss_events.proofs.event_laws.event_slopes_follow_levels.Goals as goal

pub returns : goal.returns
returns c = slopes_follow_levels
