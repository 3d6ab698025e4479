-- The levels stay, and the rest is given.
use Rattle.qss_events.proofs.Forced.{quiet_tick_is_forced}
use Rattle.qss_events.proofs.event_laws.event_free_tick_is_unique.Goals as goal

pub returns : goal.returns
returns c = quiet_tick_is_forced
