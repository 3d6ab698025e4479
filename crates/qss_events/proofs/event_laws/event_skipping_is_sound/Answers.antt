-- By induction on the event-free ticks.
use Rattle.qss_events.proofs.Skipped.{skip}
use Rattle.qss_events.proofs.event_laws.event_skipping_is_sound.Goals as goal

pub returns : goal.returns
returns c = skip
