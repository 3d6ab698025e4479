-- What the event queue's due ticks say of lines and detectors.
use Rattle.qss_events.proofs.Silence.{silence}
use Rattle.qss_events.proofs.event_laws.no_event_before_due.Goals as goal

pub returns : goal.returns
returns c = silence
