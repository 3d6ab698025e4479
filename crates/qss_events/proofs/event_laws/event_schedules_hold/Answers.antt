-- Each part leads on along its line.
use Rattle.qss_events.proofs.Silence.{stands_still}
use Rattle.qss_events.proofs.event_laws.event_schedules_hold.Goals as goal

pub returns : goal.returns
returns c = stands_still
