use Rattle.qss_order2.proofs.EventFree.{event_free_ticks_are_forced as law}
use Rattle.qss_order2.proofs.order2_laws.order2_event_free_ticks_forced.Goals as goal

pub returns : goal.returns
returns c = law
