use Rattle.qss_order2.proofs.Settlings.{nearest_is_free as law}
use Rattle.qss_order2.proofs.order2_laws.order2_nearest_is_free.Goals as goal

pub returns : goal.returns
returns c = law
