use Rattle.qss_instance.proofs.Instance.{decay_is_bounded as law}
use Rattle.qss_instance.proofs.instance_laws.decay_is_bounded.Goals as goal

pub returns : goal.returns
returns c = law
