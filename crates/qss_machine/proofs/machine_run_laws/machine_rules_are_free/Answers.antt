use Rattle.qss_machine.proofs.Rules.{rules_are_free as law}
use Rattle.qss_machine.proofs.machine_run_laws.machine_rules_are_free.Goals as goal

pub returns : goal.returns
returns c = law
