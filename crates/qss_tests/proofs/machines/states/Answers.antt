use Rattle.qss_tests.proofs.machines.states.Goals as goal

pub returns : goal.returns
returns c = rw c.in_ok-name.ensures at c.one.ensures
