use Rattle.qss_sched.proofs.Common.{ap, arith, length}
use Rattle.qss_sched.proofs.Agendas.{length_joined}
use Rattle.qss_sched.proofs.agenda.Agenda.set.Goals as goal

pub set_in_agenda-requires-clause-place : goal.set_in_agenda-requires-clause-place
set_in_agenda-requires-clause-place c = omega (arith, length_joined c.self.inside.near c.self.inside.far c.self.invariant.as_many, ap length c.self.view_is)
