use Rattle.qss_sched.proofs.Common.{None}
use Rattle.qss_sched.proofs.Agendas.{set_joined}
use Rattle.qss_sched.proofs.agenda.set_far_in_agenda.Goals as goal

pub returns-clause-given : goal.returns-clause-given
returns-clause-given c =
    rw (c.clear.ensures, c.set.ensures) (set_joined c.args.near.now c.args.far.now c.requires.apart.as_many c.args.place None c.args.due c.requires.place)
