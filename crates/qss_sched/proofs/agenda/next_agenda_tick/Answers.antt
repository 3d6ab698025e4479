use Rattle.qss_sched.proofs.Agendas.{next_joined}
use Rattle.qss_sched.proofs.agenda.next_agenda_tick.Goals as goal

pub returns : goal.returns
returns c = next_joined c.args.near.now c.args.far.now c.args.last _ _ c.requires c.next_tick.ensures c.next_tick-2.ensures
