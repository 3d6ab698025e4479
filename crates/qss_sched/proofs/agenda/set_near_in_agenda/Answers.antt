-- Where a place has a near due tick nothing changes far.
use Rattle.qss_sched.proofs.Common.{◌∙◌, None, Some, sym}
use Rattle.qss_sched.proofs.Agendas.{set_joined, near_given, no_far}
use Rattle.qss_sched.proofs.agenda.set_near_in_agenda.Goals as goal

pub returns-then-is_some-clause-given : goal.returns-then-is_some-clause-given
returns-then-is_some-clause-given c =
    let none = no_far c.args.near.now c.args.far.now c.args.place c.tick.result c.requires.apart c.tick.ensures (sym c.is_some.ensures ∙ c.if-is_some.true) in
    near_given c.args.near.now c.args.far.now c.accept.new.self c.args.place c.args.tick c.accept.result c.requires.apart c.requires.place none c.accept.ensures

pub returns-then-enter-clause-given : goal.returns-then-enter-clause-given
returns-then-enter-clause-given c =
    rw (c.if-enter.ensures, c.set.ensures)
    (set_joined c.args.near.now c.args.far.now c.requires.apart.as_many c.args.place (Some c.args.tick) None c.requires.place)
