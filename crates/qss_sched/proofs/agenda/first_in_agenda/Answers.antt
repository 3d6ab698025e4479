use Rattle.qss_sched.proofs.Common.{refl}
use Rattle.qss_sched.proofs.Agendas.{near_first, far_first, only_far}
use Rattle.qss_sched.proofs.agenda.first_in_agenda.Goals as goal

pub returns-then-is_before_in_agenda : goal.returns-then-is_before_in_agenda
returns-then-is_before_in_agenda c =
    let before = c.if-is_before_in_agenda.ensures in
    near_first c.args.near.now c.args.far.now c.in-Some.tick c.in-Some.place c.next-later.result c.requires c.in-Some.ensures c.next-later.ensures (before.0 refl)

pub returns-else-is_before_in_agenda : goal.returns-else-is_before_in_agenda
returns-else-is_before_in_agenda c =
    let before = c.if-is_before_in_agenda.ensures in
    far_first c.args.near.now c.args.far.now c.in-Some.tick c.in-Some.place c.next-later.result c.requires c.in-Some.ensures c.next-later.ensures
    (λ b. let e = before.1 b in cc)

pub returns-in-None : goal.returns-in-None
returns-in-None c = only_far c.args.near.now c.args.far.now c.next-later.result c.requires c.in-None.ensures c.next-later.ensures
