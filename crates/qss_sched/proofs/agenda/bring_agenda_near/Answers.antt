-- What is brought near is due at the same tick as before.
use Rattle.qss_sched.proofs.Common.{◌∙◌, ap, due_at, sym}
use Rattle.qss_sched.proofs.Agendas.{near_at, far_at, given_again}
use Rattle.qss_sched.proofs.agenda.bring_agenda_near.Goals as goal

pub go_to-requires : goal.go_to-requires
go_to-requires c = λ place due e. c.requires.none_before place due (near_at _ _ c.requires.apart place due e)

pub first_at-requires : goal.first_at-requires
first_at-requires c = λ place due e.
    let inv = c.loop.invariant in
    c.requires.none_before place due (ap (λ l. due_at l place) (sym inv.same) ∙ far_at _ _ inv.apart place due e)

pub loop-preserved : goal.loop-preserved
loop-preserved c =
    let inv = c.loop.invariant in
    record {
      apart = c.if-not-set_near_in_agenda.ensures.apart;
      same = c.if-not-set_near_in_agenda.ensures.given ∙ (given_again c.loop.near c.loop.far c.in-Some.place c.args.tick inv.apart c.in-Some.ensures.1.has ∙ inv.same);
    }
