-- What is due is the same after some of it was brought near.
use Rattle.qss_sched.proofs.Common.{◌∙◌, ap, due_at, refl, sym}
use Rattle.qss_sched.proofs.Agendas.{near_at, far_at}
use Rattle.qss_sched.proofs.Takes.{apart_still, near_all_taken}
use Rattle.qss_sched.proofs.agenda.take_far_in_agenda.Goals as goal

pub may_be_due_at-requires : goal.may_be_due_at-requires
may_be_due_at-requires c = λ place due e.
    let b = c.bring_agenda_near.ensures in
    c.requires.none_before place due (ap (λ l. due_at l place) (sym b.same) ∙ far_at _ _ b.apart place due e)

pub take_all-requires-clause-none_before : goal.take_all-requires-clause-none_before
take_all-requires-clause-none_before c = λ place due e.
    let b = c.bring_agenda_near.ensures in
    c.requires.none_before place due (ap (λ l. due_at l place) (sym b.same) ∙ near_at _ _ b.apart place due e)

pub take_all-requires-clause-none_first : goal.take_all-requires-clause-none_first
take_all-requires-clause-none_first c = λ place h e.
    let b = c.bring_agenda_near.ensures in
    c.requires.none_first place h (ap (λ l. due_at l place) (sym b.same) ∙ near_at _ _ b.apart place c.args.tick e)

pub returns-else-may_be_due_at-clause-apart : goal.returns-else-may_be_due_at-clause-apart
returns-else-may_be_due_at-clause-apart c =
    apart_still c.bring_agenda_near.new.near c.bring_agenda_near.new.far c.take_all.new.self c.args.first c.args.count c.args.tick _ c.bring_agenda_near.ensures.apart c.take_all.ensures.taken

pub returns-else-may_be_due_at-clause-taken : goal.returns-else-may_be_due_at-clause-taken
returns-else-may_be_due_at-clause-taken c =
    rw (← c.bring_agenda_near.ensures.same)
    (near_all_taken c.bring_agenda_near.new.near c.bring_agenda_near.new.far c.take_all.new.self c.args.first c.args.count c.args.tick _ c.bring_agenda_near.ensures.apart
    (c.if-may_be_due_at.ensures refl) c.take_all.ensures.taken)
