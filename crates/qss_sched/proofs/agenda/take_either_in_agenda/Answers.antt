-- The lesser of the first near and the first far place is taken.
use Rattle.qss_sched.proofs.Common.{◌∙◌, ◌≡◌, ap, unwrap_or}
use Rattle.qss_sched.proofs.Agendas.{near_at, far_at, near_taken, far_taken, neither_taken}
use Rattle.qss_sched.proofs.agenda.take_either_in_agenda.Goals as goal

pub first_at-later-requires : goal.first_at-later-requires
first_at-later-requires c = λ place due e. c.requires.none_before place due (far_at _ _ c.requires.apart place due e)

pub take-requires : goal.take-requires
take-requires c = λ place due e. c.requires.none_before place due (near_at _ _ c.requires.apart place due e)

pub returns-in-Some-clause-taken : goal.returns-in-Some-clause-taken
returns-in-Some-clause-taken c =
    near_taken c.args.near.now c.args.far.now c.take.new.self c.args.tick c.args.places c.in-Some.place c.first_at-later.result c.requires.apart c.requires.none_before
    c.first_at-later.ensures (rw c.unwrap_or.ensures at c.in-Some.ensures)

pub returns-in-Some-later-clause-taken : goal.returns-in-Some-later-clause-taken
returns-in-Some-later-clause-taken c =
    let bound : c.unwrap_or.result ≡ c.in-Some-later.place = c.unwrap_or.ensures ∙ ap (λ later. unwrap_or later c.args.places) c.in-Some-later.is in
    far_taken c.args.near.now c.args.far.now c.take.new.self c.set.new.self c.args.tick c.args.places c.in-Some-later.place c.requires.apart c.requires.none_before
    c.in-Some-later.ensures (rw bound at c.in_default.ensures) c.set.ensures

pub returns-in_default-later-clause-taken : goal.returns-in_default-later-clause-taken
returns-in_default-later-clause-taken c =
    let bound : c.unwrap_or.result ≡ c.args.places = c.unwrap_or.ensures ∙ ap (λ later. unwrap_or later c.args.places) c.in_default-later.is in
    rw c.in_default-later.is
    (neither_taken c.args.near.now c.args.far.now c.take.new.self c.args.tick c.args.places c.requires.apart c.in_default-later.ensures (rw bound at c.in_default.ensures))
