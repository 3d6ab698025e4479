-- Nothing is due, near or far.
use Rattle.qss_sched.proofs.Common.{◌∙◌, sym}
use Rattle.qss_sched.proofs.Agendas.{length_joined, start_first}
use Rattle.qss_sched.proofs.agenda.Agenda.with_places.Goals as goal

pub invariant_of-result : goal.invariant_of-result
invariant_of-result c = record { as_many = c.in_ok-near.ensures.places ∙ sym c.in_ok-far.ensures.places; apart = λ place tick e. c.in_ok-far.ensures.none place }

pub returns-clause-places : goal.returns-clause-places
returns-clause-places c =
    length_joined c.in_ok-near.near c.in_ok-far.far (c.in_ok-near.ensures.places ∙ sym c.in_ok-far.ensures.places) ∙ c.in_ok-near.ensures.places

pub returns-clause-none : goal.returns-clause-none
returns-clause-none c =
    start_first c.in_ok-near.near c.in_ok-far.far (c.in_ok-near.ensures.places ∙ sym c.in_ok-far.ensures.places) c.in_ok-near.ensures.none c.in_ok-far.ensures.none
