use Rattle.qss_sched.proofs.Common.{◌∙◌, ◌≡◌, ap, arith, length, sym}
use Rattle.qss_sched.proofs.Agendas.{length_joined}
use Rattle.qss_sched.proofs.agenda.set_in_agenda.Goals.{in-Some+else-set_near_in_agenda, in_default}
use Rattle.qss_sched.proofs.agenda.set_in_agenda.Goals as goal

pub set_far_in_agenda-requires-clause-place : goal.set_far_in_agenda-requires-clause-place
set_far_in_agenda-requires-clause-place c =
    elim c.match-due.branch [
      | in-Some+else-set_near_in_agenda w ↦
          let many : length w.set_near_in_agenda.new.near ≡ length c.args.near.now =
          sym (length_joined w.set_near_in_agenda.new.near w.set_near_in_agenda.new.far w.set_near_in_agenda.ensures.apart.as_many)
          ∙ (ap length w.if-set_near_in_agenda.ensures.given ∙ length_joined c.args.near.now c.args.far.now c.requires.apart.as_many) in
          omega (arith, many, ap length w.near-is, c.requires.place)
      | in_default w ↦ omega (arith, ap length w.near-is, c.requires.place)
    ]
