-- The event queue has the due tick of the line.
use Rattle.qss_run.proofs.Common.{◌∙◌, ◌≡◌, ap, due_at, get_or-set_same, IsDue, None, subst, sym}
use Rattle.qss_run.proofs.run_start.start_line.Goals as goal

pub returns-clause-due : goal.returns-clause-due
returns-clause-due c =
    let held : due_at c.set.new.self c.args.j ≡ c.event_tick_leaving_level.result = ap (λ due. due_at due c.args.j) c.set.ensures ∙ get_or-set_same c.args.agenda.now c.args.j c.event_tick_leaving_level.result None c.requires.place in
    subst (IsDue c.args.m.now 0 c.args.j c.args.here) (sym held)
    (subst (λ tick. IsDue c.args.m.now tick c.args.j c.args.here c.event_tick_leaving_level.result) c.requires.tick c.event_tick_leaving_level.ensures)
