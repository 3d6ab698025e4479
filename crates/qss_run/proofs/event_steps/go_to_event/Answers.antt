-- The event-free ticks, and then the event step.
use Rattle.qss_run.proofs.Common
use Common.{◌+◌, ◌∙◌, ◌≤◌, ap, IsAllowedLevel, IsStep, overflow_of, snapshot_of, snapshot_unless}
use Common.{subst, sym, tick_rows, touches_at}
use Rattle.qss_run.proofs.event_steps.go_to_event.Goals as goal

pub returns-clause-visited : goal.returns-clause-visited
returns-clause-visited g c =
    let quiet = c.skip_to_event-before.ensures.silent c.args.q.now.name in
    let are = quiet.1 in
    let t = c.skip_to_event-before.result + 1 in
    let over = overflow_of c.run_event.result in (
      quiet.0,
      record {
        leads = are.leads;
        is_next = ap (λ n. n + 1) are.as_many;
        is_step = subst (λ w. IsStep (IsAllowedLevel c.args.q.now.name) c.args.m.now t w (snapshot_unless over (snapshot_of t c.run_event.new.s))) (sym are.reached) c.run_event.ensures.visited.stepped;
      },
      (λ none. c.run_event.ensures.visited.rows none ∙ ap (λ w. tick_rows c.args.m.now t w (snapshot_of t c.run_event.new.s)) (sym are.reached)),
      subst (λ w. c.run_event.new.steps ≤ c.args.steps.now + touches_at c.args.m.now t w (snapshot_unless over (snapshot_of t c.run_event.new.s))) (sym are.reached) c.run_event.ensures.visited.counted,
    )
