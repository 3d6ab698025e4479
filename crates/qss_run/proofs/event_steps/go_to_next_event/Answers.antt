-- Ticks without rows are event-free; the first tick with rows is the next event.
use Rattle.qss_run.proofs.Common
use Common.{[], ◌++◌, ◌+◌, ◌∙◌, ◌∷◌, ◌≡◌, ◌≤◌, ap, AreEventFree, arith, IsAllowedLevel, IsStep}
use Common.{IsStoreAt, IsVisit, last_snapshot, overflow_of, refl, snapshot_of, snapshot_unless}
use Common.{subst, sym, touches_at}
use Rattle.qss_events.proofs.Goings.{visit_on, rows_on, silent_visit}
use Rattle.qss_events.proofs.SomeRows.{some_rows, no_rows}
use Rattle.qss_run.proofs.Spans.{touches_on, touches_end}
use Rattle.qss_run.proofs.event_steps.go_to_next_event.Goals as goal

pub loop-tick-init : goal.loop-tick-init
loop-tick-init g c = record {
  stands = c.requires.stands;
  later = omega arith;
  in_time = c.requires.tick_limit;
  are_silent = ([], record { leads = tt; as_many = omega arith; reached = refl }, omega arith);
}

pub returns-in-Err-clause-next : goal.returns-in-Err-clause-next
returns-in-Err-clause-next g c =
    let Rule = IsAllowedLevel c.args.q.now.name in
    let m = c.args.m.now in
    let before = c.loop-tick.invariant.are_silent in
    let visited = c.go_to_event-step.ensures.visited in
    let t = c.go_to_event-step.result.tick in
    let all = visit_on Rule m c.args.from (snapshot_of c.args.from c.args.s.now) before.0 c.loop-tick.tick (snapshot_of c.loop-tick.tick c.loop-tick.s) before.1 visited.0 t
    (snapshot_unless (overflow_of c.go_to_event-step.result.ran) (snapshot_of t c.go_to_event-step.new.s)) visited.1 in (
      before.0 ++ visited.0,
      record {
        leads = all.leads;
        is_next = all.is_next;
        in_time = c.go_to_event-step.ensures.tick_limit;
        is_step = subst (λ o. IsStep Rule m t (last_snapshot (snapshot_of c.args.from c.args.s.now) (before.0 ++ visited.0)) (snapshot_unless o (snapshot_of t c.go_to_event-step.new.s))) (ap overflow_of c.in-Err.is) all.is_step;
        own_rows = c.set_event_overflow_row.ensures.rows;
        here = refl;
      },
      refl,
    )

pub returns-then-not-is_empty-clause-next : goal.returns-then-not-is_empty-clause-next
returns-then-not-is_empty-clause-next g c =
    let Rule = IsAllowedLevel c.args.q.now.name in
    let m = c.args.m.now in
    let before = c.loop-tick.invariant.are_silent in
    let visited = c.go_to_event-step.ensures.visited in
    let t = c.go_to_event-step.result.tick in
    let w0 = snapshot_of c.args.from c.args.s.now in
    let w = snapshot_of c.loop-tick.tick c.loop-tick.s in
    let next = snapshot_of t c.go_to_event-step.new.s in
    let all = visit_on Rule m c.args.from w0 before.0 c.loop-tick.tick w before.1 visited.0 t (snapshot_unless (overflow_of c.go_to_event-step.result.ran) next) visited.1 in (
      before.0 ++ visited.0,
      record {
        leads = all.leads;
        is_next = all.is_next;
        in_time = c.go_to_event-step.ensures.tick_limit;
        is_step = subst (λ o. IsStep Rule m t (last_snapshot w0 (before.0 ++ visited.0)) (snapshot_unless o next)) (ap overflow_of c.in_default.is) all.is_step;
        own_rows = visited.2 (ap overflow_of c.in_default.is) ∙ rows_on Rule m c.args.from w0 before.0 c.loop-tick.tick w before.1 visited.0 t next;
        some_rows = some_rows c.go_to_event-step.new.s.rows (sym c.is_empty.ensures ∙ c.if-not-is_empty.true);
        here = refl;
      },
      refl,
    )

pub loop-tick-preserved : goal.loop-tick-preserved
loop-tick-preserved g c =
    let Rule = IsAllowedLevel c.args.q.now.name in
    let m = c.args.m.now in
    let before = c.loop-tick.invariant.are_silent in
    let visited = c.go_to_event-step.ensures.visited in
    let t = c.go_to_event-step.result.tick in
    let w0 = snapshot_of c.args.from c.args.s.now in
    let w = snapshot_of c.loop-tick.tick c.loop-tick.s in
    let next = snapshot_of t c.go_to_event-step.new.s in
    let all = visit_on Rule m c.args.from w0 before.0 c.loop-tick.tick w before.1 visited.0 t (snapshot_unless (overflow_of c.go_to_event-step.result.ran) next) visited.1 in
    let stepped = subst (λ o. IsVisit Rule m c.args.from w0 (before.0 ++ visited.0) t (snapshot_unless o next)) (ap overflow_of c.in_default.is) all in
    let none = sym (visited.2 (ap overflow_of c.in_default.is) ∙ rows_on Rule m c.args.from w0 before.0 c.loop-tick.tick w before.1 visited.0 t next)
    ∙ no_rows c.go_to_event-step.new.s.rows (sym c.is_empty.ensures ∙ c.if-not-is_empty.false) in
    let here = subst (λ o. c.go_to_event-step.new.steps ≤ c.loop-tick.steps + touches_at m t (last_snapshot w visited.0) (snapshot_unless o next)) (ap overflow_of c.in_default.is) visited.3 in
    let few = touches_on Rule m c.args.from w0 before.0 c.loop-tick.tick w before.1 visited.0 t c.args.steps.now c.loop-tick.steps c.go_to_event-step.new.steps before.2 next stepped here in
    record {
      stands = c.go_to_event-step.ensures.stands (ap overflow_of c.in_default.is);
      later = omega (arith, c.loop-tick.invariant.later, c.go_to_event-step.ensures.later);
      in_time = c.go_to_event-step.ensures.tick_limit;
      are_silent = ((before.0 ++ visited.0) ++ next ∷ [], silent_visit Rule m c.args.from w0 (before.0 ++ visited.0) t next stepped none, omega (arith, few));
    }

pub set_last_rows-requires : goal.set_last_rows-requires
set_last_rows-requires g c =
    let at_last : c.loop-tick.tick ≡ c.args.m.now.last = omega (arith, c.loop-tick-test.false, c.loop-tick.invariant.in_time) in
    subst (λ t. IsStoreAt c.args.m.now t c.loop-tick.s) at_last c.loop-tick.invariant.stands

pub returns-in-Err-clause-counted : goal.returns-in-Err-clause-counted
returns-in-Err-clause-counted g c =
    let Rule = IsAllowedLevel c.args.q.now.name in
    let m = c.args.m.now in
    let before = c.loop-tick.invariant.are_silent in
    let visited = c.go_to_event-step.ensures.visited in
    let t = c.go_to_event-step.result.tick in
    let w0 = snapshot_of c.args.from c.args.s.now in
    let w = snapshot_of c.loop-tick.tick c.loop-tick.s in
    let next = snapshot_of t c.go_to_event-step.new.s in
    let all = visit_on Rule m c.args.from w0 before.0 c.loop-tick.tick w before.1 visited.0 t (snapshot_unless (overflow_of c.go_to_event-step.result.ran) next) visited.1 in
    let here = subst (λ o. c.go_to_event-step.new.steps ≤ c.loop-tick.steps + touches_at m t (last_snapshot w visited.0) (snapshot_unless o next)) (ap overflow_of c.in-Err.is) visited.3 in (
      before.0 ++ visited.0,
      subst (λ o. IsVisit Rule m c.args.from w0 (before.0 ++ visited.0) t (snapshot_unless o next)) (ap overflow_of c.in-Err.is) all,
      touches_end Rule m c.args.from w0 before.0 c.loop-tick.tick w before.1 visited.0 t c.args.steps.now c.loop-tick.steps c.go_to_event-step.new.steps before.2 c.in-Err.over.var here,
    )

pub returns-then-not-is_empty-clause-counted : goal.returns-then-not-is_empty-clause-counted
returns-then-not-is_empty-clause-counted g c =
    let Rule = IsAllowedLevel c.args.q.now.name in
    let m = c.args.m.now in
    let before = c.loop-tick.invariant.are_silent in
    let visited = c.go_to_event-step.ensures.visited in
    let t = c.go_to_event-step.result.tick in
    let w0 = snapshot_of c.args.from c.args.s.now in
    let w = snapshot_of c.loop-tick.tick c.loop-tick.s in
    let next = snapshot_of t c.go_to_event-step.new.s in
    let all = visit_on Rule m c.args.from w0 before.0 c.loop-tick.tick w before.1 visited.0 t (snapshot_unless (overflow_of c.go_to_event-step.result.ran) next) visited.1 in
    let stepped = subst (λ o. IsVisit Rule m c.args.from w0 (before.0 ++ visited.0) t (snapshot_unless o next)) (ap overflow_of c.in_default.is) all in
    let here = subst (λ o. c.go_to_event-step.new.steps ≤ c.loop-tick.steps + touches_at m t (last_snapshot w visited.0) (snapshot_unless o next)) (ap overflow_of c.in_default.is) visited.3 in (
      before.0 ++ visited.0,
      stepped,
      touches_on Rule m c.args.from w0 before.0 c.loop-tick.tick w before.1 visited.0 t c.args.steps.now c.loop-tick.steps c.go_to_event-step.new.steps before.2 next stepped here,
    )

pub returns-clause-counted : goal.returns-clause-counted
returns-clause-counted g c =
    let Rule = IsAllowedLevel c.args.q.now.name in
    let m = c.args.m.now in
    let w0 = snapshot_of c.args.from c.args.s.now in
    let before = c.loop-tick.invariant.are_silent in
    let end : c.loop-tick.tick ≡ m.last = omega (arith, c.loop-tick.invariant.in_time, c.loop-tick-test.false) in
    let there : AreEventFree Rule m c.args.from w0 before.0 m.last (snapshot_of m.last c.loop-tick.s) = subst (λ t. AreEventFree Rule m c.args.from w0 before.0 t (snapshot_of t c.loop-tick.s)) end before.1 in
    (before.0, subst (AreEventFree Rule m c.args.from w0 before.0 m.last) (sym c.set_last_rows.ensures.snapshot) there, omega (arith, before.2))
