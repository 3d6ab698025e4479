-- Event steps without rows are silent; the first with rows is the next event.
use Rattle.qss_devs.proofs.Common
use Common.{[], ◌++◌, ◌+◌, ◌∙◌, ◌≡◌, ap, AreEventFree, arith, IsAllowedLevel, None, overflow_of}
use Common.{refl, snapshot_of, snapshot_rows, snapshot_unless, StoreRepresents, subst, sym}
use Common.{tick_rows}
use Rattle.qss_machine.specs.Runs.{last_snapshot}
use Rattle.qss_events.specs.EventFreeRuns.{IsVisit}
use Rattle.qss_events.proofs.Goings.{visit_on, rows_on, silent_visit}
use Rattle.qss_events.proofs.SomeRows.{some_rows, no_rows}
use Rattle.qss_devs.proofs.coupled_events.go_to_next_rows.Goals.{After-run_next_tick}
use Rattle.qss_machine.specs.declared.machine_parts.RowKind.TheVariants as kind
use Rattle.qss_devs.proofs.coupled_events.go_to_next_rows.Given as given
use Rattle.qss_devs.proofs.coupled_events.go_to_next_rows.Goals as goal

pub loop-tick-init : goal.loop-tick-init
loop-tick-init g c = record {
  stands = c.requires.represents_snapshot;
  later = omega arith;
  in_time = c.requires.tick_limit;
  are_silent = ([], record { leads = tt; as_many = omega arith; reached = refl });
}

-- the visit of the next tick with its rows, after the silent ticks before it
visited : (g : given.Over) (c : After-run_next_tick g) →
    let t = c.skip_event_free_ticks-before.result + 1 in
    IsVisit (IsAllowedLevel c.args.q.now.name) c.args.m.now c.args.from (snapshot_of c.args.from c.args.s.now)
    (c.loop-tick.invariant.are_silent.0 ++ c.skip_event_free_ticks-before.ensures.silent.0) t
    (snapshot_unless (overflow_of c.run_next_tick.result) (snapshot_of t c.run_next_tick.new.s))
visited g c =
    let before = c.loop-tick.invariant.are_silent in
    let quiet = c.skip_event_free_ticks-before.ensures.silent in
    visit_on _ _ _ _ before.0 c.loop-tick.tick (snapshot_of c.loop-tick.tick c.loop-tick.s) before.1 quiet.0 _ _ (record {
      leads = quiet.1.leads;
      is_next = ap (λ n. n + 1) quiet.1.as_many;
      is_step = rw quiet.1.reached c.run_next_tick.ensures.stepped;
    })

visited_rows : (g : given.Over) (c : After-run_next_tick g) → overflow_of c.run_next_tick.result ≡ None →
    let t = c.skip_event_free_ticks-before.result + 1 in
    c.run_next_tick.new.s.rows.items ≡ tick_rows c.args.m.now t (last_snapshot (snapshot_of c.args.from c.args.s.now)
    (c.loop-tick.invariant.are_silent.0 ++ c.skip_event_free_ticks-before.ensures.silent.0)) (snapshot_of t c.run_next_tick.new.s)
visited_rows g c none =
    let m = c.args.m.now in
    let before = c.loop-tick.invariant.are_silent in
    let quiet = c.skip_event_free_ticks-before.ensures.silent in
    let t = c.skip_event_free_ticks-before.result + 1 in
    let next = snapshot_of t c.run_next_tick.new.s in
    c.run_next_tick.ensures.rows none
    ∙ ap (λ w. tick_rows m t w next) (sym quiet.1.reached)
    ∙ rows_on (IsAllowedLevel c.args.q.now.name) m c.args.from (snapshot_of c.args.from c.args.s.now)
    before.0 c.loop-tick.tick (snapshot_of c.loop-tick.tick c.loop-tick.s) before.1 quiet.0 t next

pub overflow_add-tick : goal.overflow_add-tick
overflow_add-tick g c = omega (arith, c.skip_event_free_ticks-before.ensures.before, c.args.m.now.has_units.last_tick)

pub run_next_tick-requires : goal.run_next_tick-requires
run_next_tick-requires g c = record {
  named = c.requires.named;
  represents_snapshot = c.skip_event_free_ticks-before.ensures.represents_snapshot;
  tick_limit = c.skip_event_free_ticks-before.ensures.before;
}

pub returns-in-Err-clause-next : goal.returns-in-Err-clause-next
returns-in-Err-clause-next g c =
    let visit = visited g (goal.at.returns-in-Err-clause-next g c).After-run_next_tick in (
      c.loop-tick.invariant.are_silent.0 ++ c.skip_event_free_ticks-before.ensures.silent.0,
      record {
        leads = visit.leads;
        is_next = visit.is_next;
        in_time = omega (arith, c.skip_event_free_ticks-before.ensures.before);
        is_step = rw c.in-Err.is at visit.is_step;
        own_rows = c.set_event_overflow_row.ensures.rows;
        here = refl;
      },
      refl,
    )

pub returns-then-not-is_empty-clause-next : goal.returns-then-not-is_empty-clause-next
returns-then-not-is_empty-clause-next g c =
    let at = (goal.at.returns-then-not-is_empty-clause-next g c).After-run_next_tick in
    let visit = visited g at in (
      c.loop-tick.invariant.are_silent.0 ++ c.skip_event_free_ticks-before.ensures.silent.0,
      record {
        leads = visit.leads;
        is_next = visit.is_next;
        in_time = omega (arith, c.skip_event_free_ticks-before.ensures.before);
        is_step = rw c.in_default.is at visit.is_step;
        own_rows = visited_rows g at (ap overflow_of c.in_default.is);
        some_rows = some_rows c.run_next_tick.new.s.rows (sym c.is_empty.ensures ∙ c.if-not-is_empty.true);
        here = refl;
      },
      refl,
    )

pub loop-tick-preserved : goal.loop-tick-preserved
loop-tick-preserved g c =
    let at = (goal.at.loop-tick-preserved g c).After-run_next_tick in
    let calm = ap overflow_of c.in_default.is in
    let skipped = c.skip_event_free_ticks-before.ensures in
    let none = sym (visited_rows g at calm) ∙ no_rows c.run_next_tick.new.s.rows (sym c.is_empty.ensures ∙ c.if-not-is_empty.false) in
    record {
      stands = c.run_next_tick.ensures.represents_snapshot calm;
      later = omega (arith, c.loop-tick.invariant.later, skipped.later);
      in_time = omega (arith, skipped.before);
      are_silent = (_, silent_visit _ _ _ _ _ _ _ (rw c.in_default.is at (visited g at)) none);
    }

pub set_rows_at_end-requires : goal.set_rows_at_end-requires
set_rows_at_end-requires g c =
    let at_last : c.loop-tick.tick ≡ c.args.m.now.last = omega (arith, c.loop-tick-test.false, c.loop-tick.invariant.in_time) in
    subst (λ t. StoreRepresents c.args.m.now c.args.q.now.name t c.loop-tick.s) at_last c.loop-tick.invariant.stands

pub returns-clause-next : goal.returns-clause-next
returns-clause-next g c =
    let Rule = IsAllowedLevel c.args.q.now.name in
    let m = c.args.m.now in
    let before = c.loop-tick.invariant.are_silent in
    let w0 = snapshot_of c.args.from c.args.s.now in
    let at_last : c.loop-tick.tick ≡ m.last = omega (arith, c.loop-tick-test.false, c.loop-tick.invariant.in_time) in
    let there : AreEventFree Rule m c.args.from w0 before.0 m.last (snapshot_of m.last c.loop-tick.s) =
    subst (λ t. AreEventFree Rule m c.args.from w0 before.0 t (snapshot_of t c.loop-tick.s)) at_last before.1 in (
      before.0,
      record {
        leads = there.leads;
        at_last = sym there.as_many;
        snapshot = c.set_rows_at_end.ensures.snapshot ∙ sym there.reached;
        own_rows = c.set_rows_at_end.ensures.rows ∙ ap (snapshot_rows kind.End m.last) (sym c.set_rows_at_end.ensures.snapshot);
        here = refl;
      },
      refl,
    )
