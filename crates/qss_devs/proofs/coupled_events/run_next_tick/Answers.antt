-- The handlers of a tick, and what follows from them.
use Rattle.qss_devs.proofs.Common.{◌+◌, ◌∙◌, ◌≡◌, arith, Err, refl, rules, snapshot_of}
use Rattle.qss_devs.proofs.Arrivals.{over_step}
use Rattle.qss_devs.proofs.Overs.{no_overflow}
use Rattle.qss_devs.proofs.coupled_events.run_next_tick.Goals as goal

pub run_handlers_of_tick-requires : goal.run_handlers_of_tick-requires
run_handlers_of_tick-requires g c = record {
  represents_snapshot = c.requires.represents_snapshot;
  tick_limit = c.requires.tick_limit;
}

pub returns-in_err-run_handlers_of_tick : goal.returns-in_err-run_handlers_of_tick
returns-in_err-run_handlers_of_tick g c =
    let handled = c.run_handlers_of_tick.ensures in
    let over = c.in_err-run_handlers_of_tick.field-0.0 in
    let given : c.from_residual.result ≡ Err over = search rules in
    record {
      stepped =
          rw given
          (over_step c.args.m.now c.args.q.now.name (c.args.tick + 1)
          (snapshot_of c.args.tick c.args.s.now) over.var
          (rw c.in_err-run_handlers_of_tick.was at handled.overflow));
      rows = no_overflow c.from_residual.result over given;
      represents_snapshot = no_overflow c.from_residual.result over given;
      room = handled.room;
    }

pub overflow_add-tick : goal.overflow_add-tick
overflow_add-tick g c = omega (arith, c.requires.tick_limit, c.args.m.now.has_units.last_tick)

pub update_components-requires : goal.update_components-requires
update_components-requires g c = record {
  named = c.requires.named;
  handled = (
    snapshot_of c.args.tick c.args.s.now,
    c.run_handlers_of_tick.ensures.handled (rw c.in_ok-run_handlers_of_tick.was refl),
  );
}

pub returns : goal.returns
returns g c =
    let handled = c.run_handlers_of_tick.ensures.handled (rw c.in_ok-run_handlers_of_tick.was refl) in
    let w = snapshot_of c.args.tick c.args.s.now in
    let updated = c.update_components.ensures in
    record {
      stepped = updated.stepped w handled;
      rows = updated.rows w handled;
      represents_snapshot = updated.represents_snapshot;
      room = updated.room ∙ c.run_handlers_of_tick.ensures.room;
    }
