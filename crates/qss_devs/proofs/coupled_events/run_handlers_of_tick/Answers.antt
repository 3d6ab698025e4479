-- The handlers of the next tick.
use Rattle.qss_devs.proofs.Common
use Common.{◌+◌, ◌∙◌, ◌≡◌, ◌≤◌, All, ap, arith, arrived_values, Bool, Components, Err}
use Common.{first_exceeding, flag_at, function_state_at, HandlerState, IntegratorModel, length}
use Common.{line_at, List, moved_states, overflow_of, refl, rules, Snapshot, snapshot_of, Store}
use Common.{subst, sym, with_items_is}
use Rattle.qss_hand.specs.Values.{Values as Kept}
use Rattle.qss_devs.proofs.Arrivals.{arrival_over, arrived_agree, arrived_each, over_arrived}
use Rattle.qss_devs.proofs.Arrivals.{arrived_truths, arrived_ready, begun_is, begun_fits}
use Rattle.qss_devs.proofs.Arrivals.{handled_is, crossing_timely, crossing_held}
use Rattle.qss_devs.proofs.Overs.{no_overflow}
use Rattle.qss_devs.proofs.SnapshotRows.{lines_early}
use Rattle.qss_devs.proofs.coupled_events.run_handlers_of_tick.Goals as goal

pub overflow_add-next : goal.overflow_add-next
overflow_add-next g c = omega (arith, c.requires.tick_limit, c.args.m.now.has_units.last_tick)

pub compute_arrival_states-requires : goal.compute_arrival_states-requires
compute_arrival_states-requires g c =
    let m = c.args.m.now in
    let stands = c.requires.represents_snapshot in
    let value = c.deref.ensures.value in
    record {
      count_limit = omega (arith, ap length value, stands.fits.parts.integrators, m.has_variables.few);
      same_length =
          ap (λ (v : Kept). length v.x) c.begin.ensures
          ∙ stands.fits.values.states
          ∙ sym (ap length value ∙ stands.fits.parts.integrators);
      not_later =
          subst (All (λ (i : IntegratorModel _ _). i.line.tick ≤ c.args.tick + 1)) (sym value)
          (λ j d h. omega (arith, lines_early m c.args.q.now.name c.args.tick c.args.s.now stands j d h));
      tick_limit = omega (arith, c.requires.tick_limit, m.has_units.last_tick);
    }

pub returns-in_err-compute_arrival_states : goal.returns-in_err-compute_arrival_states
returns-in_err-compute_arrival_states g c =
    let m = c.args.m.now in
    let w : Snapshot = snapshot_of c.args.tick c.args.s.now in
    let found : overflow_of c.compute_arrival_states.result ≡ first_exceeding 88 (moved_states m w) =
    over_arrived c.requires.represents_snapshot c.requires.tick_limit _ _ c.deref.ensures.value
    c.compute_arrival_states.ensures.overflow in
    let over = c.in_err-compute_arrival_states.field-0.0 in
    let given : c.from_residual.result ≡ Err over = search rules in
    record {
      overflow =
          rw given
          (arrival_over m (c.args.tick + 1) w over.var
          (rw c.in_err-compute_arrival_states.was at found));
      handled = no_overflow c.from_residual.result over given;
      room = refl;
    }

pub copy_from_slice-requires : goal.copy_from_slice-requires
copy_from_slice-requires g c =
    let s : Store _ _ = c.args.s.now in
    let flags = c.requires.represents_snapshot.fits.flags in
    omega (arith, s.truths.current.ok.0, flags.current, ap length c.deref-2.ensures.value, flags.after_handlers)

pub read_crossings_on_arrival-requires : goal.read_crossings_on_arrival-requires
read_crossings_on_arrival-requires g c =
    let stands = c.requires.represents_snapshot in
    let before = c.requires.tick_limit in
    let current_is = c.deref_mut.ensures.value ∙ c.copy_from_slice.ensures.items ∙ c.deref-2.ensures.value in
    record {
      parts = stands.fits.parts;
      flags = ap length current_is ∙ stands.fits.flags.after_handlers;
      tick_limit = omega (arith, before, c.args.m.now.has_units.last_tick);
      timely = crossing_timely stands before;
      own = λ place h. (stands.stand.agree.crossings place h).own;
      held = λ place h.
          ap (λ (flags : List Bool). flag_at flags place) current_is ∙ crossing_held stands before place h;
    }

pub fire_clauses_on_arrival-requires : goal.fire_clauses_on_arrival-requires
fire_clauses_on_arrival-requires g c =
    let stands = c.requires.represents_snapshot in
    let before = c.requires.tick_limit in
    let flags = stands.fits.flags in
    let value = c.deref.ensures.value in
    let arrived = c.compute_arrival_states.ensures in
    let within =
    sym (over_arrived stands before _ _ value arrived.overflow)
    ∙ ap overflow_of c.in_ok-compute_arrival_states.was in
    let work_is = begun_is stands before _ _ _ value c.begin.ensures arrived.work in
    let many =
    c.read_crossings_on_arrival.auto.now
    ∙ ap length (c.deref_mut.ensures.value ∙ c.copy_from_slice.ensures.items ∙ c.deref-2.ensures.value)
    ∙ flags.after_handlers in
    let current_is =
    with_items_is c.copy_from_slice.new.self c.read_crossings_on_arrival.new.now
    (c.read_crossings_on_arrival.auto.now ∙ c.deref_mut.ensures.len) in
    record {
      flags = record {
        current = ap length current_is ∙ many;
        at_arrival = flags.at_arrival;
        after_handlers = flags.after_handlers;
      };
      fits = begun_fits stands before _ work_is within;
      fresh = ap (λ (u : Kept). u.log) work_is;
      room = omega (arith, stands.fits.work_room, ap (λ (u : Kept). u.room) work_is);
    }

pub returns : goal.returns
returns g c =
    let m = c.args.m.now in
    let stands = c.requires.represents_snapshot in
    let before = c.requires.tick_limit in
    let w : Snapshot = snapshot_of c.args.tick c.args.s.now in
    let value = c.deref.ensures.value in
    let arrived = c.compute_arrival_states.ensures in
    let within =
    sym (over_arrived stands before _ _ value arrived.overflow)
    ∙ ap overflow_of c.in_ok-compute_arrival_states.was in
    let work_is = begun_is stands before _ _ _ value c.begin.ensures arrived.work in
    let many =
    c.read_crossings_on_arrival.auto.now
    ∙ ap length (c.deref_mut.ensures.value ∙ c.copy_from_slice.ensures.items ∙ c.deref-2.ensures.value)
    ∙ stands.fits.flags.after_handlers in
    let read = c.read_crossings_on_arrival in
    let current_is =
    with_items_is c.copy_from_slice.new.self read.new.now (read.auto.now ∙ c.deref_mut.ensures.len) in
    let now_is = current_is ∙ arrived_truths stands before read.new.now many read.ensures.now in
    let handled = handled_is stands before _ _ work_is within now_is in
    let fired = c.fire_clauses_on_arrival.ensures in
    let parts : Components _ _ = read.new.parts in
    let kept = read.ensures.unchanged in
    let agree = read.ensures.agree (arrived_values m w) (arrived_agree stands before) in
    let overflow = fired.overflow ∙ ap (λ (h : HandlerState). h.overflow) handled in
    record {
      overflow = overflow;
      handled = λ none. record {
        fits = record {
          parts = read.ensures.parts;
          ruled = rw kept stands.fits.ruled;
          values = fired.fits;
          work_room = omega (arith, stands.fits.work_room, ap (λ (u : Kept). u.room) fired.values, ap (λ (u : Kept). u.room) work_is);
          flags = record {
            current = ap length current_is ∙ many;
            at_arrival = stands.fits.flags.at_arrival;
            after_handlers = stands.fits.flags.after_handlers;
          };
          row_room = stands.fits.row_room;
        };
        left = stands.left;
        each = arrived_each stands before;
        ready = arrived_ready stands before within parts read.ensures.parts (λ j h. ap (λ (p : Components _ _). line_at p j) kept)
            (λ j h. ap (λ (p : Components _ _). function_state_at p j) kept) agree read.ensures.later;
        agree = agree;
        none_over = sym overflow ∙ none;
        states = ap (λ (u : Kept). u.x) fired.values ∙ ap (λ (h : HandlerState). h.states) handled;
        discretes = ap (λ (u : Kept). u.d) fired.values ∙ ap (λ (h : HandlerState). h.discretes) handled;
        log = ap (λ (u : Kept). u.log) fired.values ∙ ap (λ (h : HandlerState). h.rows) handled;
        messages = fired.messages;
        count = fired.count;
        current = now_is;
      };
      room = refl;
    }
