-- A tick, after its handlers.
use Rattle.qss_devs.proofs.Common
use Common.{◌∙◌, ◌≡◌, ap, AreRuled, AreTaken, arith, compares, CrossingModel, Err, FitsMachine}
use Common.{IsAfterHandlers, length, length-map, map, None, overflow_of, refl, rules, Snapshot}
use Common.{Some, Store, sym}
use Rattle.qss_devs.proofs.Overs.{no_overflow}
use Rattle.qss_devs.proofs.TickEnds.{handled, handled_fits, handled_agree, levels_step}
use Rattle.qss_devs.proofs.TickEnds.{taken_values, taken_fits, slopes_step, ends_tick}
use Rattle.qss_devs.proofs.coupled_events.update_components.Goals as goal

pub send_assigned_messages-requires : goal.send_assigned_messages-requires
send_assigned_messages-requires g c =
    let h = c.requires.handled.1 in
    record { ready = h.ready; messages = h.messages }

pub list_handler_rows-requires : goal.list_handler_rows-requires
list_handler_rows-requires g c =
    let h = c.requires.handled.1 in
    omega (arith, h.count, h.fits.row_room)

pub send_integrator_level_messages-requires : goal.send_integrator_level_messages-requires
send_integrator_level_messages-requires g c =
    let h = c.requires.handled.1 in
    let sent = c.send_assigned_messages.ensures in
    record {
      ruled = (c.requires.named.0, rw c.requires.named.1 at (sent.ruled c.args.q.now.name h.fits.ruled));
      ready = sent.ready;
      room = omega (
        arith,
        c.list_handler_rows.new.rows.ok.0,
        ap length c.list_handler_rows.ensures.rows,
        c.list_handler_rows.ensures.room,
        h.count,
        h.fits.row_room,
      );
    }

pub returns-in_err-send_integrator_level_messages : goal.returns-in_err-send_integrator_level_messages
returns-in_err-send_integrator_level_messages g c =
    let name = c.args.q.now.name in
    let named = c.requires.named in
    let sent = c.send_assigned_messages in
    let leveled = c.send_integrator_level_messages in
    let over = c.in_err-send_integrator_level_messages.field-0.0 in
    let given : c.from_residual.result ≡ Err over = search rules in
    record {
      stepped = λ w h.
          let ruled : AreRuled (Some named.0) sent.new.parts = rw named.1 at (sent.ensures.ruled name h.fits.ruled) in
          let received = handled_agree h sent.new.parts sent.ensures.agree in
          let taken : AreTaken c.args.m.now name c.args.tick (handled h) leveled.new.parts c.list_handler_rows.new.rows.items leveled.new.rows.items (overflow_of leveled.result) =
          rw (← named.1) at (leveled.ensures.taken named.0 (handled h) ruled (handled_fits h) received) in
          rw given (levels_step h taken over.var (ap overflow_of c.in_err-send_integrator_level_messages.was));
      rows = λ w h. no_overflow c.from_residual.result over given;
      represents_snapshot = no_overflow c.from_residual.result over given;
      room = leveled.ensures.room ∙ c.list_handler_rows.ensures.room;
    }

pub send_slope_messages-requires : goal.send_slope_messages-requires
send_slope_messages-requires g c = record { ready = c.send_integrator_level_messages.ensures.ready }

pub returns-in_err-send_slope_messages : goal.returns-in_err-send_slope_messages
returns-in_err-send_slope_messages g c =
    let name = c.args.q.now.name in
    let named = c.requires.named in
    let sent = c.send_assigned_messages in
    let leveled = c.send_integrator_level_messages in
    let none : overflow_of leveled.result ≡ None = ap overflow_of c.in_ok-send_integrator_level_messages.was in
    let over = c.in_err-send_slope_messages.field-0.0 in
    let given : c.from_residual-in_err-send_slope_messages.result ≡ Err over = search rules in
    record {
      stepped = λ w h.
          let ruled : AreRuled (Some named.0) sent.new.parts = rw named.1 at (sent.ensures.ruled name h.fits.ruled) in
          let received = handled_agree h sent.new.parts sent.ensures.agree in
          let taken : AreTaken c.args.m.now name c.args.tick (handled h) leveled.new.parts c.list_handler_rows.new.rows.items leveled.new.rows.items (overflow_of leveled.result) =
          rw (← named.1) at (leveled.ensures.taken named.0 (handled h) ruled (handled_fits h) received) in
          let slopes = c.send_slope_messages.ensures.sent (taken_values h taken none) (taken_fits h taken none) (taken.agree none) in
          rw given (slopes_step h taken none slopes over.var (ap overflow_of c.in_err-send_slope_messages.was));
      rows = λ w h. no_overflow c.from_residual-in_err-send_slope_messages.result over given;
      represents_snapshot = no_overflow c.from_residual-in_err-send_slope_messages.result over given;
      room = leveled.ensures.room ∙ c.list_handler_rows.ensures.room;
    }

pub settle_arrival_truths-requires : goal.settle_arrival_truths-requires
settle_arrival_truths-requires g c =
    let flags = c.requires.handled.1.fits.flags in
    let many = sym (ap length c.deref.ensures.value ∙ c.send_slope_messages.ensures.ready.parts.crossings) in
    record {
      current = flags.current ∙ many;
      at_arrival = flags.at_arrival ∙ many;
      after_handlers = flags.after_handlers ∙ many;
    }

pub returns : goal.returns
returns g c =
    let name = c.args.q.now.name in
    let named = c.requires.named in
    let sent = c.send_assigned_messages in
    let leveled = c.send_integrator_level_messages in
    let sloped = c.send_slope_messages in
    let none : overflow_of leveled.result ≡ None = ap overflow_of c.in_ok-send_integrator_level_messages.was in
    let light : overflow_of sloped.result ≡ None = ap overflow_of c.in_ok-send_slope_messages.was in
    let ready = sloped.ensures.ready in
    let truths = c.settle_arrival_truths in
    let settled =
    truths.ensures.after_handlers
    ∙ ap (map (λ (k : CrossingModel). compares k.detector.rel k.detector.value)) c.deref.ensures.value in
    let fits = c.requires.handled.1.fits in
    let next : Store _ _ = record c.args.s.now {
      parts = sloped.new.parts;
      truths = truths.new.truths;
      rows = leveled.new.rows;
    } in
    let next_fits : FitsMachine c.args.m.now name next = record {
      parts = ready.parts;
      ruled = sloped.ensures.ruled name (leveled.ensures.ruled name (sent.ensures.ruled name fits.ruled));
      values = fits.values;
      work_room = fits.work_room;
      flags = record {
        current = ap length truths.ensures.current ∙ fits.flags.current;
        at_arrival = ap length truths.ensures.at_arrival ∙ fits.flags.current;
        after_handlers =
            ap length settled
            ∙ length-map sloped.new.parts.crossings.items (λ (k : CrossingModel). compares k.detector.rel k.detector.value)
            ∙ ready.parts.crossings;
      };
      row_room = omega (arith, fits.row_room, leveled.ensures.room, c.list_handler_rows.ensures.room);
    } in
    let ends = λ (w : Snapshot) (h : IsAfterHandlers c.args.m.now name c.args.tick w c.args.s.now).
    let ruled : AreRuled (Some named.0) sent.new.parts = rw named.1 at (sent.ensures.ruled name h.fits.ruled) in
    let received = handled_agree h sent.new.parts sent.ensures.agree in
    let taken : AreTaken c.args.m.now name c.args.tick (handled h) leveled.new.parts c.list_handler_rows.new.rows.items leveled.new.rows.items (overflow_of leveled.result) =
    rw (← named.1) at (leveled.ensures.taken named.0 (handled h) ruled (handled_fits h) received) in
    ends_tick c.args.m.now name c.args.tick w c.args.s.now next h leveled.new.parts sloped.new.parts
    c.list_handler_rows.new.rows.items leveled.new.rows.items (overflow_of leveled.result)
    (overflow_of sloped.result) taken none sloped.ensures.sent light ready
    (λ v values a near. sloped.ensures.later v values a near (leveled.ensures.later none) light)
    refl refl truths.ensures.at_arrival settled c.list_handler_rows.ensures.rows next_fits in
    record {
      stepped = λ w h. (ends w h).step;
      rows = λ w h calm. (ends w h).rows_are;
      represents_snapshot = λ calm. (ends c.requires.handled.0 c.requires.handled.1).represents;
      room = leveled.ensures.room ∙ c.list_handler_rows.ensures.room;
    }
