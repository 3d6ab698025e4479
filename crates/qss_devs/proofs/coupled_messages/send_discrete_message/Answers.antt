-- The functions and the crossings that read a discrete value receive the message.
use Rattle.qss_devs.proofs.Common
use Common.{[], ℕ, ◌+◌, ◌∙◌, ap, arith, condition_numbers, conditions_kept, conditions_many}
use Common.{crossing_after_message, crossing_of, CrossingModel, discrete_count, get_or, length}
use Common.{no_crossing, reading_numbers, refl, rows_kept, rows_many, with_items, with_items_is}
use Rattle.qss_devs.proofs.MessageDelivery.{crossings_allowed, crossings_stay_ready}
use Rattle.qss_devs.proofs.MessageDelivery.{functions_allowed, machines_stay}
use Rattle.qss_devs.proofs.OneTransition.{crossings_are_ready}
use Rattle.qss_devs.proofs.MessagesReceived.{discrete_received}
use Rattle.qss_devs.proofs.coupled_messages.send_discrete_message.Goals as goal

pub overflow_cast-before : goal.overflow_cast-before
overflow_cast-before g c = omega (arith, ap length c.as_slice.ensures, c.args.m.now.has_variables.few)

pub rows_of-rows-requires : goal.rows_of-rows-requires
rows_of-rows-requires g c = omega (arith, c.requires.known, rows_many c.args.m.now c.args.parts.now.uses c.requires.ready.parts.uses)

pub send_message_to_models-requires : goal.send_message_to_models-requires
send_message_to_models-requires g c =
    let m = c.args.m.now in
    let ready = c.requires.ready in
    let reads = c.rows_of-rows.ensures ∙ rows_kept m c.args.parts.now.uses ready.parts.uses c.args.var c.requires.known in
    record {
      places = rw (reads, c.deref_mut.ensures.value) (reading_numbers m c.args.var _ ready.parts.functions);
      allowed = rw c.deref_mut.ensures.value (functions_allowed m c.args.tick c.args.msg c.args.parts.now ready c.requires.message);
    }

pub conditions_of-places-requires : goal.conditions_of-places-requires
conditions_of-places-requires g c = omega (arith, c.requires.known, conditions_many c.args.m.now c.args.parts.now.uses c.requires.ready.parts.uses)

pub send_message_to_models-requires-2 : goal.send_message_to_models-requires-2
send_message_to_models-requires-2 g c =
    let m = c.args.m.now in
    let ready = c.requires.ready in
    let parts = c.args.parts.now in
    let reads = c.conditions_of-places.ensures ∙ conditions_kept m parts.uses ready.parts.uses c.args.var (omega (arith, c.requires.known)) in
    record {
      places = rw (reads, c.deref_mut-2.ensures.value) (condition_numbers m c.args.var _ ready.parts.crossings);
      allowed =
          rw c.deref_mut-2.ensures.value
          (crossings_allowed m c.args.tick c.args.msg ready.in_time c.requires.message parts.crossings.items ready.parts.own_crossings
          (crossings_are_ready m c.args.tick parts ready));
    }

pub overflow_add-var : goal.overflow_add-var
overflow_add-var g c = omega (arith, c.requires.known, ap length c.as_slice.ensures, c.args.m.now.has_variables.few)

pub conditions_of-others-requires : goal.conditions_of-others-requires
conditions_of-others-requires g c = omega (arith, c.requires.known, ap length c.as_slice.ensures, conditions_many c.args.m.now c.args.parts.now.uses c.requires.ready.parts.uses)

pub send_message_to_models-requires-3 : goal.send_message_to_models-requires-3
send_message_to_models-requires-3 g c =
    let m = c.args.m.now in
    let ready = c.requires.ready in
    let parts = c.args.parts.now in
    let var = c.args.var in
    let sent = c.send_message_to_models-2 in
    let between = c.deref_mut-3.ensures.value ∙ with_items_is parts.crossings sent.new.models (sent.auto.models ∙ c.deref_mut-2.ensures.len) in
    let reads =
    c.conditions_of-others.ensures
    ∙ ap (λ (n : ℕ). get_or parts.uses.1 (var + n) []) (ap length c.as_slice.ensures)
    ∙ conditions_kept m parts.uses ready.parts.uses (var + discrete_count m) (omega (arith, c.requires.known)) in
    let one = rw c.deref_mut-2.ensures.value at sent.ensures in
    record {
      places = rw (reads, between) (condition_numbers m (var + discrete_count m) _ (one.as_many ∙ ready.parts.crossings));
      allowed =
          rw between
          (crossings_allowed m c.args.tick c.args.msg ready.in_time c.requires.message sent.new.models
          (machines_stay crossing_of (λ (k : CrossingModel). k.machine.value) no_crossing
          (λ n k. crossing_after_message n k c.args.tick c.args.msg) m one ready.parts.own_crossings)
          (crossings_stay_ready m c.args.tick c.args.msg ready.in_time c.requires.message parts.crossings.items ready.parts.own_crossings
          (crossings_are_ready m c.args.tick parts ready) one));
    }

pub returns : goal.returns
returns g c =
    let m = c.args.m.now in
    let ready = c.requires.ready in
    let old = c.args.parts.now in
    let var = c.args.var in
    let uses = old.uses in
    let first = c.send_message_to_models in
    let second = c.send_message_to_models-2 in
    let third = c.send_message_to_models-3 in
    let mid = second.new.models in
    let functions = with_items_is old.functions first.new.models (first.auto.models ∙ c.deref_mut.ensures.len) in
    let between = c.deref_mut-3.ensures.value ∙ with_items_is old.crossings mid (second.auto.models ∙ c.deref_mut-2.ensures.len) in
    let last = with_items_is (with_items old.crossings mid) third.new.models (third.auto.models ∙ c.deref_mut-3.ensures.len) in
    let rows = c.rows_of-rows.ensures ∙ rows_kept m uses ready.parts.uses var c.requires.known in
    let places = c.conditions_of-places.ensures ∙ conditions_kept m uses ready.parts.uses var (omega (arith, c.requires.known)) in
    let others =
    c.conditions_of-others.ensures
    ∙ ap (λ (n : ℕ). get_or uses.1 (var + n) []) (ap length c.as_slice.ensures)
    ∙ conditions_kept m uses ready.parts.uses (var + discrete_count m) (omega (arith, c.requires.known)) in
    discrete_received m c.args.tick var c.args.msg old _ ready c.requires.message
    c.rows_of-rows.result.now c.conditions_of-places.result.now c.conditions_of-others.result.now mid
    c.requires.own rows places others refl refl
    (rw functions (rw c.deref_mut.ensures.value at first.ensures))
    (rw c.deref_mut-2.ensures.value at second.ensures) (rw last (rw between at third.ensures))
