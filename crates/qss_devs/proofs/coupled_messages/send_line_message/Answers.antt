-- An integrator and the crossings that read its state receive the message.
use Rattle.qss_devs.proofs.Common
use Common.{◌∙◌, ◌≡◌, All, ap, arith, condition_numbers, conditions_kept, conditions_many, get_or}
use Common.{IntegratorModel, IsGivenLine, IsLineNext, IsTimely, length, List, refl, set, subst, sym}
use Common.{with_items_is}
use Rattle.qss_devs.proofs.MessageDelivery.{crossings_allowed}
use Rattle.qss_devs.proofs.OneTransition.{integrators_timely, integrators_own, crossings_are_ready}
use Rattle.qss_devs.proofs.MessagesReceived.{line_received}
use Rattle.qss_devs.proofs.coupled_messages.send_line_message.Goals as goal

pub send_to_integrator_model-requires : goal.send_to_integrator_model-requires
send_to_integrator_model-requires g c = record {
  known = omega (arith, c.requires.known, ap length c.deref_mut.ensures.value, c.requires.ready.parts.integrators);
  machine = subst (All (λ (i : IntegratorModel _ _). i.machine.value ≡ c.args.m.now)) (sym c.deref_mut.ensures.value) (integrators_own c.args.m.now c.args.parts.now c.requires.ready.parts);
  timely =
      subst (All (λ (i : IntegratorModel _ _). IsTimely i.line.tick (IsLineNext i.machine.value i.var i.line) c.args.tick)) (sym c.deref_mut.ensures.value)
      (integrators_timely c.args.m.now c.args.tick c.args.parts.now c.requires.ready);
  message = c.requires.message;
}

pub conditions_of-places-requires : goal.conditions_of-places-requires
conditions_of-places-requires g c = omega (arith, c.requires.known, conditions_many c.args.m.now c.args.parts.now.uses c.requires.ready.parts.uses)

pub send_message_to_models-requires : goal.send_message_to_models-requires
send_message_to_models-requires g c =
    let m = c.args.m.now in
    let ready = c.requires.ready in
    let parts = c.args.parts.now in
    let reads = c.conditions_of-places.ensures ∙ conditions_kept m parts.uses ready.parts.uses c.args.var (omega (arith, c.requires.known)) in
    record {
      places = rw (reads, c.deref_mut-2.ensures.value) (condition_numbers m c.args.var _ ready.parts.crossings);
      allowed =
          rw c.deref_mut-2.ensures.value
          (crossings_allowed m c.args.tick c.args.msg ready.in_time c.requires.message parts.crossings.items ready.parts.own_crossings
          (crossings_are_ready m c.args.tick parts ready));
    }

pub returns : goal.returns
returns g c =
    let m = c.args.m.now in
    let ready = c.requires.ready in
    let old = c.args.parts.now in
    let var = c.args.var in
    let received = c.send_to_integrator_model.ensures in
    let sent = c.send_message_to_models in
    let value = c.deref_mut.ensures.value in
    let integrators = with_items_is old.integrators c.send_to_integrator_model.new.integrators (c.send_to_integrator_model.auto.integrators ∙ c.deref_mut.ensures.len) in
    let crossings = with_items_is old.crossings sent.new.models (sent.auto.models ∙ c.deref_mut-2.ensures.len) in
    let reads = c.conditions_of-places.ensures ∙ conditions_kept m old.uses ready.parts.uses var (omega (arith, c.requires.known)) in
    line_received m c.args.tick var c.args.msg old _ ready c.requires.message
    c.conditions_of-places.result.now received.0 c.requires.own c.requires.known reads
    (integrators ∙ received.1 ∙ ap (λ (xs : List (IntegratorModel _ _)). set xs var received.0) value)
    (subst (λ (xs : List (IntegratorModel _ _)). IsGivenLine (get_or xs var received.0) c.args.tick c.args.msg received.0) value received.2)
    refl refl (rw crossings (rw c.deref_mut-2.ensures.value at sent.ensures))
