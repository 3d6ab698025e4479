-- The functions that read a level receive the message.
use Rattle.qss_devs.proofs.Common
use Common.{◌∙◌, arith, reading_numbers, refl, rows_kept, rows_many, with_items_is}
use Rattle.qss_devs.proofs.MessageDelivery.{functions_allowed}
use Rattle.qss_devs.proofs.MessagesReceived.{level_received}
use Rattle.qss_devs.proofs.coupled_messages.send_level_message.Goals as goal

pub rows_of-places-requires : goal.rows_of-places-requires
rows_of-places-requires g c = omega (arith, c.requires.known, rows_many c.args.m.now c.args.parts.now.uses c.requires.ready.parts.uses)

pub send_message_to_models-requires : goal.send_message_to_models-requires
send_message_to_models-requires g c =
    let m = c.args.m.now in
    let ready = c.requires.ready in
    let uses = c.args.parts.now.uses in
    let reads = c.rows_of-places.ensures ∙ rows_kept m uses ready.parts.uses c.args.var (omega (arith, c.requires.known)) in
    record {
      places = rw (reads, c.deref_mut.ensures.value) (reading_numbers m c.args.var _ ready.parts.functions);
      allowed = rw c.deref_mut.ensures.value (functions_allowed m c.args.tick c.args.msg c.args.parts.now ready c.requires.message);
    }

pub returns : goal.returns
returns g c =
    let m = c.args.m.now in
    let ready = c.requires.ready in
    let old = c.args.parts.now in
    let sent = c.send_message_to_models in
    let functions = with_items_is old.functions sent.new.models (sent.auto.models ∙ c.deref_mut.ensures.len) in
    let reads = c.rows_of-places.ensures ∙ rows_kept m old.uses ready.parts.uses c.args.var (omega (arith, c.requires.known)) in
    level_received m c.args.tick c.args.var c.args.msg old _ ready c.requires.message
    c.rows_of-places.result.now c.requires.own reads refl refl refl
    (rw functions (rw c.deref_mut.ensures.value at sent.ensures))
