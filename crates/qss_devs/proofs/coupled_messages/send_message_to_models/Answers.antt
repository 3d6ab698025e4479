-- One more model receives the message.
use Rattle.qss_devs.proofs.Common
use Common.{◌<◌, ◌≡◌, arith, false, get_or, is_listed, length, not_before, refl, take, take_all}
use Rattle.qss_devs.proofs.MessageDelivery.{given_more}
use Rattle.qss_devs.proofs.coupled_messages.send_message_to_models.Goals as goal

pub loop-place-init : goal.loop-place-init
loop-place-init g c = record { as_many = refl; each = λ j d h e. absurd (cc); others = λ j d e. refl }

pub bounds-models-place : goal.bounds-models-place
bounds-models-place g c = omega (arith, c.requires.places.below c.loop-place.place-index 0 c.loop-place-test.true, c.loop-place.auto.models)

pub external-requires : goal.external-requires
external-requires g c =
    let places = c.args.places.now in
    let i = c.loop-place.place-index in
    let at = get_or places i 0 in
    let s = c.index-models-place.result in
    let inside : at < length c.args.models.now = c.requires.places.below i 0 c.loop-place-test.true in
    let before : is_listed (take i places) at ≡ false =
    not_before places i c.requires.places.rising c.loop-place-test.true in
    let can = rw (← c.loop-place.invariant.others at s before) at (c.requires.allowed at s inside) in
    record { timely = can.0; message = can.1; size_limit = can.2 }

pub loop-place-preserved : goal.loop-place-preserved
loop-place-preserved g c =
    given_more (λ a b. g.A.Atomic.given a c.args.tick c.args.msg b) c.args.places.now c.loop-place.place-index
    c.args.models.now c.loop-place.models c.index-models-place.result c.external.new.self
    c.loop-place-test.true c.requires.places c.external.ensures c.loop-place.invariant

pub returns : goal.returns
returns g c = rw (take_all c.loop-place.place-index c.args.places.now c.loop-place-test.false) at c.loop-place.invariant
