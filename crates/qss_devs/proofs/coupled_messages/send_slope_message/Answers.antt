-- A function that is due sends its sum.
use Rattle.qss_devs.proofs.Common
use Common.{ℕ, ◌<◌, ◌∙◌, ◌≡◌, AreComponents, Components, FunctionModel, get_or, Machine, refl}
use Common.{state_count, sym}
use Rattle.std.specs.Vec.{with_item}
use Rattle.qss_devs.proofs.OneTransition.{HasNewFunction}
use Rattle.qss_devs.proofs.FunctionTransition.{same_summings, same_ready, same_later, rests_sent}
use Rattle.qss_devs.proofs.FunctionTransition.{exceeds_sent, slope_ready, slope_message}
use Rattle.qss_devs.proofs.FunctionTransition.{slope_others, slope_sent, slope_later}
use Rattle.qss_devs.proofs.coupled_messages.send_slope_message.Goals as goal

-- the function that was borrowed is replaced
replaced : {X : Type 0} {g : _} {m : Machine} {j : ℕ} {old : Components X g} →
    AreComponents m old → j < state_count m → (s t : FunctionModel) →
    s ≡ get_or old.functions.items j s →
    HasNewFunction m j old (record old { functions = with_item old.functions j t }) s t
replaced are known s t is = record {
  are = are;
  known = known;
  is = is;
  set_is = refl;
  lines = refl;
  crossings = refl;
  uses = refl;
}

pub make_transition-requires : goal.make_transition-requires
make_transition-requires g c = λ a b first second. first ∙ sym second

pub send_message-requires : goal.send_message-requires
send_message-requires g c =
    let msg = c.in-Sends.msg in
    let tick = c.args.tick in
    let ready = c.requires.ready in
    let e = replaced c.requires.ready.parts c.requires.known c.index_mut.result.now c.make_transition.new.model c.index_mut.ensures.value in
    let turn = c.in-Sends.ensures.sends msg refl in
    record {
      ready = slope_ready tick e ready msg turn.1 turn.2 turn.3.0 turn.3.1;
      message = slope_message tick e ready msg turn.1 turn.2 turn.3.0 turn.3.1;
    }

pub returns-in-Rests : goal.returns-in-Rests
returns-in-Rests g c =
    let tick = c.args.tick in
    let ready = c.requires.ready in
    let e = replaced c.requires.ready.parts c.requires.known c.index_mut.result.now c.make_transition.new.model c.index_mut.ensures.value in
    let turn = c.in-Rests.ensures.rests refl in
    record {
      ruled = λ name ruled. ruled;
      ready = same_ready tick e ready turn.0;
      sent = λ v values a. rests_sent tick e ready turn.0 turn.1 v values a;
      others = λ i h ne. same_summings tick e ready turn.0 i;
      later = λ v values a near later none. same_later tick e ready turn.0 later;
    }

pub returns-in-ExceedsLimit : goal.returns-in-ExceedsLimit
returns-in-ExceedsLimit g c =
    let tick = c.args.tick in
    let ready = c.requires.ready in
    let e = replaced c.requires.ready.parts c.requires.known c.index_mut.result.now c.make_transition.new.model c.index_mut.ensures.value in
    let turn = c.in-ExceedsLimit.ensures.passes refl in
    record {
      ruled = λ name ruled. ruled;
      ready = same_ready tick e ready turn.0;
      sent = λ v values a.
          exceeds_sent tick e ready turn.0 turn.2.0 turn.2.1 turn.2.2 v values a;
      others = λ i h ne. same_summings tick e ready turn.0 i;
      later = λ v values a near later none. absurd (cc);
    }

pub returns-in-Sends : goal.returns-in-Sends
returns-in-Sends g c =
    let msg = c.in-Sends.msg in
    let tick = c.args.tick in
    let ready = c.requires.ready in
    let e = replaced c.requires.ready.parts c.requires.known c.index_mut.result.now c.make_transition.new.model c.index_mut.ensures.value in
    let turn = c.in-Sends.ensures.sends msg refl in
    let sent = c.send_message.ensures in
    record {
      ruled = sent.ruled;
      ready = sent.ready;
      sent = λ v values a. slope_sent tick e ready msg turn.1 turn.2 turn.3.0 turn.3.1 _ sent v values a;
      others = slope_others tick e ready msg turn.1 turn.2 turn.3.0 turn.3.1 _ sent;
      later = λ v values a near later none.
          slope_later tick e ready msg turn.1 turn.2 turn.3.0 turn.3.1 _ sent v values a near later;
    }
