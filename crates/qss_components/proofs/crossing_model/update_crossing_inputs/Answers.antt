-- One more input receives the message.
use Rattle.qss_components.proofs.Common
use Common.{◌<◌, arith, Input, input_after_message, IsInput, length, pos, subst, sym}
use Rattle.qss_components.proofs.Filled.{up_to_none, up_to_more, up_to_all}
use Rattle.qss_components.proofs.crossing_model.update_crossing_inputs.Goals as goal

abbrev none : Input
none = record { var = 0; coef = pos 0; tick = 0; at = pos 0; speed = pos 0 }

pub loop-k-init : goal.loop-k-init
loop-k-init c = up_to_none (input_after_message c.args.m.now c.args.tick c.args.msg) c.args.inputs.now

pub crossing_input_after_message-requires-clause-line : goal.crossing_input_after_message-requires-clause-line
crossing_input_after_message-requires-clause-line c =
    let k = c.loop-k.k in
    let inside : k < length c.args.inputs.now = omega (arith, c.loop-k-test.true) in
    subst (IsInput c.args.tick) (sym (c.loop-k.invariant.rest k none (omega arith))) (c.requires.lines k none inside)

pub loop-k-preserved : goal.loop-k-preserved
loop-k-preserved c =
    let k = c.loop-k.k in
    up_to_more (input_after_message c.args.m.now c.args.tick c.args.msg) k c.args.inputs.now c.loop-k.inputs c.crossing_input_after_message.result none
    (omega (arith, c.loop-k-test.true, c.loop-k.invariant.as_many)) c.crossing_input_after_message.ensures c.loop-k.invariant

pub returns : goal.returns
returns c = up_to_all (input_after_message c.args.m.now c.args.tick c.args.msg) c.loop-k.k c.args.inputs.now c.loop-k.inputs none (omega (arith, c.loop-k-test.false)) c.loop-k.invariant
