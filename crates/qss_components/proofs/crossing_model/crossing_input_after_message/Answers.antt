-- An input is begun anew where the message is about its variable.
use Rattle.qss_components.proofs.Common
use Common.{ℤ, ◌*ℤ◌, ◌∙◌, ◌≡◌, ap, arith, Discrete, FitsSigned, Input, ints, IsMessage, level_unit}
use Common.{pos, Slope, State, subst, sym, to_z-of_z, w128, w64}
use Rattle.qss_components.proofs.InputsTold.{slope_given, slope_not_given, state_given}
use Rattle.qss_components.proofs.InputsTold.{state_not_given, discrete_given, discrete_not_given}
use Rattle.qss_components.proofs.crossing_model.crossing_input_after_message.Goals as goal

pub returns-then-input-var : goal.returns-then-input-var
returns-then-input-var c =
    let m = c.args.m.now in
    let own : IsMessage m (Slope c.in-Slope.var c.in-Slope.slope) = subst (IsMessage m) c.in-Slope.is c.requires.message in
    let of_slope : FitsSigned w128 c.in-Slope.slope = omega (arith, ints, own.1) in
    let of_at : FitsSigned w128 c.crossing_input_at.result = record { sfits = c.crossing_input_at.type_inv } in
    let i : Input = c.args.input in
    let anew : c.begin_crossing_input.result ≡ record i { tick = c.args.tick; at = c.crossing_input_at.result; speed = c.in-Slope.slope } = simp to_z-of_z at c.begin_crossing_input.ensures in
    anew
    ∙ ap (λ (at : ℤ). record i { tick = c.args.tick; at = at; speed = c.in-Slope.slope }) c.crossing_input_at.ensures
    ∙ slope_given m c.args.tick i c.args.msg c.in-Slope.var c.in-Slope.slope c.in-Slope.is c.if-input-var.true

pub returns-else-input-var : goal.returns-else-input-var
returns-else-input-var c = slope_not_given c.args.m.now c.args.tick c.args.input c.args.msg c.in-Slope.var c.in-Slope.slope c.in-Slope.is c.if-input-var.false

pub returns-then-input-var-2 : goal.returns-then-input-var-2
returns-then-input-var-2 c =
    let m = c.args.m.now in
    let own : IsMessage m (State c.in-State.var c.in-State.state) = subst (IsMessage m) c.in-State.is c.requires.message in
    let of_state : FitsSigned w128 c.in-State.state = omega (arith, ints, own.1) in
    let of_speed : FitsSigned w128 c.args.input.speed = omega (arith, ints, c.requires.line.slow) in
    let i : Input = c.args.input in
    let anew : c.begin_crossing_input-then-input-var-2.result ≡ record i { tick = c.args.tick; at = c.in-State.state } = simp to_z-of_z at c.begin_crossing_input-then-input-var-2.ensures in
    anew ∙ state_given m c.args.tick i c.args.msg c.in-State.var c.in-State.state c.in-State.is c.if-input-var-2.true

pub returns-else-input-var-2 : goal.returns-else-input-var-2
returns-else-input-var-2 c = state_not_given c.args.m.now c.args.tick c.args.input c.args.msg c.in-State.var c.in-State.state c.in-State.is c.if-input-var-2.false

pub scale_discrete_value-requires-clause-value : goal.scale_discrete_value-requires-clause-value
scale_discrete_value-requires-clause-value c =
    let m = c.args.m.now in
    let own : IsMessage m (Discrete c.in-Discrete.var c.in-Discrete.value) = subst (IsMessage m) c.in-Discrete.is c.requires.message in
    let of_value : FitsSigned w64 c.in-Discrete.value = omega (arith, ints, own.2) in
    simp to_z-of_z own.2

pub returns-then-is_crossing_input_of : goal.returns-then-is_crossing_input_of
returns-then-is_crossing_input_of c =
    let m = c.args.m.now in
    let own : IsMessage m (Discrete c.in-Discrete.var c.in-Discrete.value) = subst (IsMessage m) c.in-Discrete.is c.requires.message in
    let of_value : FitsSigned w64 c.in-Discrete.value = omega (arith, ints, own.2) in
    let of_at : FitsSigned w128 c.scale_discrete_value.result = record { sfits = c.scale_discrete_value.type_inv } in
    let i : Input = c.args.input in
    let at : c.scale_discrete_value.result ≡ c.in-Discrete.value *ℤ level_unit m = simp to_z-of_z at c.scale_discrete_value.ensures.value in
    let anew : c.begin_crossing_input-then-is_crossing_input_of.result ≡ record i { tick = c.args.tick; at = c.scale_discrete_value.result; speed = pos 0 } = simp to_z-of_z at c.begin_crossing_input-then-is_crossing_input_of.ensures in
    anew
    ∙ ap (λ (z : ℤ). record i { tick = c.args.tick; at = z; speed = pos 0 }) at
    ∙ discrete_given m c.args.tick i c.args.msg c.in-Discrete.var c.in-Discrete.value c.in-Discrete.is (sym c.is_crossing_input_of.ensures ∙ c.if-is_crossing_input_of.true)

pub returns-else-is_crossing_input_of : goal.returns-else-is_crossing_input_of
returns-else-is_crossing_input_of c = discrete_not_given c.args.m.now c.args.tick c.args.input c.args.msg c.in-Discrete.var c.in-Discrete.value c.in-Discrete.is (sym c.is_crossing_input_of.ensures ∙ c.if-is_crossing_input_of.false)
