-- A slope and a state of its number are set.
use Rattle.qss_components.proofs.Common
use Common.{◌∙◌, ◌≡◌, arith, FitsSigned, ints, IsMessage, Slope, State, subst, to_z-of_z, w128}
use Rattle.qss_components.proofs.LinesTold.{slope_told, slope_untold, state_told, state_untold}
use Rattle.qss_components.proofs.integrator_model.IntegratorModel.apply_message.Goals as goal

pub line_with_slope-requires : goal.line_with_slope-requires
line_with_slope-requires g c =
    let own : IsMessage c.args.self.now.machine.value (Slope c.in-Slope.var c.in-Slope.slope) = subst (IsMessage c.args.self.now.machine.value) c.in-Slope.is c.requires in
    let of_slope : FitsSigned w128 c.in-Slope.slope = omega (arith, ints, own.1) in
    simp to_z-of_z own.1

pub returns-then-var-self : goal.returns-then-var-self
returns-then-var-self g c =
    let i = c.args.self.now in
    let own : IsMessage i.machine.value (Slope c.in-Slope.var c.in-Slope.slope) = subst (IsMessage i.machine.value) c.in-Slope.is c.requires in
    let of_slope : FitsSigned w128 c.in-Slope.slope = omega (arith, ints, own.1) in
    let anew : c.line_with_slope.result ≡ record c.args.line { slope = c.in-Slope.slope } = simp to_z-of_z at c.line_with_slope.ensures in
    anew ∙ slope_told i.var c.in-Slope.var c.args.line c.args.msg c.in-Slope.slope c.in-Slope.is c.if-var-self.true

pub returns-else-var-self : goal.returns-else-var-self
returns-else-var-self g c = slope_untold c.args.self.now.var c.in-Slope.var c.args.line c.args.msg c.in-Slope.slope c.in-Slope.is c.if-var-self.false

pub line_with_state-requires : goal.line_with_state-requires
line_with_state-requires g c =
    let own : IsMessage c.args.self.now.machine.value (State c.in-State.var c.in-State.state) = subst (IsMessage c.args.self.now.machine.value) c.in-State.is c.requires in
    let of_state : FitsSigned w128 c.in-State.state = omega (arith, ints, own.1) in
    simp to_z-of_z own.1

pub returns-then-var-self-2 : goal.returns-then-var-self-2
returns-then-var-self-2 g c =
    let i = c.args.self.now in
    let own : IsMessage i.machine.value (State c.in-State.var c.in-State.state) = subst (IsMessage i.machine.value) c.in-State.is c.requires in
    let of_state : FitsSigned w128 c.in-State.state = omega (arith, ints, own.1) in
    let anew : c.line_with_state.result ≡ record c.args.line { x = c.in-State.state } = simp to_z-of_z at c.line_with_state.ensures in
    anew ∙ state_told i.var c.in-State.var c.args.line c.args.msg c.in-State.state c.in-State.is c.if-var-self-2.true

pub returns-else-var-self-2 : goal.returns-else-var-self-2
returns-else-var-self-2 g c = state_untold c.args.self.now.var c.in-State.var c.args.line c.args.msg c.in-State.state c.in-State.is c.if-var-self-2.false
