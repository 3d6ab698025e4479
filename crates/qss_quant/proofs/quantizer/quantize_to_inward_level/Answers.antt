use Rattle.qss_quant.proofs.Common.{ℤ, ◌*ℤ◌, ◌<ℤ◌, ◌≤ℤ◌, rules, subst, to_z-of_z, w128}
use Rattle.std.proofs.Common.{FitsSigned}
use Rattle.mu_num.proofs.Tests.{int_lt-true, int_lt-false}
use Rattle.qss_quant.proofs.RuleAnswers.{above_answer, below_answer}
use Rattle.qss_quant.proofs.quantizer.quantize_to_inward_level.Goals as goal

pub returns-then-levels_in_units-state : goal.returns-then-levels_in_units-state
returns-then-levels_in_units-state c =
    let of_state = c.ranges.state in
    let of_old = c.ranges.old in
    let of_unit = c.ranges.unit in
    let of_in_units : FitsSigned w128 c.levels_in_units.result = record { sfits = c.levels_in_units.type_inv } in
    let above : (c.args.unit *ℤ c.args.old) <ℤ c.args.state =
    subst (λ (z : ℤ). z <ℤ c.args.state) (simp to_z-of_z at c.levels_in_units.ensures.value) (int_lt-true c.levels_in_units.result c.args.state (simp to_z-of_z at c.if-levels_in_units-state.true)) in
    above_answer c.args.state c.args.old c.args.unit _ (search rules) above (search rules)

pub returns-else-levels_in_units-state : goal.returns-else-levels_in_units-state
returns-else-levels_in_units-state c =
    let of_state = c.ranges.state in
    let of_old = c.ranges.old in
    let of_unit = c.ranges.unit in
    let of_in_units : FitsSigned w128 c.levels_in_units.result = record { sfits = c.levels_in_units.type_inv } in
    let below : c.args.state ≤ℤ (c.args.unit *ℤ c.args.old) =
    subst (λ (z : ℤ). c.args.state ≤ℤ z) (simp to_z-of_z at c.levels_in_units.ensures.value) (int_lt-false c.levels_in_units.result c.args.state (simp to_z-of_z at c.if-levels_in_units-state.false)) in
    below_answer c.args.state c.args.old c.args.unit _ (search rules) below (search rules)
