-- The level and its change are taken from the state one after the other.
use Rattle.qss_own_traces.proofs.Common
use Common.{ℤ, ◌*ℤ◌, ◌-ℤ◌, ◌∙◌, ◌≡◌, ap, ap₂, FitsSigned, pos, to_z-of_z, unsigned_abs, w128}
use Rattle.qss_own_traces.proofs.SecondSums.{spread}
use Rattle.qss_own_traces.proofs.second_order_trace.distance_after.Goals as goal

pub returns : goal.returns
returns c =
    let x = c.args.x in
    let unit = c.args.unit in
    let level = c.args.level in
    let change = c.args.change in
    let of_x : FitsSigned w128 x = record { sfits = c.ranges.x.sfits } in
    let of_unit : FitsSigned w128 unit = record { sfits = c.ranges.unit.sfits } in
    let of_level : FitsSigned w128 level = record { sfits = c.ranges.level.sfits } in
    let of_change : FitsSigned w128 change = record { sfits = c.ranges.change.sfits } in
    let of_in : FitsSigned w128 c.trace_level_in_states.result = record { sfits = c.trace_level_in_states.type_inv } in
    let of_by : FitsSigned w128 c.state_change.result =
    record { sfits = c.state_change.type_inv } in
    let of_less : FitsSigned w128 c.less_two.result = record { sfits = c.less_two.type_inv } in
    let fits : FitsSigned w128 c.abs.result = record { sfits = c.abs.type_inv } in
    let at : c.trace_level_in_states.result ≡ unit *ℤ level = simp to_z-of_z at c.trace_level_in_states.ensures.value in
    let by : c.state_change.result ≡ unit *ℤ change =
    simp to_z-of_z at c.state_change.ensures.value in
    let less : c.less_two.result ≡ x -ℤ c.trace_level_in_states.result -ℤ c.state_change.result =
    simp to_z-of_z at c.less_two.ensures in
    let size : c.abs.result ≡ pos (unsigned_abs c.less_two.result) = c.abs.ensures.value
    ∙ ap (λ (z : ℤ). pos (unsigned_abs z)) (to_z-of_z w128 c.less_two.result of_less) in
    to_z-of_z w128 c.abs.result fits ∙ size
    ∙ ap (λ (z : ℤ). pos (unsigned_abs z)) (less ∙ ap₂ (λ (p q : ℤ). x -ℤ p -ℤ q) at by ∙ spread x unit level change)
