-- The sum of the function's own inputs in the shared machine.
use Rattle.qss_components.proofs.Common
use Common.{◌<◌, ◌∙◌, ap, AreInputs, FitsSigned, FunctionInput, input_discretes, input_levels, List}
use Common.{Machine, state_count, subst, sum_at, sym, to_z-of_z, w128}
use Rattle.qss_components.proofs.function_model.FunctionModel.sum.Goals as goal

pub slope_at_inputs-requires-clause-row : goal.slope_at_inputs-requires-clause-row
slope_at_inputs-requires-clause-row c = subst (λ (m : Machine). c.args.self.now.row < state_count m) (sym c.deref.ensures) c.args.self.now.known

pub slope_at_inputs-requires-clause-inputs : goal.slope_at_inputs-requires-clause-inputs
slope_at_inputs-requires-clause-inputs c =
    let s = c.args.self.now in
    subst (λ (m : Machine). AreInputs m s.row c.as_slice.result.now) (sym c.deref.ensures)
    (subst (AreInputs s.machine.value s.row) (sym c.as_slice.ensures.value) s.are_inputs)

pub returns : goal.returns
returns c =
    let s = c.args.self.now in
    let sum : FitsSigned w128 c.slope_at_inputs.result = record { sfits = c.slope_at_inputs.type_inv } in
    to_z-of_z w128 c.slope_at_inputs.result sum
    ∙ c.slope_at_inputs.ensures
    ∙ ap (λ (m : Machine). sum_at m s.row (input_levels m c.as_slice.result.now)
    (input_discretes m c.as_slice.result.now)) c.deref.ensures
    ∙ ap (λ (items : List FunctionInput). sum_at s.machine.value s.row
    (input_levels s.machine.value items) (input_discretes s.machine.value items))
    c.as_slice.ensures.value
