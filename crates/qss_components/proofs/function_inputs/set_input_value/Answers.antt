-- The input of the variable is set, if there is one.
use Rattle.qss_components.proofs.Common.{◌≡◌, get_or, to_z-of_z}
use Rattle.qss_components.proofs.InputPlaces.{no_input}
use Rattle.qss_components.proofs.InputValues.{set_are, set_values, unset_values}
use Rattle.qss_components.proofs.function_inputs.set_input_value.Goals as goal

pub returns-in-Some-clause-inputs : goal.returns-in-Some-clause-inputs
returns-in-Some-clause-inputs c =
    let facts = c.in-Some.ensures in
    let of_value = c.ranges.value in
    let is : c.with_function_value.result ≡ record (get_or c.args.inputs.now c.in-Some.place
    no_input) { value = c.args.value } = simp to_z-of_z at c.with_function_value.ensures in
    set_are c.args.m.now c.args.row c.args.inputs.now c.requires.inputs c.args.var c.args.value
    c.in-Some.place facts.0 facts.1 c.with_function_value.result is c.requires.value

pub returns-in-Some-clause-values : goal.returns-in-Some-clause-values
returns-in-Some-clause-values c =
    let facts = c.in-Some.ensures in
    let of_value = c.ranges.value in
    let is : c.with_function_value.result ≡ record (get_or c.args.inputs.now c.in-Some.place
    no_input) { value = c.args.value } = simp to_z-of_z at c.with_function_value.ensures in
    set_values c.args.m.now c.args.row c.args.inputs.now c.requires.inputs c.args.var c.args.value
    c.in-Some.place facts.0 facts.1 c.with_function_value.result is

pub returns-in_default-clause-values : goal.returns-in_default-clause-values
returns-in_default-clause-values c = unset_values c.args.m.now c.args.row c.args.inputs.now
    c.requires.inputs c.args.var c.args.value c.in_default.ensures
