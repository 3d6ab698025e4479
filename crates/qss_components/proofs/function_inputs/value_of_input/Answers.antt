-- The value of the variable's input, or 0.
use Rattle.qss_components.proofs.Common
use Common.{◌^◌, ◌∙◌, ◌≤◌, arith, FitsSigned, get_or, ints, sym, to_z-of_z, unsigned_abs, w64}
use Rattle.qss_components.proofs.InputPlaces.{no_input}
use Rattle.qss_components.proofs.InputValues.{value_at, no_value}
use Rattle.qss_components.proofs.function_inputs.value_of_input.Goals as goal

pub returns-in-Some-clause-value : goal.returns-in-Some-clause-value
returns-in-Some-clause-value c =
    let facts = c.in-Some.ensures in
    let inputs = c.args.inputs.now in
    let small : unsigned_abs (get_or inputs c.in-Some.place no_input).value ≤ 2 ^ 43 =
    c.requires.small c.in-Some.place no_input facts.0 in
    let fits : FitsSigned w64 (get_or inputs c.in-Some.place no_input).value = omega
    (arith, ints, small) in
    to_z-of_z w64 (get_or inputs c.in-Some.place no_input).value fits ∙ sym
    (value_at inputs c.args.var c.in-Some.place no_input c.requires.rising facts.0
    (facts.1 no_input))

pub returns-in-None-clause-value : goal.returns-in-None-clause-value
returns-in-None-clause-value c = sym (no_value c.args.inputs.now c.args.var c.in-None.ensures)
