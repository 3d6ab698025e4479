-- The closure gives an input's variable.
use Rattle.qss_components.proofs.Common.{Err, FunctionInput, Ok, rules}
use Rattle.std.proofs.lemmas.List.Sorted.{answers_always}
use Rattle.qss_components.proofs.InputPlaces.{searched}
use Rattle.qss_components.proofs.function_inputs.find_input_place.Goals as goal

pub returns-in-Ok : goal.returns-in-Ok
returns-in-Ok c =
    let facts = c.in-Ok.ensures in
    let by_variable = facts.position (λ (input : FunctionInput). input.var)
    (answers_always _ _ _ (λ f a r g called. search rules)) in
    searched c.args.inputs.now c.requires.rising c.args.var (Ok c.in-Ok.place) facts.bound
    by_variable

pub returns-in-Err : goal.returns-in-Err
returns-in-Err c =
    let facts = c.in-Err.ensures in
    let by_variable = facts.position (λ (input : FunctionInput). input.var)
    (answers_always _ _ _ (λ f a r g called. search rules)) in
    searched c.args.inputs.now c.requires.rising c.args.var (Err c.in-Err.field-0) facts.bound
    by_variable
