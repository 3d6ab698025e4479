-- The function receives the message, and remembers the first change of its sum.
use Rattle.qss_components.proofs.Common
use Common.{◌∙◌, ◌≡◌, ap, AreInputs, discretes_after_message, FitsSigned, FunctionInput}
use Common.{FunctionState, input_discretes, input_levels, IsMessage, levels_after_message, List}
use Common.{Machine, refl, subst, sym, to_z-of_z, w128, with_items_is}
use Rattle.qss_components.proofs.FunctionsTold.{given_so}
use Rattle.qss_components.proofs.function_model.FunctionModelAtomic.external.Goals as goal

pub receive_input-requires-clause-message : goal.receive_input-requires-clause-message
receive_input-requires-clause-message c = subst (λ (m : Machine). IsMessage m c.args.msg) (sym c.deref.ensures) c.requires.message

pub receive_input-requires-clause-inputs : goal.receive_input-requires-clause-inputs
receive_input-requires-clause-inputs c =
    let s = c.args.self.now in
    subst (λ (m : Machine). AreInputs m s.row c.as_mut_slice.result.now) (sym c.deref.ensures)
    (subst (AreInputs s.machine.value s.row) (sym c.as_mut_slice.ensures.value) s.are_inputs)

pub invariant_of-self : goal.invariant_of-self
invariant_of-self c =
    let s = c.args.self.now in
    let inputs = with_items_is s.inputs c.receive_input.new.inputs
    (c.receive_input.auto.inputs ∙ c.as_mut_slice.ensures.len) in
    record {
      known = s.known;
      are_inputs = subst (AreInputs s.machine.value s.row) (sym inputs)
          (subst (λ (m : Machine). AreInputs m s.row c.receive_input.new.inputs)
          c.deref.ensures c.receive_input.ensures.inputs);
    }

pub returns : goal.returns
returns c =
    let s = c.args.self.now in
    let m = s.machine.value in
    let new : List FunctionInput = c.receive_input.new.inputs in
    let slice : List FunctionInput = c.as_mut_slice.result.now in
    let inputs = with_items_is s.inputs new (c.receive_input.auto.inputs ∙
    c.as_mut_slice.ensures.len) in
    let levels : input_levels m new ≡ levels_after_message m s.row (input_levels m slice) c.args.msg
    =
    subst (λ (t : Machine). input_levels t new ≡ levels_after_message t s.row (input_levels t slice)
    c.args.msg) c.deref.ensures c.receive_input.ensures.levels in
    let discretes : input_discretes m new ≡ discretes_after_message m s.row
    (input_discretes m slice) c.args.msg =
    subst (λ (t : Machine). input_discretes t new ≡ discretes_after_message t s.row
    (input_discretes t slice) c.args.msg) c.deref.ensures
    c.receive_input.ensures.discretes in
    let of_before : FitsSigned w128 c.sum-before.result = record { sfits = c.sum-before.type_inv } in
    let of_after : FitsSigned w128 c.sum.result = record { sfits = c.sum.type_inv } in
    let sums : FunctionState = record {
      row = s.row;
      tick = s.tick;
      levels = input_levels m
          s.inputs.items;
      discretes = input_discretes m s.inputs.items;
      changed = s.changed;
    } in (
      refl,
      given_so m sums c.args.tick c.args.msg _ _ _ c.sum-before.result c.sum.result
          (ap (input_levels m) inputs ∙ levels ∙ ap (λ (items : List FunctionInput).
          levels_after_message m s.row (input_levels m items) c.args.msg)
          c.as_mut_slice.ensures.value)
          (ap (input_discretes m) inputs ∙ discretes ∙ ap (λ (items : List FunctionInput).
          discretes_after_message m s.row (input_discretes m items) c.args.msg)
          c.as_mut_slice.ensures.value)
          c.sum-before.ensures c.sum.ensures (simp to_z-of_z at c.function_change_by-self.ensures),
    )
