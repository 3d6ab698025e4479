use Rattle.mu_affine.proofs.Common
use Common.{◌∙◌, arith, FitsSigned, flat_variable, FlatVar, is_quantum, of_z, Quantum}
use Common.{rounded_state, to_z, to_z-of_z, w128, w64}
use Rattle.mu_affine.proofs.Failing.{fail_turn, pass_turn, checks_done}
use Rattle.mu_affine.proofs.Turns.{map_turn}
use Rattle.mu_affine.proofs.VariableLaws.{state_made, quantum_kept}
use Rattle.mu_affine.proofs.rounded_machine.round_machine_states.Goals as goal

pub returns-in_default-clause-err : goal.returns-in_default-clause-err
returns-in_default-clause-err c =
    fail_turn (λ (v : FlatVar). is_quantum c.args.units.f v.quantum) Quantum 0 c.args.states.now c.loop-place.place c.index-states-place.result c.loop-place-test.true c.index-states-place.is
    c.loop-place.invariant.none c.loop-place.place (omega arith) c.in_default.ensures.none

pub returns-clause-ok : goal.returns-clause-ok
returns-clause-ok c = checks_done (λ (v : FlatVar). is_quantum c.args.units.f v.quantum) Quantum 0 c.args.states.now c.loop-place.place c.loop-place-test.false c.loop-place.invariant.none

pub loop-place-preserved : goal.loop-place-preserved
loop-place-preserved c =
    let u = c.args.units in
    let x = c.index-states-place.result in
    let some = c.in-Some.ensures.some in
    let fits : FitsSigned w128 c.round_form_number.result = record { sfits = c.round_form_number.type_inv } in
    record {
      so_far = c.in_ok-push.ensures.items
          ∙ map_turn (λ (v : FlatVar). rounded_state u.p u.k u.f (flat_variable v)) c.args.states.now c.loop-place.place x c.loop-place.all.items _ c.loop-place-test.true c.index-states-place.is
          c.loop-place.invariant.so_far
          (state_made u.p u.k u.f x c.in_ok-copy.field-0 (to_z w128 (of_z w128 c.round_form_number.result)) (to_z w64 (of_z w64 c.in-Some.quantum)) c.in_ok-copy.ensures
          (to_z-of_z w128 c.round_form_number.result fits ∙ c.round_form_number.ensures) (quantum_kept u.f x.quantum c.in-Some.quantum some.0 some.1));
      none = pass_turn (λ (v : FlatVar). is_quantum u.f v.quantum) Quantum 0 c.args.states.now c.loop-place.place x c.loop-place-test.true c.index-states-place.is c.loop-place.invariant.none some.0;
    }
