use Rattle.mu_affine.proofs.Common
use Common.{◌≡◌, checks, first_failed, flat_variable, FlatVar, is_quantum, map, None, Quantum}
use Common.{rounded_state, take}
use Rattle.mu_affine.proofs.rounded_machine.round_machine_states.Given as goal

-- the states so far, and no quantum so far is past a limit
abbrev pub invariant-loop-place : goal.invariant-loop-place
invariant-loop-place l = record {
  so_far : l.all.items ≡ map (λ (v : FlatVar). rounded_state l.units.p l.units.k l.units.f (flat_variable v)) (take l.place l.states);
  none : first_failed (checks (λ (v : FlatVar). is_quantum l.units.f v.quantum) Quantum 0 (take l.place l.states)) ≡ None;
}
