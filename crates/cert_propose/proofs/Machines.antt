-- What is known of the numbers of a machine.
use Rattle.cert_propose.proofs.Common.{[], ◌<◌, ◌≤ℤ◌, AreSmall, arith, ints, IsVector, length, pos}
use Rattle.std.proofs.lemmas.List.{length-map, get_or-map}
use Rattle.mu_num.specs.Sizes.{IsWithin}
use Rattle.qss_machine.specs.declared.machine_parts.StateInfo.{StateInfo}
use Rattle.qss_machine.specs.declared.compiled_machine.Machine.{Machine}
use Rattle.qss_machine.specs.Machines.{state_count, start_states, quanta, start_discretes, row_at}
use Rattle.qss_machine.specs.Slopes.{mode_coefficient}
use Rattle.qss_machine.proofs.ModeTests.{fits_at}
use Rattle.qss_machine.proofs.Near.{unit_positive}
use Rattle.cert_check.specs.Systems.{system_of}
use Rattle.cert_check.proofs.Join.{entry-at}
use Rattle.cert_check.proofs.Starts as Starts

pub starts-fit : (m : Machine) → IsVector (state_count m) (start_states m)
starts-fit m = record {
  one_each = length-map m.states (λ (s : StateInfo). s.x0);
  each = λ k d h.
      let l : k < length m.states = omega (arith, length-map m.states (λ (s : StateInfo). s.x0), h) in
      let e : StateInfo = record { name = []; x0 = pos 0; quantum = pos 0 } in
      let small = (m.has_variables.each_state k e l).start in
      rw (get_or-map (λ (s : StateInfo). s.x0) m.states k e d l) (omega (arith, small));
}

pub quanta-fit : (m : Machine) → IsVector (state_count m) (quanta m)
quanta-fit m = record {
  one_each = length-map m.states (λ (s : StateInfo). s.quantum);
  each = λ k d h.
      let l : k < length m.states = omega (arith, length-map m.states (λ (s : StateInfo). s.quantum), h) in
      let e : StateInfo = record { name = []; x0 = pos 0; quantum = pos 0 } in
      let state = m.has_variables.each_state k e l in
      rw (get_or-map (λ (s : StateInfo). s.quantum) m.states k e d l) (omega (arith, ints, state.quantum_low, state.quantum_high));
}

pub coefficients-small : (m : Machine) → AreSmall (system_of m)
coefficients-small m i j hi hj =
    let small : IsWithin 44 (mode_coefficient m.f (state_count m) (row_at m i) (start_discretes m) j) =
    fits_at (state_count m) j (mode_coefficient m.f (state_count m) (row_at m i) (start_discretes m)) hj (Starts.starts-fit m i hi) in
    rw (entry-at m i j hi hj) small

pub unit-≥ : (m : Machine) → pos 1 ≤ℤ (system_of m).unit
unit-≥ m = let low = unit_positive m in omega (arith, ints)
