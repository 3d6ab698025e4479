use Rattle.qss_machine.proofs.Common
use Common.{◌*◌, ◌/◌, ap, arith, FitsSigned, get_or, get_or-map, int_max, ints, pos, StateInfo, sym}
use Common.{to_z-of_z, unsigned_abs, w64}
use Rattle.qss_machine.proofs.compiled_machine.Machine.quantum_at.Goals as goal

pub returns : goal.returns
returns c =
    let m = c.args.self.now in
    let state = c.index-as_slice-state.result in
    let limits = m.has_variables.each_state c.args.state state c.requires.state in
    let own : FitsSigned w64 (get_or m.states c.args.state state).quantum = omega (arith, ints, limits.quantum_low, limits.quantum_high) in
    let quantum : FitsSigned w64 c.quantum_with_relative.result = record { sfits = c.quantum_with_relative.type_inv } in
    rw (
      to_z-of_z w64 c.quantum_with_relative.result quantum,
      c.quantum_with_relative.ensures,
      c.as_slice.ensures,
      to_z-of_z w64 (get_or m.states c.args.state state).quantum own,
      to_z-of_z w64 c.args.level c.ranges.level,
    )
    (ap (λ z. int_max z (pos (unsigned_abs c.args.level * m.relative / 4096)))
    (sym (get_or-map (λ (s : StateInfo). s.quantum) m.states c.args.state state (pos 0) c.requires.state)))
