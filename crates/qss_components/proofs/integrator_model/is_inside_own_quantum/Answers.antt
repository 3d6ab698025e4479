-- The unit and the quantum are the machine's.
use Rattle.qss_components.proofs.Common
use Common.{ℤ, ◌*ℤ◌, ◌-ℤ◌, ◌∙◌, ◌≡◌, ap, FitsSigned, int_lt, level_unit, pos, quantum_of, subst}
use Common.{sym, to_z-of_z, unsigned_abs, w128, w64}
use Rattle.mu_num.specs.Sizes.{IsPositiveWithin}
use Rattle.qss_machine.proofs.Near.{unit_fits}
use Rattle.qss_events.proofs.Ranges.{quantum_fits}
use Rattle.qss_components.proofs.integrator_model.is_inside_own_quantum.Goals as goal

pub is_inside_quantum-requires-clause-quantum : goal.is_inside_quantum-requires-clause-quantum
is_inside_quantum-requires-clause-quantum c =
    let of_level = c.ranges.level in
    let fits : FitsSigned w64 c.quantum_at.result = record { sfits = c.quantum_at.type_inv } in
    let own = simp to_z-of_z at c.quantum_at.ensures in
    rw (to_z-of_z w64 c.quantum_at.result fits) (subst (IsPositiveWithin 43) (sym own) (quantum_fits c.args.m.now c.args.var c.args.level c.requires.known c.requires.level))

pub is_inside_quantum-requires-clause-unit : goal.is_inside_quantum-requires-clause-unit
is_inside_quantum-requires-clause-unit c =
    let fits : FitsSigned w128 c.level_unit.result = record { sfits = c.level_unit.type_inv } in
    rw (to_z-of_z w128 c.level_unit.result fits) (subst (IsPositiveWithin 44) (sym c.level_unit.ensures) (unit_fits c.args.m.now))

pub returns : goal.returns
returns c =
    let m = c.args.m.now in
    let of_x = c.ranges.x in
    let of_level = c.ranges.level in
    let of_quantum : FitsSigned w64 c.quantum_at.result = record { sfits = c.quantum_at.type_inv } in
    let of_unit : FitsSigned w128 c.level_unit.result = record { sfits = c.level_unit.type_inv } in
    let own : c.quantum_at.result ≡ quantum_of m c.args.var c.args.level = simp to_z-of_z at c.quantum_at.ensures in
    let inside : c.is_inside_quantum.result ≡ int_lt (pos (unsigned_abs (c.args.x -ℤ c.level_unit.result *ℤ c.args.level))) (c.level_unit.result *ℤ c.quantum_at.result) = simp to_z-of_z at c.is_inside_quantum.ensures in
    inside
    ∙ ap (λ (u : ℤ). int_lt (pos (unsigned_abs (c.args.x -ℤ u *ℤ c.args.level))) (u *ℤ c.quantum_at.result)) c.level_unit.ensures
    ∙ ap (λ (q : ℤ). int_lt (pos (unsigned_abs (c.args.x -ℤ level_unit m *ℤ c.args.level))) (level_unit m *ℤ q)) own
