-- The state is within the quantum exactly where the code's test says so.
use Rattle.qss_quant.proofs.Common
use Common.{ℤ, ◌*ℤ◌, ◌-ℤ◌, ◌<ℤ◌, ◌≡◌, arith, FitsSigned, ints, IsAway, pos, rules, to_z-of_z}
use Common.{unsigned_abs, w128}
use Rattle.std.proofs.Common.{IsTrue, false}
use Rattle.qss_quant.proofs.quantizer.Quantizer.level.Goals as goal

not_true : {A : Type 0} → IsTrue false → A
not_true h = absurd (search (rules, h))

not_away : {A : Type 0} (gap limit x old quantum unit : ℤ) → gap ≡ x -ℤ unit *ℤ old → limit ≡ unit *ℤ quantum → pos (unsigned_abs gap) <ℤ limit → IsAway unit x old quantum → A
not_away gap limit x old quantum unit e f inside away = let near = rw (e, f) at inside in absurd (omega (arith, ints, away, near))

pub returns-then-is_gap_inside-clause-taken : goal.returns-then-is_gap_inside-clause-taken
returns-then-is_gap_inside-clause-taken g c away =
    let of_x = c.ranges.x in
    let of_old = c.ranges.old in
    let of_quantum = c.ranges.quantum in
    let of_unit = c.ranges.unit in
    let of_gap : FitsSigned w128 c.signed_gap.result = record { sfits = c.signed_gap.type_inv } in
    let of_limit : FitsSigned w128 c.quantum_in_units.result = record { sfits = c.quantum_in_units.type_inv } in
    let gap : c.signed_gap.result ≡ c.args.x -ℤ c.args.unit *ℤ c.args.old = simp to_z-of_z at c.signed_gap.ensures.value in
    let limit : c.quantum_in_units.result ≡ c.args.unit *ℤ c.args.quantum = simp to_z-of_z at c.quantum_in_units.ensures.value in
    let test = simp to_z-of_z at c.if-is_gap_inside.ensures in
    not_away _ _ c.args.x c.args.old c.args.quantum c.args.unit gap limit (test.0 (search rules)) away

pub returns-then-is_gap_inside-clause-ruled : goal.returns-then-is_gap_inside-clause-ruled
returns-then-is_gap_inside-clause-ruled g c away =
    let of_x = c.ranges.x in
    let of_old = c.ranges.old in
    let of_quantum = c.ranges.quantum in
    let of_unit = c.ranges.unit in
    let of_gap : FitsSigned w128 c.signed_gap.result = record { sfits = c.signed_gap.type_inv } in
    let of_limit : FitsSigned w128 c.quantum_in_units.result = record { sfits = c.quantum_in_units.type_inv } in
    let gap : c.signed_gap.result ≡ c.args.x -ℤ c.args.unit *ℤ c.args.old = simp to_z-of_z at c.signed_gap.ensures.value in
    let limit : c.quantum_in_units.result ≡ c.args.unit *ℤ c.args.quantum = simp to_z-of_z at c.quantum_in_units.ensures.value in
    let test = simp to_z-of_z at c.if-is_gap_inside.ensures in
    not_away _ _ c.args.x c.args.old c.args.quantum c.args.unit gap limit (test.0 (search rules)) away

pub returns-clause-kept : goal.returns-clause-kept
returns-clause-kept g c near =
    let of_x = c.ranges.x in
    let of_old = c.ranges.old in
    let of_quantum = c.ranges.quantum in
    let of_unit = c.ranges.unit in
    let of_gap : FitsSigned w128 c.signed_gap.result = record { sfits = c.signed_gap.type_inv } in
    let of_limit : FitsSigned w128 c.quantum_in_units.result = record { sfits = c.quantum_in_units.type_inv } in
    let gap : c.signed_gap.result ≡ c.args.x -ℤ c.args.unit *ℤ c.args.old = simp to_z-of_z at c.signed_gap.ensures.value in
    let limit : c.quantum_in_units.result ≡ c.args.unit *ℤ c.args.quantum = simp to_z-of_z at c.quantum_in_units.ensures.value in
    let test = simp to_z-of_z at c.if-is_gap_inside.ensures in
    let inside : pos (unsigned_abs c.signed_gap.result) <ℤ c.quantum_in_units.result = rw (gap, limit) near in
    not_true (test.1 inside)
