-- One product for the quantum and the level.
use Rattle.qss_quant.proofs.Common
use Common.{◌*ℤ◌, ◌+ℤ◌, ◌^◌, ◌≡◌, ◌≤◌, arith, FitsSigned, ints, to_z-of_z, w128, w64}
use Rattle.std.specs.Int.RustNames.{unsigned_abs}
use Rattle.mu_num.proofs.Integers.{mul-add}
use Rattle.qss_quant.proofs.level_gaps.room_above.Goals as goal

pub overflow_sub-result : goal.overflow_sub-result
overflow_sub-result c =
    let of_x = c.ranges.x in
    let of_product : FitsSigned w128 c.level_product.result = record { sfits = c.level_product.type_inv } in
    let bound : unsigned_abs c.level_product.result ≤ 2 ^ 88 = c.level_product.ensures.bound in
    omega (arith, ints, bound, c.requires.state)

pub returns-clause-value : goal.returns-clause-value
returns-clause-value c =
    let of_x = c.ranges.x in
    let of_level = c.ranges.level in
    let of_quantum = c.ranges.quantum in
    let of_unit = c.ranges.unit in
    let of_levels : FitsSigned w64 (c.args.quantum +ℤ c.args.level) = omega (arith, ints, c.requires.quantum, c.requires.level) in
    let of_product : FitsSigned w128 c.level_product.result = record { sfits = c.level_product.type_inv } in
    let bound : unsigned_abs c.level_product.result ≤ 2 ^ 88 = c.level_product.ensures.bound in
    let value : c.level_product.result ≡ c.args.unit *ℤ (c.args.quantum +ℤ c.args.level) = simp to_z-of_z at c.level_product.ensures.value in
    omega (arith, ints, value, bound, c.requires.state, mul-add c.args.unit c.args.quantum c.args.level)
