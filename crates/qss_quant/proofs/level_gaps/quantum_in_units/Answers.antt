-- A product of numbers from 1 on is from 1 on.
use Rattle.qss_quant.proofs.Common
use Common.{ℤ, ◌*ℤ◌, ◌<ℤ◌, ◌≤ℤ◌, arith, FitsSigned, ints, pos, subst, sym, to_z-of_z, w128}
use Rattle.std.proofs.Common.{negsuc, zero, suc}
use Rattle.qss_quant.proofs.level_gaps.quantum_in_units.Goals as goal

product_positive : (a b : ℤ) → pos 1 ≤ℤ a → pos 1 ≤ℤ b → pos 0 <ℤ (a *ℤ b)
product_positive (pos zero) b h g = absurd (omega (arith, ints))
product_positive (pos (suc a)) (pos zero) h g = absurd (omega (arith, ints))
product_positive (pos (suc a)) (pos (suc b)) h g = omega (arith, ints)
product_positive (pos (suc a)) (negsuc b) h g = absurd (omega (arith, ints))
product_positive (negsuc a) b h g = absurd (omega (arith, ints))

pub returns-clause-positive : goal.returns-clause-positive
returns-clause-positive c =
    let of_quantum = c.ranges.quantum in
    let of_unit = c.ranges.unit in
    let fits : FitsSigned w128 c.levels_in_units.result = record { sfits = c.levels_in_units.type_inv } in
    rw (to_z-of_z w128 c.levels_in_units.result fits)
    (subst (λ z. pos 0 <ℤ z) (sym (simp to_z-of_z at c.levels_in_units.ensures.value)) (product_positive c.args.unit c.args.quantum c.requires.unit.from_one c.requires.quantum.from_one))
