-- A product within its limit, of numbers that both fit in 64 bits.
use Rattle.qss_states.proofs.Common
use Common.{ℤ, ◌*ℤ◌, ◌-ℤ◌, ◌^◌, ◌∙◌, ◌≡◌, ◌≤◌, ap₂, arith, FitsSigned, ints, to_z-of_z}
use Common.{unsigned_abs, w128, w64}
use Rattle.qss_machine.proofs.Loops.{fits_below, product_is, product_bound}
use Rattle.qss_states.proofs.row_sum_changes.slope_sum_change.Goals as goal

-- what is multiplied
record AreFactors (coefficient change first second : ℤ) : Type 0 where
  pub first_is : first ≡ coefficient
  pub second_is : second ≡ change
  pub first_small : unsigned_abs first ≤ 2 ^ 44
  pub second_small : unsigned_abs second ≤ 2 ^ 44

factors : (c : goal.After-from-2) → AreFactors c.args.coefficient (c.args.new -ℤ c.args.old) c.from.result c.from-2.result
factors c =
    let of_coefficient = c.ranges.coefficient in
    let of_new = c.ranges.new in
    let of_old = c.ranges.old in
    let narrow : FitsSigned w64 c.args.coefficient = omega (arith, ints, c.requires.coefficient) in
    let of_change : FitsSigned w64 (c.args.new -ℤ c.args.old) = omega (arith, ints, c.requires.new, c.requires.old) in
    let first : c.from.result ≡ c.args.coefficient = simp to_z-of_z at c.from.ensures in
    let second : c.from-2.result ≡ c.args.new -ℤ c.args.old = simp to_z-of_z at c.from-2.ensures in
    record {
      first_is = first;
      second_is = second;
      first_small = rw first c.requires.coefficient;
      second_small = rw second (omega (arith, ints, c.requires.new, c.requires.old));
    }

pub overflow_mul-result : goal.overflow_mul-result
overflow_mul-result c =
    let are = factors c in
    let first : FitsSigned w128 c.from.result = record { sfits = c.from.type_inv } in
    let second : FitsSigned w128 c.from-2.result = record { sfits = c.from-2.type_inv } in
    rw (to_z-of_z w128 c.from.result first, to_z-of_z w128 c.from-2.result second)
    (fits_below (c.from.result *ℤ c.from-2.result) (omega (arith, product_bound c.from.result c.from-2.result (2 ^ 44) (2 ^ 44) are.first_small are.second_small)))

pub returns-clause-value : goal.returns-clause-value
returns-clause-value c =
    let are = factors c in
    let first : FitsSigned w128 c.from.result = record { sfits = c.from.type_inv } in
    let second : FitsSigned w128 c.from-2.result = record { sfits = c.from-2.type_inv } in
    product_is c.from.result c.from-2.result (2 ^ 44) (2 ^ 44) first second are.first_small are.second_small (omega arith)
    ∙ ap₂ (λ a b. a *ℤ b) are.first_is are.second_is

pub returns-clause-bound : goal.returns-clause-bound
returns-clause-bound c =
    let are = factors c in
    let first : FitsSigned w128 c.from.result = record { sfits = c.from.type_inv } in
    let second : FitsSigned w128 c.from-2.result = record { sfits = c.from-2.type_inv } in
    rw (product_is c.from.result c.from-2.result (2 ^ 44) (2 ^ 44) first second are.first_small are.second_small (omega arith))
    (product_bound c.from.result c.from-2.result (2 ^ 44) (2 ^ 44) are.first_small are.second_small)
