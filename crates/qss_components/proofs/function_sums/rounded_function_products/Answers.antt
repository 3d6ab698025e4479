use Rattle.qss_components.proofs.Common
use Common.{◌^◌, ◌≤◌, arith, discrete_count, FitsSigned, pos, state_count, to_z-of_z, unsigned_abs}
use Common.{w128}
use Rattle.std.proofs.Math.Pow.{pow_mono}
use Rattle.mu_num.proofs.Quotients.{nearest_bound}
use Rattle.qss_machine.proofs.Few.{products_few}
use Rattle.qss_machine.proofs.Powers.{power_positive}
use Rattle.qss_components.proofs.function_sums.rounded_function_products.Goals as goal

pub sum_function_products-sum-requires-clause-count_limit :
    goal.sum_function_products-sum-requires-clause-count_limit
sum_function_products-sum-requires-clause-count_limit c =
    let m = c.args.m.now in
    rw c.as_slice.ensures (products_few (state_count m) (discrete_count m) c.args.row.now.products
    c.requires.row.products m.has_variables.few)

pub returns-clause-bound : goal.returns-clause-bound
returns-clause-bound c =
    let m = c.args.m.now in
    let sum_fits : FitsSigned w128 c.sum_function_products-sum.result = record
    { sfits = c.sum_function_products-sum.type_inv } in
    let unit_fits : FitsSigned w128 c.unit.result = record { sfits = c.unit.type_inv } in
    let fits : FitsSigned w128 c.near_div.result = record { sfits = c.near_div.type_inv } in
    let near = rw (
      to_z-of_z w128 c.sum_function_products-sum.result sum_fits,
      to_z-of_z w128
          c.unit.result unit_fits,
      c.unit.ensures,
    ) at c.near_div.ensures.nearest in
    let one_unit : 2 ^ m.f ≤ 2 ^ 24 = pow_mono m.has_units.level_bits in
    let sum : unsigned_abs c.sum_function_products-sum.result ≤ 2 ^ 111 =
    c.sum_function_products-sum.ensures.bound in
    rw (to_z-of_z w128 c.near_div.result fits)
    (omega (
      arith,
      nearest_bound c.sum_function_products-sum.result (pos (2 ^ m.f))
          c.near_div.result (power_positive m.f) near,
      sum,
      one_unit,
    ))
