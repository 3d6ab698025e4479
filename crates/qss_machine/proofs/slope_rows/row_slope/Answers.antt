use Rattle.qss_machine.proofs.Common
use Common.{◌++◌, ◌+ℤ◌, ◌+◌, ◌^◌, ◌∙◌, ◌≤◌, ap, arith, FitsSigned, ints, length, to_z-of_z}
use Common.{unsigned_abs, w128, weighted_sum}
use Rattle.qss_machine.proofs.Few.{entries_few}
use Rattle.qss_machine.proofs.SlopeLaws.{slope_parts}
use Rattle.qss_machine.proofs.slope_rows.row_slope.Goals as goal

pub sum_slope_entries-own-requires-clause-count_limit : goal.sum_slope_entries-own-requires-clause-count_limit
sum_slope_entries-own-requires-clause-count_limit c =
    rw c.as_slice.ensures (omega (arith, c.requires.count_limit, entries_few (length c.args.levels.now + length c.args.discretes.now) c.args.row.now.entries c.requires.row.entries))

pub returns-clause-value : goal.returns-clause-value
returns-clause-value c =
    let row = c.args.row.now in
    let beta_small : unsigned_abs row.beta ≤ 2 ^ 78 = c.requires.row.constant in
    let beta : FitsSigned w128 row.beta = omega (arith, ints) in
    let own : FitsSigned w128 c.sum_slope_entries-own.result = record { sfits = c.sum_slope_entries-own.type_inv } in
    let products : FitsSigned w128 c.product_slope-products.result = record { sfits = c.product_slope-products.type_inv } in
    let fits : FitsSigned w128 c.add_form_parts.result = record { sfits = c.add_form_parts.type_inv } in
    let sum = rw (to_z-of_z w128 c.sum_slope_entries-own.result own, to_z-of_z w128 c.product_slope-products.result products, to_z-of_z w128 row.beta beta) at c.add_form_parts.ensures in
    let own_value = rw c.as_slice.ensures at c.sum_slope_entries-own.ensures.value in
    to_z-of_z w128 c.add_form_parts.result fits ∙ sum
    ∙ ap (λ z. z +ℤ c.product_slope-products.result +ℤ row.beta) own_value
    ∙ ap (λ z. weighted_sum row.entries (c.args.levels.now ++ c.args.discretes.now) +ℤ z +ℤ row.beta) c.product_slope-products.ensures.value
    ∙ slope_parts c.args.level_bits row c.args.levels.now c.args.discretes.now
