use Rattle.qss_machine.proofs.Common
use Common.{◌*ℤ◌, ◌++◌, ◌+ℤ◌, ◌+◌, ◌-ℤ◌, ◌^◌, ◌∙◌, ◌≤◌, abs_of, ap, arith, coefficient_of}
use Common.{FitsSigned, int_at, ints, length, mode_coefficient, sum_below, sym, to_z-of_z}
use Common.{unsigned_abs, w128}
use Rattle.qss_machine.proofs.Few.{entries_few}
use Rattle.qss_machine.proofs.WeightLaws.{sizes_sum-entries, weight_parts}
use Rattle.qss_machine.proofs.slope_rows.absolute_row_sum.Goals as goal

pub slope_entry_weight-own-requires-clause-count_limit : goal.slope_entry_weight-own-requires-clause-count_limit
slope_entry_weight-own-requires-clause-count_limit c =
    rw c.as_slice.ensures (omega (arith, c.requires.count_limit, entries_few (length c.args.levels.now + length c.args.discretes.now) c.args.row.now.entries c.requires.row.entries))

pub returns : goal.returns
returns c =
    let row = c.args.row.now in
    let values = c.args.levels.now ++ c.args.discretes.now in
    let beta_small : unsigned_abs row.beta ≤ 2 ^ 78 = c.requires.row.constant in
    let beta : FitsSigned w128 row.beta = omega (arith, ints) in
    let own : FitsSigned w128 c.slope_entry_weight-own.result = record { sfits = c.slope_entry_weight-own.type_inv } in
    let products : FitsSigned w128 c.product_excess-products.result = record { sfits = c.product_excess-products.type_inv } in
    let constant : FitsSigned w128 c.abs.result = record { sfits = c.abs.type_inv } in
    let fits : FitsSigned w128 c.add_form_parts.result = record { sfits = c.add_form_parts.type_inv } in
    let sum = rw (to_z-of_z w128 c.slope_entry_weight-own.result own, to_z-of_z w128 c.product_excess-products.result products, to_z-of_z w128 c.abs.result constant) at c.add_form_parts.ensures in
    let own_value = rw c.as_slice.ensures at c.slope_entry_weight-own.ensures.value in
    let size_value = rw (to_z-of_z w128 row.beta beta) at c.abs.ensures.value in
    let sizes = sum_below (length values) (λ v. abs_of (coefficient_of row.entries v) *ℤ abs_of (int_at values v)) in
    let more = sum_below (length c.args.levels.now) (λ i. (abs_of (mode_coefficient c.args.level_bits (length c.args.levels.now) row c.args.discretes.now i) -ℤ abs_of (coefficient_of row.entries i)) *ℤ abs_of (int_at c.args.levels.now i)) in
    to_z-of_z w128 c.add_form_parts.result fits ∙ sum
    ∙ ap (λ z. z +ℤ c.product_excess-products.result +ℤ c.abs.result) (own_value ∙ sym (sizes_sum-entries row.entries values c.requires.row.entries.rising))
    ∙ ap (λ z. sizes +ℤ z +ℤ c.abs.result) c.product_excess-products.ensures.value
    ∙ ap (λ z. sizes +ℤ more +ℤ z) size_value
    ∙ weight_parts c.args.level_bits row c.args.levels.now c.args.discretes.now
