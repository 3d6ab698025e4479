use Rattle.qss_machine.proofs.Common
use Common.{◌+ℤ◌, ◌+◌, ◌^◌, ◌∙◌, ◌≡◌, ◌≤◌, ap, arith, coefficient_of, ints, to_z-of_z, unsigned_abs}
use Rattle.qss_machine.proofs.Distinct.{coefficient_small}
use Rattle.qss_machine.proofs.Loops.{two_fit, two_sum}
use Rattle.qss_machine.proofs.slope_rows.row_mode_coefficient_from.Goals.{After-from-own}
use Rattle.qss_machine.proofs.slope_rows.row_mode_coefficient_from.Goals as goal

own_is : (c : After-from-own) → c.from-own.result ≡ coefficient_of c.args.row.now.entries c.args.state
own_is c = let of_own = c.ranges.own in let same : c.from-own.result ≡ c.args.own = simp to_z-of_z at c.from-own.ensures in same ∙ c.requires.own

own_small : (c : After-from-own) → unsigned_abs c.from-own.result ≤ 2 ^ 63
own_small c =
    let entries = c.args.row.now.entries in
    let small : unsigned_abs (coefficient_of entries c.args.state) ≤ 2 ^ 44 = coefficient_small entries c.args.state c.requires.row.entries.rising c.requires.row.coefficients in
    rw (own_is c) (omega (arith, small))

pub overflow_add-result : goal.overflow_add-result
overflow_add-result c = two_fit c.from-own.result c.rounded_row_products.result (2 ^ 63) (2 ^ 111 + 2 ^ 24) (own_small (goal.at.overflow_add-result c).After-from-own) c.rounded_row_products.ensures.bound (omega arith)

pub returns-clause-value : goal.returns-clause-value
returns-clause-value c =
    let own = (goal.at.returns-clause-value c).After-from-own in
    let sum = two_sum c.from-own.result c.rounded_row_products.result (2 ^ 63) (2 ^ 111 + 2 ^ 24) (own_small own) c.rounded_row_products.ensures.bound (omega arith) in
    sum ∙ ap (λ z. z +ℤ c.rounded_row_products.result) (own_is own) ∙ ap (λ z. coefficient_of c.args.row.now.entries c.args.state +ℤ z) c.rounded_row_products.ensures.value

pub returns-clause-bound : goal.returns-clause-bound
returns-clause-bound c =
    let own : unsigned_abs c.from-own.result ≤ 2 ^ 63 = own_small (goal.at.returns-clause-bound c).After-from-own in
    let sum = two_sum c.from-own.result c.rounded_row_products.result (2 ^ 63) (2 ^ 111 + 2 ^ 24) own c.rounded_row_products.ensures.bound (omega arith) in
    let products : unsigned_abs c.rounded_row_products.result ≤ 2 ^ 111 + 2 ^ 24 = c.rounded_row_products.ensures.bound in
    rw sum (omega (arith, ints, own, products))
