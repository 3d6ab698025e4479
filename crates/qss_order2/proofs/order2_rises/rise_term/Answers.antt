use Rattle.qss_order2.proofs.Common
use Common.{◌*ℤ◌, ◌^◌, ◌∙◌, ◌≡◌, ap, arith, FitsSigned, product_bound, product_is, to_z-of_z, w128}
use Rattle.qss_order2.proofs.order2_rises.rise_term.Goals as goal

pub returns-clause-value : goal.returns-clause-value
returns-clause-value c =
    let narrow = c.ranges.coef in
    let is : c.from.result ≡ c.args.coef = simp to_z-of_z at c.from.ensures in
    let fits : FitsSigned w128 c.from.result = record { sfits = c.from.type_inv } in
    product_is c.from.result c.args.level (2 ^ 44) (2 ^ 50) fits c.ranges.level
    (rw is c.requires.coef) c.requires.level (omega arith)
    ∙ ap (λ z. z *ℤ c.args.level) is

pub returns-clause-bound : goal.returns-clause-bound
returns-clause-bound c =
    let narrow = c.ranges.coef in
    let is : c.from.result ≡ c.args.coef = simp to_z-of_z at c.from.ensures in
    let fits : FitsSigned w128 c.from.result = record { sfits = c.from.type_inv } in
    rw (product_is c.from.result c.args.level (2 ^ 44) (2 ^ 50) fits c.ranges.level
    (rw is c.requires.coef) c.requires.level (omega arith))
    (product_bound c.from.result c.args.level (2 ^ 44) (2 ^ 50) (rw is c.requires.coef)
    c.requires.level)
