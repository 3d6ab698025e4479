use Rattle.qss_machine.proofs.Common
use Common.{◌*ℤ◌, ◌^◌, ◌∙◌, ◌≤◌, ap, arith, FitsSigned, to_z-of_z, unsigned_abs, w128, w64}
use Rattle.qss_machine.proofs.Loops.{product_is, product_bound}
use Rattle.qss_machine.proofs.slope_rows.wide_slope_term.Goals as goal

pub returns-clause-value : goal.returns-clause-value
returns-clause-value c =
    let is = c.from.ensures ∙ to_z-of_z w64 c.args.level c.ranges.level in
    let level_fits : FitsSigned w128 c.from.result = record { sfits = c.from.type_inv } in
    let level : unsigned_abs c.from.result ≤ 2 ^ 43 = rw is c.requires.level in
    product_is c.args.coef c.from.result (2 ^ 45) (2 ^ 43) c.ranges.coef level_fits c.requires.coef level (omega arith)
    ∙ ap (λ z. c.args.coef *ℤ z) is

pub returns-clause-bound : goal.returns-clause-bound
returns-clause-bound c =
    let is = c.from.ensures ∙ to_z-of_z w64 c.args.level c.ranges.level in
    let level_fits : FitsSigned w128 c.from.result = record { sfits = c.from.type_inv } in
    let level : unsigned_abs c.from.result ≤ 2 ^ 43 = rw is c.requires.level in
    rw (product_is c.args.coef c.from.result (2 ^ 45) (2 ^ 43) c.ranges.coef level_fits c.requires.coef level (omega arith))
    (product_bound c.args.coef c.from.result (2 ^ 45) (2 ^ 43) c.requires.coef level)
