use Rattle.qss_components.proofs.Common
use Common.{◌*ℤ◌, ◌^◌, ◌∙◌, ◌≤◌, ap, arith, FitsSigned, product_bound, to_z-of_z, unsigned_abs}
use Common.{w128, w64}
use Rattle.qss_machine.proofs.Loops.{product_is}
use Rattle.qss_components.proofs.function_sums.function_mode_term.Goals as goal

pub returns-clause-value : goal.returns-clause-value
returns-clause-value c =
    let is = c.from.ensures ∙ to_z-of_z w64 c.args.value c.ranges.value in
    let value_fits : FitsSigned w128 c.from.result = record { sfits = c.from.type_inv } in
    let value : unsigned_abs c.from.result ≤ 2 ^ 43 = rw is c.requires.value in
    product_is c.args.mode c.from.result (2 ^ 44) (2 ^ 43) c.ranges.mode value_fits c.requires.mode
    value (omega arith)
    ∙ ap (λ z. c.args.mode *ℤ z) is

pub returns-clause-bound : goal.returns-clause-bound
returns-clause-bound c =
    let is = c.from.ensures ∙ to_z-of_z w64 c.args.value c.ranges.value in
    let value_fits : FitsSigned w128 c.from.result = record { sfits = c.from.type_inv } in
    let value : unsigned_abs c.from.result ≤ 2 ^ 43 = rw is c.requires.value in
    rw (product_is c.args.mode c.from.result (2 ^ 44) (2 ^ 43) c.ranges.mode value_fits
    c.requires.mode value (omega arith))
    (product_bound c.args.mode c.from.result (2 ^ 44) (2 ^ 43) c.requires.mode value)
