use Rattle.qss_order2.proofs.Common
use Common.{◌*ℤ◌, ◌-ℤ◌, ◌^◌, ◌∙◌, ◌≡◌, ap, arith, FitsSigned, to_z-of_z, w128}
use Rattle.qss_order2.proofs.Differences.{difference_fits, difference_is, difference_within}
use Rattle.qss_order2.proofs.order2_leaving.leaving_gap_of.Goals as goal

pub overflow_sub-result : goal.overflow_sub-result
overflow_sub-result c =
    let scaled : FitsSigned w128 c.scale_leaving_level.result = record { sfits = c.scale_leaving_level.type_inv } in
    difference_fits c.args.x c.scale_leaving_level.result (2 ^ 94) (2 ^ 93) c.ranges.x scaled
    c.requires.state
    c.scale_leaving_level.ensures.bound (omega arith)

pub returns-clause-value : goal.returns-clause-value
returns-clause-value c =
    let level = c.ranges.level in
    let unit = c.ranges.unit in
    let scaled : FitsSigned w128 c.scale_leaving_level.result = record { sfits = c.scale_leaving_level.type_inv } in
    let is : c.scale_leaving_level.result ≡ c.args.unit *ℤ c.args.level =
    simp to_z-of_z at c.scale_leaving_level.ensures.value in
    difference_is c.args.x c.scale_leaving_level.result (2 ^ 94) (2 ^ 93) c.ranges.x scaled
    c.requires.state
    c.scale_leaving_level.ensures.bound (omega arith)
    ∙ ap (λ z. c.args.x -ℤ z) is

pub returns-clause-bound : goal.returns-clause-bound
returns-clause-bound c =
    let scaled : FitsSigned w128 c.scale_leaving_level.result = record { sfits = c.scale_leaving_level.type_inv } in
    omega (
      arith,
      difference_within c.args.x c.scale_leaving_level.result (2 ^ 94) (2 ^ 93) c.ranges.x scaled
          c.requires.state c.scale_leaving_level.ensures.bound (omega arith),
    )
