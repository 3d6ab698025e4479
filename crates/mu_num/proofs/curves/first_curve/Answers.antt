-- A curve leaves where its opposite does.
use Rattle.mu_num.proofs.Common.{FitsSigned, to_z-of_z, w128}
use Rattle.mu_num.proofs.CurveLaws.{first_opposite}
use Rattle.mu_num.proofs.curves.first_curve.Goals as goal

pub returns-then-b-lt0 : goal.returns-then-b-lt0
returns-then-b-lt0 c =
    let of_c = c.ranges.c in
    let of_b = c.ranges.b in
    let of_a = c.ranges.a in
    let of_bound = c.ranges.bound in
    let of_start : FitsSigned w128 c.negate_curve_term.result = record { sfits = c.negate_curve_term.type_inv } in
    let of_slope : FitsSigned w128 c.negate_curve_term-then-b-lt0.result = record { sfits = c.negate_curve_term-then-b-lt0.type_inv } in
    let of_bend : FitsSigned w128 c.negate_curve_term-then-b-lt0-2.result = record { sfits = c.negate_curve_term-then-b-lt0-2.type_inv } in
    first_opposite c.args.c c.args.b c.args.a c.negate_curve_term.result c.negate_curve_term-then-b-lt0.result c.negate_curve_term-then-b-lt0-2.result c.args.bound c.args.reach c.find_curve_leaving_step.result
    (simp to_z-of_z at c.negate_curve_term.ensures.value) (simp to_z-of_z at c.negate_curve_term-then-b-lt0.ensures.value) (simp to_z-of_z at c.negate_curve_term-then-b-lt0-2.ensures.value)
    (simp to_z-of_z at c.find_curve_leaving_step.ensures)
