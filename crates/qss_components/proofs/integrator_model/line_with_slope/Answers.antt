-- Only the slope is another.
use Rattle.qss_components.proofs.Common
use Common.{◌∙◌, ap, arith, FitsSigned, ints, IsLine, Line, subst, sym, w128, w64}
use Rattle.qss_components.proofs.Lines.{line_at, line_is}
use Rattle.qss_components.proofs.integrator_model.line_with_slope.Goals as goal

pub invariant_of-result : goal.invariant_of-result
invariant_of-result c =
    let line = c.line.inside in
    let of_x : FitsSigned w128 line.x = omega (arith, ints, c.line.invariant.small_state) in
    let of_level : FitsSigned w64 line.level = omega (arith, ints, c.line.invariant.small_level) in
    subst IsLine (sym (line_is line.tick line.x c.args.slope line.level of_x c.ranges.slope of_level))
    (record { in_time = c.line.invariant.in_time; small_state = c.line.invariant.small_state; small_slope = c.requires; small_level = c.line.invariant.small_level })

pub returns : goal.returns
returns c =
    let line = c.line.inside in
    let of_x : FitsSigned w128 line.x = omega (arith, ints, c.line.invariant.small_state) in
    let of_level : FitsSigned w64 line.level = omega (arith, ints, c.line.invariant.small_level) in
    line_is line.tick line.x c.args.slope line.level of_x c.ranges.slope of_level ∙ ap (λ (l : Line). line_at l.tick c.args.slope l.level l.x) c.line.view_is
