-- Only the state is another.
use Rattle.qss_components.proofs.Common
use Common.{◌∙◌, ap, arith, FitsSigned, ints, IsLine, Line, subst, sym, w128, w64}
use Rattle.qss_components.proofs.Lines.{line_at, line_is}
use Rattle.qss_components.proofs.integrator_model.line_with_state.Goals as goal

pub invariant_of-result : goal.invariant_of-result
invariant_of-result c =
    let line = c.line.inside in
    let of_slope : FitsSigned w128 line.slope = omega (arith, ints, c.line.invariant.small_slope) in
    let of_level : FitsSigned w64 line.level = omega (arith, ints, c.line.invariant.small_level) in
    subst IsLine (sym (line_is line.tick c.args.state line.slope line.level c.ranges.state of_slope of_level))
    (record { in_time = c.line.invariant.in_time; small_state = omega (arith, c.requires); small_slope = c.line.invariant.small_slope; small_level = c.line.invariant.small_level })

pub returns : goal.returns
returns c =
    let line = c.line.inside in
    let of_slope : FitsSigned w128 line.slope = omega (arith, ints, c.line.invariant.small_slope) in
    let of_level : FitsSigned w64 line.level = omega (arith, ints, c.line.invariant.small_level) in
    line_is line.tick c.args.state line.slope line.level c.ranges.state of_slope of_level ∙ ap (λ (l : Line). line_at l.tick l.slope l.level c.args.state) c.line.view_is
