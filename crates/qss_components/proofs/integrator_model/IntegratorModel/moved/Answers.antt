-- The line up to its next transition.
use Rattle.qss_components.proofs.Common
use Common.{◌∙◌, ap, arith, FitsSigned, ints, IsLine, IsWithin, Line, state_at, subst, sym, w128}
use Common.{w64}
use Rattle.qss_components.proofs.Leaving.{timely_small}
use Rattle.qss_components.proofs.Lines.{line_at, line_is}
use Rattle.qss_components.proofs.integrator_model.IntegratorModel.moved.Goals as goal

pub value_at-x-requires-clause-later : goal.value_at-x-requires-clause-later
value_at-x-requires-clause-later g c = c.requires.not_before

pub value_at-x-requires-clause-tick_limit : goal.value_at-x-requires-clause-tick_limit
value_at-x-requires-clause-tick_limit g c = omega (arith, c.requires.in_time)

pub invariant_of-result : goal.invariant_of-result
invariant_of-result g c =
    let i = c.args.self.now in
    let fits : IsLine i.line = subst IsLine c.line.view_is c.line.invariant in
    let small : IsWithin 89 (state_at i.line c.args.tick) =
    timely_small i.machine.value i.var i.line i.known fits c.args.tick c.requires.not_before c.requires.in_time c.requires.not_past in
    let of_x : FitsSigned w128 c.value_at-x.result = record { sfits = c.value_at-x.type_inv } in
    let of_slope : FitsSigned w128 c.line.inside.slope = omega (arith, ints, c.line.invariant.small_slope) in
    let of_level : FitsSigned w64 c.line.inside.level = omega (arith, ints, c.line.invariant.small_level) in
    subst IsLine (sym (line_is c.args.tick c.value_at-x.result c.line.inside.slope c.line.inside.level of_x of_slope of_level)) (record {
      in_time = omega (arith, c.requires.in_time);
      small_state = subst (IsWithin 89) (sym c.value_at-x.ensures) small;
      small_slope = c.line.invariant.small_slope;
      small_level = c.line.invariant.small_level;
    })

pub returns : goal.returns
returns g c =
    let i = c.args.self.now in
    let of_x : FitsSigned w128 c.value_at-x.result = record { sfits = c.value_at-x.type_inv } in
    let of_slope : FitsSigned w128 c.line.inside.slope = omega (arith, ints, c.line.invariant.small_slope) in
    let of_level : FitsSigned w64 c.line.inside.level = omega (arith, ints, c.line.invariant.small_level) in
    line_is c.args.tick c.value_at-x.result c.line.inside.slope c.line.inside.level of_x of_slope of_level
    ∙ ap (line_at c.args.tick c.line.inside.slope c.line.inside.level) c.value_at-x.ensures
    ∙ ap (λ (l : Line). line_at c.args.tick l.slope l.level (state_at i.line c.args.tick)) c.line.view_is
