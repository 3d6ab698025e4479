-- The line begins at tick 0.
use Rattle.qss_devs.proofs.Common
use Common.{◌∙◌, ◌≡◌, ap, arith, first_line, int_at, ints, length, start_values, subst, sym, Values}
use Common.{w128, w64}
use mir.Val.{of_z, to_z}
use Rattle.qss_quant.specs.IntegratorLines.{IsLine}
use Rattle.qss_components.proofs.Lines.{line_at, line_is}
use Rattle.qss_devs.proofs.Begun.{start_each, state_small, slope_small, level_small}
use Rattle.qss_devs.proofs.coupled_start.start_coupled_line.Goals.{After-level-level}
use Rattle.qss_devs.proofs.coupled_start.start_coupled_line.Goals as goal

pub state-x-requires : goal.state-x-requires
state-x-requires c = omega (arith, c.requires.known, ap (λ (v : Values). length v.states) c.requires.values, (start_each c.args.m.now).states)

pub slope-slope-requires : goal.slope-slope-requires
slope-slope-requires c = omega (arith, c.requires.known, ap (λ (v : Values). length v.slopes) c.requires.values, (start_each c.args.m.now).slopes)

pub level-level-requires : goal.level-level-requires
level-level-requires c = omega (arith, c.requires.known, ap (λ (v : Values). length v.levels) c.requires.values, (start_each c.args.m.now).levels)

-- the line, after its numbers went through their types
first : (c : After-level-level) →
    line_at 0 (to_z w128 (of_z w128 c.slope-slope.result)) (to_z w64 (of_z w64 c.level-level.result))
    (to_z w128 (of_z w128 c.state-x.result)) ≡ first_line (start_values c.args.m.now) c.args.j
first c =
    let x = c.state-x.ensures ∙ ap (λ (v : Values). int_at v.states c.args.j) c.requires.values in
    let slope = c.slope-slope.ensures ∙ ap (λ (v : Values). int_at v.slopes c.args.j) c.requires.values in
    let level = c.level-level.ensures ∙ ap (λ (v : Values). int_at v.levels c.args.j) c.requires.values in
    line_is 0 c.state-x.result c.slope-slope.result c.level-level.result (record { sfits = c.state-x.type_inv }) (record { sfits = c.slope-slope.type_inv })
    (record { sfits = c.level-level.type_inv }) ∙ rw (x, slope, level)

pub invariant_of-result : goal.invariant_of-result
invariant_of-result c =
    let m = c.args.m.now in
    let known = c.requires.known in
    let small_x = state_small m c.args.j known in
    subst IsLine (sym (first (goal.at.invariant_of-result c).After-level-level)) (record {
      in_time = omega arith;
      small_state = omega (arith, ints, small_x);
      small_slope = slope_small m c.args.j known;
      small_level = level_small m c.args.j known;
    })

pub returns : goal.returns
returns c = first (goal.at.returns c).After-level-level
