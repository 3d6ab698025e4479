-- The line at the tick of its next transition.
use Rattle.qss_components.proofs.Common
use Common.{◌∙◌, ap, arith, FitsSigned, ints, IsLine, IsLineNext, IsLineWithinQuantum, IsWithin}
use Common.{level_unit, Line, quantum_of, Some, state_at, subst, sym, w128, w64}
use Rattle.qss_components.proofs.Leaving.{reached, free_near, near_later}
use Rattle.qss_components.proofs.Lines.{line_at, line_cast}
use Rattle.qss_components.proofs.integrator_model.IntegratorModel.taken.Goals as goal

pub value_at-state-requires-clause-later : goal.value_at-state-requires-clause-later
value_at-state-requires-clause-later g c =
    let i = c.args.self.now in
    let fits : IsLine i.line = subst IsLine c.line.view_is c.line.invariant in
    (reached i.machine.value i.var i.line i.known fits c.args.tick c.requires.next).not_before

pub value_at-state-requires-clause-tick_limit : goal.value_at-state-requires-clause-tick_limit
value_at-state-requires-clause-tick_limit g c =
    let i = c.args.self.now in
    let fits : IsLine i.line = subst IsLine c.line.view_is c.line.invariant in
    (reached i.machine.value i.var i.line i.known fits c.args.tick c.requires.next).in_time

pub invariant_of-result : goal.invariant_of-result
invariant_of-result g c =
    let i = c.args.self.now in
    let fits : IsLine i.line = subst IsLine c.line.view_is c.line.invariant in
    let at = reached i.machine.value i.var i.line i.known fits c.args.tick c.requires.next in
    let of_x : FitsSigned w128 c.value_at-state.result = record { sfits = c.value_at-state.type_inv } in
    let of_slope : FitsSigned w128 c.line.inside.slope = omega (arith, ints, c.line.invariant.small_slope) in
    let of_level : FitsSigned w64 c.args.level = omega (arith, ints, c.requires.size_limit) in
    subst IsLine (sym (line_cast c.args.tick c.value_at-state.result c.line.inside.slope c.args.level of_x of_slope of_level c.ranges.level)) (record {
      in_time = at.in_time;
      small_state = subst (IsWithin 89) (sym c.value_at-state.ensures) at.small;
      small_slope = c.line.invariant.small_slope;
      small_level = c.requires.size_limit;
    })

pub returns-clause-taken : goal.returns-clause-taken
returns-clause-taken g c =
    let i = c.args.self.now in
    let of_x : FitsSigned w128 c.value_at-state.result = record { sfits = c.value_at-state.type_inv } in
    let of_slope : FitsSigned w128 c.line.inside.slope = omega (arith, ints, c.line.invariant.small_slope) in
    let of_level : FitsSigned w64 c.args.level = omega (arith, ints, c.requires.size_limit) in
    line_cast c.args.tick c.value_at-state.result c.line.inside.slope c.args.level of_x of_slope of_level c.ranges.level
    ∙ ap (line_at c.args.tick c.line.inside.slope c.args.level) c.value_at-state.ensures
    ∙ ap (λ (l : Line). line_at c.args.tick l.slope c.args.level (state_at i.line c.args.tick)) c.line.view_is

pub returns-clause-later : goal.returns-clause-later
returns-clause-later g c next is =
    let i = c.args.self.now in
    let m = i.machine.value in
    let fits : IsLine i.line = subst IsLine c.line.view_is c.line.invariant in
    let at = reached m i.var i.line i.known fits c.args.tick c.requires.next in
    let near : IsLineWithinQuantum (level_unit m) (state_at i.line c.args.tick) c.args.level (quantum_of m i.var c.args.level) =
    free_near m i.var (state_at i.line c.args.tick) i.line.level c.args.level i.known at.away c.requires.close in
    let line : Line = record { tick = c.args.tick; x = state_at i.line c.args.tick; slope = i.line.slope; level = c.args.level } in
    near_later m i.var line near next (subst (λ (l : Line). IsLineNext m i.var l (Some next)) (returns-clause-taken g c) is)
