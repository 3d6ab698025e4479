-- If the line leaves its quantum, the next level is allowed by the rule.
use Rattle.qss_components.proofs.Common
use Common.{◌∙◌, ap, arith, FitsSigned, ints, IsAllowedLevel, IsLine, IsNextLevel, IsWithin, Line}
use Common.{of_z, state_at, subst, sym, to_z, to_z-of_z, w128, w64}
use Rattle.qss_components.proofs.Leaving.{reached, answer_at}
use Rattle.qss_components.proofs.integrator_model.level_on_leaving.Goals as goal

pub value_at-x-requires-clause-later : goal.value_at-x-requires-clause-later
value_at-x-requires-clause-later g c =
    let fits : IsLine c.args.line.now = subst IsLine c.line.view_is c.line.invariant in
    (reached c.args.m.now c.args.var c.args.line.now c.requires.known fits c.args.tick c.requires.next).not_before

pub value_at-x-requires-clause-tick_limit : goal.value_at-x-requires-clause-tick_limit
value_at-x-requires-clause-tick_limit g c =
    let fits : IsLine c.args.line.now = subst IsLine c.line.view_is c.line.invariant in
    (reached c.args.m.now c.args.var c.args.line.now c.requires.known fits c.args.tick c.requires.next).in_time

pub requantize_level-requires-clause-small_state : goal.requantize_level-requires-clause-small_state
requantize_level-requires-clause-small_state g c =
    let fits : IsLine c.args.line.now = subst IsLine c.line.view_is c.line.invariant in
    let at = reached c.args.m.now c.args.var c.args.line.now c.requires.known fits c.args.tick c.requires.next in
    let x : FitsSigned w128 c.value_at-x.result = record { sfits = c.value_at-x.type_inv } in
    rw (to_z-of_z w128 c.value_at-x.result x) (subst (IsWithin 89) (sym c.value_at-x.ensures) at.small)

pub returns-clause-allowed : goal.returns-clause-allowed
returns-clause-allowed g c =
    let m = c.args.m.now in
    let line : Line = c.args.line.now in
    let fits : IsLine c.args.line.now = subst IsLine c.line.view_is c.line.invariant in
    let at = reached c.args.m.now c.args.var c.args.line.now c.requires.known fits c.args.tick c.requires.next in
    let x : FitsSigned w128 c.value_at-x.result = record { sfits = c.value_at-x.type_inv } in
    let level : FitsSigned w64 c.line.inside.level = omega (arith, ints, c.line.invariant.small_level) in
    let answer : FitsSigned w128 c.requantize_level.result = record { sfits = c.requantize_level.type_inv } in
    let next : IsNextLevel (IsAllowedLevel c.args.q.now.name) m c.args.var (state_at c.args.line.now c.args.tick) c.args.line.now.level c.requantize_level.result =
    subst (λ z. IsNextLevel (IsAllowedLevel c.args.q.now.name) m c.args.var z c.args.line.now.level c.requantize_level.result) (to_z-of_z w128 c.value_at-x.result x ∙ c.value_at-x.ensures)
    (subst (λ old. IsNextLevel (IsAllowedLevel c.args.q.now.name) m c.args.var (to_z w128 (of_z w128 c.value_at-x.result)) old c.requantize_level.result) (to_z-of_z w64 c.line.inside.level level ∙ ap (λ (l : Line). l.level) c.line.view_is) c.requantize_level.ensures.next) in
    rw (to_z-of_z w128 c.requantize_level.result answer) (answer_at c.args.q.now.name m c.args.var (state_at c.args.line.now c.args.tick) c.args.line.now.level c.requantize_level.result at.away next)

pub returns-clause-ruled : goal.returns-clause-ruled
returns-clause-ruled g c =
    let fits : IsLine c.args.line.now = subst IsLine c.line.view_is c.line.invariant in
    let at = reached c.args.m.now c.args.var c.args.line.now c.requires.known fits c.args.tick c.requires.next in
    let x : FitsSigned w128 c.value_at-x.result = record { sfits = c.value_at-x.type_inv } in
    let level : FitsSigned w64 c.line.inside.level = omega (arith, ints, c.line.invariant.small_level) in
    let unit : FitsSigned w128 c.level_unit.result = record { sfits = c.level_unit.type_inv } in
    let answer : FitsSigned w128 c.requantize_level.result = record { sfits = c.requantize_level.type_inv } in
    let ruled = simp to_z-of_z at c.requantize_level.ensures.ruled in
    let here = rw (c.value_at-x.ensures, ap (λ (l : Line). l.level) c.line.view_is, c.level_unit.ensures) at ruled in
    rw (to_z-of_z w128 c.requantize_level.result answer) (here at.away)
