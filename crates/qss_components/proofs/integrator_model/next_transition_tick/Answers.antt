-- Where the state is near its level, the next transition is where it leaves that quantum; else it is here.
use Rattle.qss_components.proofs.Common
use Common.{ℤ, ◌∙◌, ◌≡◌, ap, arith, false, FirstAfter, FitsSigned, int_lt-true, ints}
use Common.{is_within_quantum, IsLine, LeavesAt, Line, MatchBool, of_z, Some, subst, sym, to_z}
use Common.{to_z-of_z, true, w128, w64}
use Rattle.qss_components.proofs.Leaving.{next_one}
use Rattle.qss_components.proofs.integrator_model.next_transition_tick.Goals as goal

pub event_tick_leaving_level-requires-clause-near : goal.event_tick_leaving_level-requires-clause-near
event_tick_leaving_level-requires-clause-near c =
    let of_x : FitsSigned w128 c.line.inside.x = omega (arith, ints, c.line.invariant.small_state) in
    let of_level : FitsSigned w64 c.line.inside.level = omega (arith, ints, c.line.invariant.small_level) in
    let test : c.is_inside_own_quantum.result ≡ is_within_quantum c.args.m.now c.args.var c.line.inside.x c.line.inside.level =
    c.is_inside_own_quantum.ensures
    ∙ ap (λ (x : ℤ). is_within_quantum c.args.m.now c.args.var x (to_z w64 (of_z w64 c.line.inside.level))) (to_z-of_z w128 c.line.inside.x of_x)
    ∙ ap (is_within_quantum c.args.m.now c.args.var c.line.inside.x) (to_z-of_z w64 c.line.inside.level of_level) in
    let near : is_within_quantum c.args.m.now c.args.var c.args.line.now.x c.args.line.now.level ≡ true =
    ap (λ (l : Line). is_within_quantum c.args.m.now c.args.var l.x l.level) (sym c.line.view_is) ∙ sym test ∙ c.if-is_inside_own_quantum.true in
    int_lt-true _ _ near

pub returns-then-is_inside_own_quantum-clause-next : goal.returns-then-is_inside_own_quantum-clause-next
returns-then-is_inside_own_quantum-clause-next c =
    let of_x : FitsSigned w128 c.line.inside.x = omega (arith, ints, c.line.invariant.small_state) in
    let of_level : FitsSigned w64 c.line.inside.level = omega (arith, ints, c.line.invariant.small_level) in
    let test : c.is_inside_own_quantum.result ≡ is_within_quantum c.args.m.now c.args.var c.line.inside.x c.line.inside.level =
    c.is_inside_own_quantum.ensures
    ∙ ap (λ (x : ℤ). is_within_quantum c.args.m.now c.args.var x (to_z w64 (of_z w64 c.line.inside.level))) (to_z-of_z w128 c.line.inside.x of_x)
    ∙ ap (is_within_quantum c.args.m.now c.args.var c.line.inside.x) (to_z-of_z w64 c.line.inside.level of_level) in
    let near : is_within_quantum c.args.m.now c.args.var c.args.line.now.x c.args.line.now.level ≡ true =
    ap (λ (l : Line). is_within_quantum c.args.m.now c.args.var l.x l.level) (sym c.line.view_is) ∙ sym test ∙ c.if-is_inside_own_quantum.true in
    subst (λ b. MatchBool b (FirstAfter (LeavesAt c.args.m.now c.args.var c.args.line.now) c.args.line.now.tick c.event_tick_leaving_level.result) (c.event_tick_leaving_level.result ≡ Some c.args.line.now.tick)) (sym near) c.event_tick_leaving_level.ensures

pub returns-then-is_inside_own_quantum-clause-only : goal.returns-then-is_inside_own_quantum-clause-only
returns-then-is_inside_own_quantum-clause-only c next is =
    let fits : IsLine c.args.line.now = subst IsLine c.line.view_is c.line.invariant in
    next_one c.args.m.now c.args.var c.args.line.now c.requires fits next c.event_tick_leaving_level.result is (returns-then-is_inside_own_quantum-clause-next c)

pub returns-else-is_inside_own_quantum-clause-next : goal.returns-else-is_inside_own_quantum-clause-next
returns-else-is_inside_own_quantum-clause-next c =
    let of_x : FitsSigned w128 c.line.inside.x = omega (arith, ints, c.line.invariant.small_state) in
    let of_level : FitsSigned w64 c.line.inside.level = omega (arith, ints, c.line.invariant.small_level) in
    let test : c.is_inside_own_quantum.result ≡ is_within_quantum c.args.m.now c.args.var c.line.inside.x c.line.inside.level =
    c.is_inside_own_quantum.ensures
    ∙ ap (λ (x : ℤ). is_within_quantum c.args.m.now c.args.var x (to_z w64 (of_z w64 c.line.inside.level))) (to_z-of_z w128 c.line.inside.x of_x)
    ∙ ap (is_within_quantum c.args.m.now c.args.var c.line.inside.x) (to_z-of_z w64 c.line.inside.level of_level) in
    let far : is_within_quantum c.args.m.now c.args.var c.args.line.now.x c.args.line.now.level ≡ false =
    ap (λ (l : Line). is_within_quantum c.args.m.now c.args.var l.x l.level) (sym c.line.view_is) ∙ sym test ∙ c.if-is_inside_own_quantum.false in
    subst (λ b. MatchBool b (FirstAfter (LeavesAt c.args.m.now c.args.var c.args.line.now) c.args.line.now.tick (Some c.line.inside.tick)) (Some c.line.inside.tick ≡ Some c.args.line.now.tick)) (sym far)
    (ap (λ (l : Line). Some l.tick) c.line.view_is)

pub returns-else-is_inside_own_quantum-clause-only : goal.returns-else-is_inside_own_quantum-clause-only
returns-else-is_inside_own_quantum-clause-only c next is =
    let fits : IsLine c.args.line.now = subst IsLine c.line.view_is c.line.invariant in
    next_one c.args.m.now c.args.var c.args.line.now c.requires fits next (Some c.line.inside.tick) is (returns-else-is_inside_own_quantum-clause-next c)
