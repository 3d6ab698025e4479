use Rattle.mu_affine.proofs.Common
use Common.{◌^◌, ◌∙◌, ◌≤◌, All-push, arith, FitsSigned, FlatVar, ints, is_start, IsWithin, of_z}
use Common.{Start, start_level, subst, sym, to_z, to_z-of_z, unsigned_abs, w64}
use Rattle.mu_affine.proofs.Failing.{fail_turn, pass_turn, checks_done}
use Rattle.mu_affine.proofs.Turns.{map_turn, map_end}
use Rattle.mu_affine.proofs.rounded_machine.round_machine_levels.Goals as goal

pub returns-in_default-clause-err : goal.returns-in_default-clause-err
returns-in_default-clause-err c =
    fail_turn (λ (v : FlatVar). is_start c.args.units.p c.args.units.k c.args.units.f v.start) Start 0 c.args.states.now c.loop-place.place c.index-states-place.result c.loop-place-test.true c.index-states-place.is
    c.loop-place.invariant.none (c.loop-place.place) (omega arith) c.in_default.ensures.none

pub loop-place-preserved : goal.loop-place-preserved
loop-place-preserved c =
    let some = c.in-Some.ensures.some in
    let small : unsigned_abs c.in-Some.level ≤ 2 ^ 43 = some.2 in
    let fits : FitsSigned w64 c.in-Some.level = omega (arith, ints) in
    let kept = to_z-of_z w64 c.in-Some.level fits in
    record {
      so_far = c.in_ok-push.ensures.items
          ∙ map_turn (λ (v : FlatVar). start_level c.args.units.p c.args.units.k c.args.units.f v.start) c.args.states.now c.loop-place.place c.index-states-place.result c.loop-place.levels.items (to_z w64 (of_z w64 c.in-Some.level)) c.loop-place-test.true
          c.index-states-place.is c.loop-place.invariant.so_far (kept ∙ some.1);
      small = rw c.in_ok-push.ensures.items
          (All-push (IsWithin 43) c.loop-place.levels.items (to_z w64 (of_z w64 c.in-Some.level)) c.loop-place.invariant.small (subst (IsWithin 43) (sym kept) some.2));
      none = pass_turn (λ (v : FlatVar). is_start c.args.units.p c.args.units.k c.args.units.f v.start) Start 0 c.args.states.now c.loop-place.place c.index-states-place.result c.loop-place-test.true c.index-states-place.is
          c.loop-place.invariant.none some.0;
    }

pub returns-clause-levels : goal.returns-clause-levels
returns-clause-levels c = map_end (λ (v : FlatVar). start_level c.args.units.p c.args.units.k c.args.units.f v.start) c.args.states.now c.loop-place.place c.loop-place.levels.items c.loop-place-test.false c.loop-place.invariant.so_far

pub returns-clause-ok : goal.returns-clause-ok
returns-clause-ok c = checks_done (λ (v : FlatVar). is_start c.args.units.p c.args.units.k c.args.units.f v.start) Start 0 c.args.states.now c.loop-place.place c.loop-place-test.false c.loop-place.invariant.none
