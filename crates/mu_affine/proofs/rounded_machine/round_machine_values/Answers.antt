use Rattle.mu_affine.proofs.Common
use Common.{◌+◌, ◌^◌, ◌∙◌, ◌≤◌, All-push, arith, FitsSigned, FlatVar, ints, is_value, IsWithin}
use Common.{of_z, rounded, Start, subst, sym, to_z, to_z-of_z, unsigned_abs, w64}
use Rattle.mu_affine.proofs.Failing.{fail_turn, pass_turn, checks_done}
use Rattle.mu_affine.proofs.Turns.{map_turn, map_end}
use Rattle.mu_affine.proofs.rounded_machine.round_machine_values.Goals as goal

pub returns-in_default-clause-err : goal.returns-in_default-clause-err
returns-in_default-clause-err c =
    fail_turn (λ (v : FlatVar). is_value c.args.units.f v.start) Start c.args.first c.args.discretes.now c.loop-place.place c.index-discretes-place.result c.loop-place-test.true c.index-discretes-place.is
    c.loop-place.invariant.none (c.args.first + c.loop-place.place) (omega arith) c.in_default.ensures.none

pub loop-place-preserved : goal.loop-place-preserved
loop-place-preserved c =
    let some = c.in-Some.ensures.some in
    let small : unsigned_abs c.in-Some.value ≤ 2 ^ 43 = some.2 in
    let fits : FitsSigned w64 c.in-Some.value = omega (arith, ints) in
    let kept = to_z-of_z w64 c.in-Some.value fits in
    record {
      so_far = c.in_ok-push.ensures.items
          ∙ map_turn (λ (v : FlatVar). rounded c.args.units.f v.start) c.args.discretes.now c.loop-place.place c.index-discretes-place.result c.loop-place.values.items (to_z w64 (of_z w64 c.in-Some.value)) c.loop-place-test.true
          c.index-discretes-place.is c.loop-place.invariant.so_far (kept ∙ some.1);
      small = rw c.in_ok-push.ensures.items
          (All-push (IsWithin 43) c.loop-place.values.items (to_z w64 (of_z w64 c.in-Some.value)) c.loop-place.invariant.small (subst (IsWithin 43) (sym kept) some.2));
      none = pass_turn (λ (v : FlatVar). is_value c.args.units.f v.start) Start c.args.first c.args.discretes.now c.loop-place.place c.index-discretes-place.result c.loop-place-test.true c.index-discretes-place.is
          c.loop-place.invariant.none some.0;
    }

pub returns-clause-values : goal.returns-clause-values
returns-clause-values c = map_end (λ (v : FlatVar). rounded c.args.units.f v.start) c.args.discretes.now c.loop-place.place c.loop-place.values.items c.loop-place-test.false c.loop-place.invariant.so_far

pub returns-clause-ok : goal.returns-clause-ok
returns-clause-ok c = checks_done (λ (v : FlatVar). is_value c.args.units.f v.start) Start c.args.first c.args.discretes.now c.loop-place.place c.loop-place-test.false c.loop-place.invariant.none
