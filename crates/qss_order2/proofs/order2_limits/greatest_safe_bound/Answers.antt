-- The level that was tried.
use Rattle.qss_order2.proofs.Common
use Common.{◌-◌, ◌^◌, ◌∙◌, ◌≡◌, ◌≤◌, arith, FitsSigned, ints, IsSafeBound, IsWithin, of_z, pos}
use Common.{subst, sym, to_z, to_z-of_z, w128}
use Rattle.std.proofs.Math.Pow.{pow_mono}
use Rattle.qss_order2.proofs.order2_limits.greatest_safe_bound.Goals as goal

pub returns-then-branch : goal.returns-then-branch
returns-then-branch c level same =
    let m = c.args.f.now.machine in
    let b = c.loop-bits.bits - 1 in
    let fits : FitsSigned w128 c.unit.result = record { sfits = c.unit.type_inv } in
    let value : c.unit.result ≡ pos (2 ^ b) = c.unit.ensures in
    let own : to_z w128 (of_z w128 c.unit.result) ≡ level = cc in
    let is : pos (2 ^ b) ≡ level = sym value ∙ sym (to_z-of_z w128 c.unit.result fits) ∙ own in
    let few : b ≤ 49 = omega (arith, c.loop-bits.invariant) in
    let most : 2 ^ b ≤ 2 ^ 49 = pow_mono few in
    let small : IsWithin 49 (pos (2 ^ b)) = omega (arith, ints, most) in
    let bounded : IsSafeBound m (pos (2 ^ b)) = c.in_ok-is_safe_bound.ensures c.if-branch.true in
    (subst (IsWithin 49) is small, subst (IsSafeBound m) is bounded)
