-- A product is past a limit where one factor is past the limit's quotient by the other.
use Rattle.qss_order2.proofs.Common
use Common.{ℕ, ℤ, ◌*ℤ◌, ◌*◌, ◌+◌, ◌<◌, ◌^◌, ◌∙◌, ◌≡◌, ◌≤◌, arith, exceeds, mul-le-mul_left}
use Common.{nat_tests, to_z-of_z, true, unsigned_abs, unsigned_abs-mul}
use Rattle.std.proofs.Common.{◌/◌}
use Rattle.qss_order2.proofs.order2_rises.rise_size_within.Goals as goal

past_product : (limit f v : ℕ) → 0 < f → limit / f < v → limit < f * v
past_product limit f v some past =
    let above : limit / f + 1 ≤ v = omega arith in
    omega (arith, mul-le-mul_left f above)

passes_product : (a b : ℤ) (f v : ℕ) → f ≡ unsigned_abs a → v ≡ unsigned_abs b → 0 < f →
    2 ^ 94 / f < v → exceeds 94 (a *ℤ b) ≡ true
passes_product a b f v of_a of_b some past =
    let product : unsigned_abs (a *ℤ b) ≡ f * v = rw (unsigned_abs-mul, of_a, of_b) in
    let far : 2 ^ 94 < unsigned_abs (a *ℤ b) = omega (
      arith,
      past_product (2 ^ 94) f v some past,
      product,
    ) in
    grind (arith, nat_tests)

pub returns-then-change-factor : goal.returns-then-change-factor
returns-then-change-factor c =
    let of_coef = c.ranges.coef in
    let of_change = c.ranges.change in
    let of_factor : c.unsigned_abs.result ≡ unsigned_abs c.args.coef =
    simp to_z-of_z at c.unsigned_abs.ensures.value in
    let of_size : c.unsigned_abs-change.result ≡ unsigned_abs c.args.change =
    simp to_z-of_z at c.unsigned_abs-change.ensures.value in
    let some : 0 < c.from-factor.result = omega arith in
    passes_product c.args.coef c.args.change c.from-factor.result c.unsigned_abs-change.result
    (c.from-factor.ensures ∙ of_factor) of_size some c.if-change-factor.true
