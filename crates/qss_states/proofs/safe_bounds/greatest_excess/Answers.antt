-- The product of two sizes within their limits, which shifting makes no greater.
use Rattle.qss_states.proofs.Common
use Common.{ℕ, ℤ, ◌*◌, ◌+◌, ◌^◌, ◌∙◌, ◌≡◌, ◌≤◌, ap₂, arith, FitsSigned, ints, IsWithin, mul-le}
use Common.{of_z, shr_le, to_z, to_z-of_z, unsigned_abs, w64}
use Rattle.std.proofs.Common.{◌/◌}
use Rattle.qss_states.proofs.safe_bounds.greatest_excess.Goals as goal

-- a coefficient as it is read
as_read : (coef : ℤ) → IsWithin 44 coef → to_z w64 (of_z w64 coef) ≡ coef
as_read coef small = let fits : FitsSigned w64 coef = omega (arith, ints, small) in to_z-of_z w64 coef fits

most_within : (size bound : ℕ) → size ≤ 2 ^ 44 → bound ≤ 2 ^ 43 → size * bound ≤ 2 ^ 87
most_within size bound small few = omega (arith, mul-le size bound (2 ^ 44) (2 ^ 43) small few)

pub overflow_mul-most : goal.overflow_mul-most
overflow_mul-most c =
    let coef : ℤ = c.args.product.now.coef in
    let size : c.unsigned_abs.result ≡ unsigned_abs coef = rw (as_read coef c.requires.size_limit) at c.unsigned_abs.ensures.value in
    omega (arith, most_within c.from.result c.from-2.result (omega (arith, c.from.ensures, size, c.requires.size_limit)) (omega (arith, c.from-2.ensures, c.requires.bound)))

pub overflow_add-result : goal.overflow_add-result
overflow_add-result c =
    let coef : ℤ = c.args.product.now.coef in
    let size : c.unsigned_abs.result ≡ unsigned_abs coef = rw (as_read coef c.requires.size_limit) at c.unsigned_abs.ensures.value in
    let most = most_within c.from.result c.from-2.result (omega (arith, c.from.ensures, size, c.requires.size_limit)) (omega (arith, c.from-2.ensures, c.requires.bound)) in
    omega (arith, most, shr_le (c.from.result * c.from-2.result) c.args.level_bits)

pub returns-clause-value : goal.returns-clause-value
returns-clause-value c =
    let coef : ℤ = c.args.product.now.coef in
    let size : c.unsigned_abs.result ≡ unsigned_abs coef = rw (as_read coef c.requires.size_limit) at c.unsigned_abs.ensures.value in
    ap₂ (λ (a b : ℕ). a * b / 2 ^ c.args.level_bits + 1) (c.from.ensures ∙ size) c.from-2.ensures

pub returns-clause-most : goal.returns-clause-most
returns-clause-most c =
    let coef : ℤ = c.args.product.now.coef in
    let size : c.unsigned_abs.result ≡ unsigned_abs coef = rw (as_read coef c.requires.size_limit) at c.unsigned_abs.ensures.value in
    let most = most_within c.from.result c.from-2.result (omega (arith, c.from.ensures, size, c.requires.size_limit)) (omega (arith, c.from-2.ensures, c.requires.bound)) in
    omega (arith, most, shr_le (c.from.result * c.from-2.result) c.args.level_bits)
