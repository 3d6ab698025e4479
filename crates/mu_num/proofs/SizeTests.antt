-- What follows from the size test.
use Rattle.mu_num.proofs.Common
use Common.{ℕ, ℤ, ◌<ℤ◌, ◌^◌, ◌≡◌, ◌≤ℤ◌, arith, false, int_lt, ints, nat_tests, neg_ℤ, pos, true}
use Rattle.mu_num.specs.Sizes.{IsWithin, exceeds}

-- what does not pass is within
pub passes-within : (bits : ℕ) (z : ℤ) → exceeds bits z ≡ false → IsWithin bits z
passes-within bits z e = grind (arith, nat_tests)

-- what is within does not pass
pub within-passes : (bits : ℕ) (z : ℤ) → IsWithin bits z → exceeds bits z ≡ false
within-passes bits z h = grind (arith, nat_tests)

-- what is above the greatest number within passes
pub above-passes : (bits : ℕ) (z : ℤ) → pos (2 ^ bits) <ℤ z → exceeds bits z ≡ true
above-passes bits z h = grind (arith, ints, nat_tests)

-- one that is not above it passes where it is below the least
pub below-passes : (bits : ℕ) (z least : ℤ) → least ≡ neg_ℤ (pos (2 ^ bits)) → z ≤ℤ pos (2 ^ bits) → int_lt z least ≡ exceeds bits z
below-passes bits z least e high = grind (arith, ints, nat_tests)
