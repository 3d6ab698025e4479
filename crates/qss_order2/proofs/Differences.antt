-- Differences of numbers that fit in 128 bits.
use Rattle.qss_order2.proofs.Common
use Common.{ℕ, ℤ, ◌+◌, ◌-ℤ◌, ◌<◌, ◌^◌, ◌≡◌, ◌≤◌, arith, fits_below, FitsSigned, ints, of_z, to_z}
use Common.{to_z-of_z, w128}
use Rattle.std.specs.Int.RustNames.{unsigned_abs}

-- two numbers, by bounds of their sizes
module _ (a b : ℤ) (m n : ℕ) (fits_a : FitsSigned w128 a) (fits_b : FitsSigned w128 b)
    (first : unsigned_abs a ≤ m) (second : unsigned_abs b ≤ n) (room : m + n < 2 ^ 127) where
  difference_bound : unsigned_abs (a -ℤ b) ≤ m + n
  difference_bound = omega (arith, ints)

  pub difference_fits : FitsSigned w128 (to_z w128 (of_z w128 a) -ℤ to_z w128 (of_z w128 b))
  difference_fits = rw (to_z-of_z w128 a fits_a, to_z-of_z w128 b fits_b) (fits_below (a -ℤ b)
      (omega (arith, difference_bound)))

  pub difference_is : to_z w128 (of_z w128 (to_z w128 (of_z w128 a) -ℤ to_z w128 (of_z w128 b)))
      ≡ a -ℤ b
  difference_is = rw (to_z-of_z w128 a fits_a, to_z-of_z w128 b fits_b) (to_z-of_z w128 (a -ℤ b)
      (fits_below (a -ℤ b) (omega (arith, difference_bound))))

  pub difference_within : unsigned_abs (to_z w128 (of_z w128 (to_z w128 (of_z w128 a) -ℤ to_z w128
      (of_z w128 b)))) ≤ m + n
  difference_within = rw difference_is difference_bound
