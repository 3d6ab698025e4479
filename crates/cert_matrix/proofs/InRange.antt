-- A product that is added to a sum in range, or taken from it.
use Rattle.cert_matrix.proofs.Common
use Common.{ℕ, ℤ, ◌*ℤ◌, ◌*◌, ◌+ℤ◌, ◌+◌, ◌-ℤ◌, ◌^◌, ◌∙◌, ◌≡◌, ◌≤◌, ap₂, arith, FitsSigned, ints, sym}
use Common.{unsigned_abs}
use Rattle.std.proofs.lemmas.Int.{to_z-of_z, fits_signed_from_abs, unsigned_abs-mul}
use mir.Syntax.{w128}
use mir.Val.{to_z, of_z}

-- the sizes of the factors are m and n, and that of their product is in range
module _ (total a b : ℤ) (weight m n abs_of : ℕ) (fits_a : FitsSigned w128 a) (fits_b : FitsSigned w128 b)
    (within : unsigned_abs total ≤ weight) (first : m ≡ unsigned_abs (to_z w128 (of_z w128 a))) (second : n ≡ unsigned_abs (to_z w128 (of_z w128 b)))
    (is : abs_of ≡ m * n) (room : weight + abs_of ≤ 2 ^ 126) where
  total_fits : FitsSigned w128 total
  total_fits = fits_signed_from_abs w128 total (omega arith)

  size_is : unsigned_abs (a *ℤ b) ≡ abs_of
  size_is =
      unsigned_abs-mul a b
      ∙ sym (is ∙ ap₂ (λ x y. x * y) (rw (to_z-of_z w128 a fits_a) at first) (rw (to_z-of_z w128 b fits_b) at second))

  fits : FitsSigned w128 (a *ℤ b)
  fits = fits_signed_from_abs w128 (a *ℤ b) (omega (arith, size_is))

  sum_size : unsigned_abs (total +ℤ a *ℤ b) ≤ weight + abs_of
  sum_size = omega (arith, ints, size_is)

  difference_size : unsigned_abs (total -ℤ a *ℤ b) ≤ weight + abs_of
  difference_size = omega (arith, ints, size_is)

  pub product_fits : FitsSigned w128 (to_z w128 (of_z w128 a) *ℤ to_z w128 (of_z w128 b))
  product_fits = rw (to_z-of_z w128 a fits_a, to_z-of_z w128 b fits_b) fits

  abbrev as_computed : ℤ
  as_computed = to_z w128 (of_z w128 (to_z w128 (of_z w128 a) *ℤ to_z w128 (of_z w128 b)))

  pub sum_fits : FitsSigned w128 (to_z w128 (of_z w128 total) +ℤ as_computed)
  sum_fits =
      rw (to_z-of_z w128 total total_fits, to_z-of_z w128 a fits_a, to_z-of_z w128 b fits_b, to_z-of_z w128 (a *ℤ b) fits)
      (fits_signed_from_abs w128 (total +ℤ a *ℤ b) (omega (arith, sum_size)))

  pub sum_is : to_z w128 (of_z w128 (to_z w128 (of_z w128 total) +ℤ as_computed)) ≡ total +ℤ a *ℤ b
  sum_is =
      rw (to_z-of_z w128 total total_fits, to_z-of_z w128 a fits_a, to_z-of_z w128 b fits_b, to_z-of_z w128 (a *ℤ b) fits)
      (to_z-of_z w128 (total +ℤ a *ℤ b) (fits_signed_from_abs w128 (total +ℤ a *ℤ b) (omega (arith, sum_size))))

  pub sum_within : unsigned_abs (to_z w128 (of_z w128 (to_z w128 (of_z w128 total) +ℤ as_computed))) ≤ weight + abs_of
  sum_within = rw sum_is sum_size

  pub difference_fits : FitsSigned w128 (to_z w128 (of_z w128 total) -ℤ as_computed)
  difference_fits =
      rw (to_z-of_z w128 total total_fits, to_z-of_z w128 a fits_a, to_z-of_z w128 b fits_b, to_z-of_z w128 (a *ℤ b) fits)
      (fits_signed_from_abs w128 (total -ℤ a *ℤ b) (omega (arith, difference_size)))

  pub difference_is : to_z w128 (of_z w128 (to_z w128 (of_z w128 total) -ℤ as_computed)) ≡ total -ℤ a *ℤ b
  difference_is =
      rw (to_z-of_z w128 total total_fits, to_z-of_z w128 a fits_a, to_z-of_z w128 b fits_b, to_z-of_z w128 (a *ℤ b) fits)
      (to_z-of_z w128 (total -ℤ a *ℤ b) (fits_signed_from_abs w128 (total -ℤ a *ℤ b) (omega (arith, difference_size))))

  pub difference_within : unsigned_abs (to_z w128 (of_z w128 (to_z w128 (of_z w128 total) -ℤ as_computed))) ≤ weight + abs_of
  difference_within = rw difference_is difference_size
