-- A sum of sizes is at least each of them.
use Rattle.qss_order2.proofs.Common
use Common.{[], ℕ, ℤ, ◌<◌, ◌∷◌, ◌≤ℤ◌, abs_of, arith, Entry, get_or, ints, length, List, pos, suc}
use Common.{sum_over, zero}

module _ (f : Entry → ℤ) (from_zero : (e : Entry) → pos 0 ≤ℤ f e) where
  pub sum_from_zero : (xs : List Entry) → pos 0 ≤ℤ sum_over f xs
  sum_from_zero [] = omega (arith, ints)
  sum_from_zero (x ∷ xs) = omega (arith, ints, from_zero x, sum_from_zero xs)

  pub term_below : (xs : List Entry) (i : ℕ) (d : Entry) → i < length xs →
      f (get_or xs i d) ≤ℤ sum_over f xs
  term_below [] i d h = absurd (omega arith)
  term_below (x ∷ xs) zero d h = omega (arith, ints, sum_from_zero xs)
  term_below (x ∷ xs) (suc i) d h = omega (
    arith,
    ints,
    from_zero x,
    term_below xs i d (omega arith),
  )

pub size_from_zero : (z : ℤ) → pos 0 ≤ℤ abs_of z
size_from_zero z = omega (arith, ints)
