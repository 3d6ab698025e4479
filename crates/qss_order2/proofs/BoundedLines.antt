-- A line that is small at both ends is small between them.
use Rattle.qss_order2.proofs.Common
use Common.{ℕ, ℤ, ◌*ℤ◌, ◌*◌, ◌+ℤ◌, ◌+◌, ◌-◌, ◌≡◌, ◌≤ℤ◌, ◌≤◌, abs_of, arith, ints, mul-le-mul_right}
use Common.{negsuc, pos, Some}

pub same_bound : (a b : ℤ) → Some a ≡ Some b → a ≡ b
same_bound a b e = cc

-- fewer steps are a smaller change, in both directions
less_up : (a b w : ℕ) → a ≤ b → (pos 0 ≤ℤ (pos a *ℤ pos w)) × ((pos a *ℤ pos w) ≤ℤ (pos b *ℤ pos w))
less_up a b w le = let more : a * w ≤ b * w = mul-le-mul_right w le in (
  omega (arith, ints, more),
  omega (arith, ints, more),
)

less_down : (a b w : ℕ) → a ≤ b → ((pos a *ℤ negsuc w) ≤ℤ pos 0) × ((pos b *ℤ negsuc w) ≤ℤ
    (pos a *ℤ negsuc w))
less_down a b w le = let more : a * (w + 1) ≤ b * (w + 1) =
    mul-le-mul_right (w + 1) le in (omega (arith, ints, more), omega (arith, ints, more))

between : (x v bound : ℤ) (a b : ℕ) → a ≤ b → abs_of x ≤ℤ bound →
    abs_of (x +ℤ pos b *ℤ v) ≤ℤ bound → abs_of (x +ℤ pos a *ℤ v) ≤ℤ bound
between x (pos w) bound a b le first last = let step = less_up a b w le in omega (
  arith,
  ints,
  step.0,
  step.1,
  first,
  last,
)
between x (negsuc w) bound a b le first last = let step = less_down a b w le in omega (
  arith,
  ints,
  step.0,
  step.1,
  first,
  last,
)

pub bounded_between : (x v bound : ℤ) (since t end : ℕ) → since ≤ t → t ≤ end → abs_of x ≤ℤ bound →
    abs_of (x +ℤ pos (end - since) *ℤ v) ≤ℤ bound → abs_of (x +ℤ pos (t - since) *ℤ v) ≤ℤ bound
bounded_between x v bound since t end low high first last = between x v bound (t - since) (end -
    since)
    (omega (arith, low, high)) first last
