-- Sums in range and out of range.
use Rattle.cert_propose.proofs.Common
use Common.{ℕ, ℤ, ◌<◌, ◌^◌, ◌≡◌, ◌≤◌, arith, Bool, false, if◌then◌else◌, le-leb, lt-leb, nat_le}
use Common.{None, refl, Some, true, where_in_range}

pub within : (w : ℕ) (z : ℤ) → w ≤ 2 ^ 126 → where_in_range w z ≡ Some z
within w z h = rw (le-leb w (2 ^ 126) h) refl

pub beyond : (w : ℕ) (z : ℤ) → 2 ^ 126 < w → where_in_range w z ≡ None
beyond w z h = rw (lt-leb w (2 ^ 126) h) refl

-- a number in range is small where its weight is at least its size
pub kept : (w : ℕ) (z y : ℤ) → where_in_range w z ≡ Some y → (y ≡ z) × (w ≤ 2 ^ 126)
kept w z y h = by (nat_le w (2 ^ 126)) refl h
  where
    by : (t : Bool) → nat_le w (2 ^ 126) ≡ t → (if t then Some z else None) ≡ Some y → (y ≡ z) × (w ≤ 2 ^ 126)
    by true e k = (cc, grind arith)
    by false e k = absurd (cc)
