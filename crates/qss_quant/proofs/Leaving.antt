-- When a number that moves along a line leaves the numbers below a limit in absolute value.
use Rattle.qss_quant.proofs.Common
use Common.{ℕ, ℤ, ◌*ℤ◌, ◌+ℤ◌, ◌-ℤ◌, ◌<ℤ◌, ◌∙◌, ◌≡◌, ◌≤ℤ◌, arith, first_after-same, FirstAfter, ints}
use Common.{Option, pos, subst, sym, unsigned_abs}
use Rattle.std.proofs.Common.{neg_ℤ, ap}
use Rattle.mu_num.proofs.Integers.{mul-neg, mul-nonneg, mul-nonpos}

up_to : (gap p limit : ℤ) → (limit -ℤ gap) ≤ℤ p → limit ≤ℤ pos (unsigned_abs (gap +ℤ p))
up_to gap p limit h = omega (arith, ints)

up_back : (gap p limit : ℤ) → pos 0 ≤ℤ p → pos (unsigned_abs gap) <ℤ limit → limit ≤ℤ pos (unsigned_abs (gap +ℤ p)) → (limit -ℤ gap) ≤ℤ p
up_back gap p limit rises inside out = omega (arith, ints)

down_to : (gap p limit : ℤ) → (limit +ℤ gap) ≤ℤ neg_ℤ p → limit ≤ℤ pos (unsigned_abs (gap +ℤ p))
down_to gap p limit h = omega (arith, ints)

down_back : (gap p limit : ℤ) → p ≤ℤ pos 0 → pos (unsigned_abs gap) <ℤ limit → limit ≤ℤ pos (unsigned_abs (gap +ℤ p)) → (limit +ℤ gap) ≤ℤ neg_ℤ p
down_back gap p limit falls inside out = omega (arith, ints)

-- a number that does not fall leaves at its upper limit
pub leaves_above : (gap speed limit : ℤ) (found : Option ℕ) → pos 0 ≤ℤ speed → pos (unsigned_abs gap) <ℤ limit →
    FirstAfter (λ n. (limit -ℤ gap) ≤ℤ (pos n *ℤ speed)) 0 found → FirstAfter (λ n. limit ≤ℤ pos (unsigned_abs (gap +ℤ pos n *ℤ speed))) 0 found
leaves_above gap speed limit found rises inside h =
    first_after-same _ _ 0 found
    (λ n later p. up_to gap (pos n *ℤ speed) limit p)
    (λ n later q. up_back gap (pos n *ℤ speed) limit (mul-nonneg n speed rises) inside q)
    h

-- a number that falls leaves at its lower limit
pub leaves_below : (gap speed back limit : ℤ) (found : Option ℕ) → back ≡ neg_ℤ speed → speed ≤ℤ pos 0 → pos (unsigned_abs gap) <ℤ limit →
    FirstAfter (λ n. (limit +ℤ gap) ≤ℤ (pos n *ℤ back)) 0 found → FirstAfter (λ n. limit ≤ℤ pos (unsigned_abs (gap +ℤ pos n *ℤ speed))) 0 found
leaves_below gap speed back limit found opposite falls inside h =
    first_after-same _ _ 0 found
    (λ n later p. down_to gap (pos n *ℤ speed) limit (subst (λ z. (limit +ℤ gap) ≤ℤ z) (same n) p))
    (λ n later q. subst (λ z. (limit +ℤ gap) ≤ℤ z) (sym (same n)) (down_back gap (pos n *ℤ speed) limit (mul-nonpos n speed falls) inside q))
    h
  where
    same : (n : ℕ) → pos n *ℤ back ≡ neg_ℤ (pos n *ℤ speed)
    same n = ap (λ z. pos n *ℤ z) opposite ∙ mul-neg (pos n) speed
