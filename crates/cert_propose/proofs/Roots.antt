-- The root that is found bit by bit.
use Rattle.cert_propose.proofs.Common
use Common.{ℕ, ℤ, ◌*◌, ◌+◌, ◌<◌, ◌^◌, ◌≡◌, ◌≤ℤ◌, ◌≤◌, ◌⊎◌, arith, cases_lt, if◌then◌else◌, inl, inr}
use Common.{ints, le-leb, le-ltb, lt-leb, lt-ltb, nat_le, pos, root_below, root_up_of, suc}
use Common.{unsigned_abs, zero}
use Rattle.std.proofs.Common.{nat_lt}
use Rattle.std.proofs.Math.Nat.{pow-suc, mul-le-mul}
use Rattle.mu_num.specs.Roots.{IsRootUp}

square-≤ : (a b : ℕ) → a ≤ b → a * a ≤ b * b
square-≤ a b h = mul-le-mul h h

-- what the bits find: the greatest number whose square is below v
record IsBelow (v high q : ℕ) : Type 0 where
  less : q * q < v
  next : v ≤ (q + 1) * (q + 1)
  small : q < high

bits : (v k r : ℕ) → r * r < v → v ≤ (r + 2 ^ k) * (r + 2 ^ k) → IsBelow v (r + 2 ^ k) (root_below v k r)
unfolding root_below
bits v zero r low high = record { less = low; next = high; small = omega arith }
bits v (suc k) r low high = by (λ l h. bits v k (r + 2 ^ k) l h) (λ l h. bits v k r l h) (cases_lt ((r + 2 ^ k) * (r + 2 ^ k)) v)
  where
    double : 2 ^ suc k ≡ 2 ^ k + 2 ^ k
    double = omega (arith, pow-suc 2 k)

    twice : r + 2 ^ k + 2 ^ k ≡ r + 2 ^ suc k
    twice = omega (arith, double)

    by : ((r + 2 ^ k) * (r + 2 ^ k) < v → v ≤ (r + 2 ^ k + 2 ^ k) * (r + 2 ^ k + 2 ^ k) → IsBelow v (r + 2 ^ k + 2 ^ k) (root_below v k (r + 2 ^ k)))
        → (r * r < v → v ≤ (r + 2 ^ k) * (r + 2 ^ k) → IsBelow v (r + 2 ^ k) (root_below v k r))
        → ((r + 2 ^ k) * (r + 2 ^ k) < v) ⊎ (v ≤ (r + 2 ^ k) * (r + 2 ^ k))
        → IsBelow v (r + 2 ^ suc k) (root_below v k (if nat_lt ((r + 2 ^ k) * (r + 2 ^ k)) v then r + 2 ^ k else r))
    by more less (inl h) =
        let high' : v ≤ (r + 2 ^ k + 2 ^ k) * (r + 2 ^ k + 2 ^ k) = rw twice high in
        let found = more h high' in
        rw (lt-ltb ((r + 2 ^ k) * (r + 2 ^ k)) v h) (rw (← twice) found)
    by more less (inr h) =
        let found = less low h in
        rw (le-ltb ((r + 2 ^ k) * (r + 2 ^ k)) v h) (record { less = found.less; next = found.next; small = omega (arith, found.small, double) })

-- the root is the least number whose square is at least v
up : (v : ℕ) → v ≤ 2 ^ 126 → IsRootUp v (if nat_le v 0 then 0 else root_below v 64 0 + 1) × ((if nat_le v 0 then 0 else root_below v 64 0 + 1) ≤ 2 ^ 64)
up v h = by (cases_lt 0 v)
  where
    by : (0 < v) ⊎ (v ≤ 0) → IsRootUp v (if nat_le v 0 then 0 else root_below v 64 0 + 1) × ((if nat_le v 0 then 0 else root_below v 64 0 + 1) ≤ 2 ^ 64)
    by (inr none) = rw (le-leb v 0 none) (record { at_least = omega arith; least = λ m l. absurd (omega arith) }, omega arith)
    by (inl some) =
        let found = bits v 64 0 (omega arith) (omega arith) in
        rw (lt-leb v 0 some) (
          record {
            at_least = found.next;
            least = λ m l. let s = square-≤ m (root_below v 64 0) (omega arith) in omega (arith, found.less);
          },
          omega (arith, found.small),
        )

pub root-up : (v : ℤ) → v ≤ℤ pos (2 ^ 126) → pos 0 ≤ℤ v → IsRootUp (unsigned_abs v) (unsigned_abs (root_up_of v))
root-up v h k = (up (unsigned_abs v) (omega (arith, ints))).0

pub root-small : (v : ℤ) → v ≤ℤ pos (2 ^ 126) → pos 0 ≤ℤ v → unsigned_abs (root_up_of v) ≤ 2 ^ 64
root-small v h k = (up (unsigned_abs v) (omega (arith, ints))).1

-- there is one root
pub one-root : (v a b : ℕ) → IsRootUp v a → IsRootUp v b → a ≡ b
one-root v a b p q = by (cases_lt a b) (cases_lt b a)
  where
    by : (a < b) ⊎ (b ≤ a) → (b < a) ⊎ (a ≤ b) → a ≡ b
    by (inl l) k = absurd (omega (arith, q.least a l, p.at_least))
    by (inr l) (inl k) = absurd (omega (arith, p.least b k, q.at_least))
    by (inr l) (inr k) = omega arith

pub root-is : (v r : ℤ) → v ≤ℤ pos (2 ^ 126) → pos 0 ≤ℤ v → pos 0 ≤ℤ r → IsRootUp (unsigned_abs v) (unsigned_abs r) → r ≡ root_up_of v
root-is v r high low r≥ h = same r (unsigned_abs (root_up_of v)) r≥ (one-root (unsigned_abs v) (unsigned_abs r) (unsigned_abs (root_up_of v)) h (root-up v high low))
  where
    same : (r : ℤ) (n : ℕ) → pos 0 ≤ℤ r → unsigned_abs r ≡ n → r ≡ pos n
    same r n h e = omega (arith, ints)
