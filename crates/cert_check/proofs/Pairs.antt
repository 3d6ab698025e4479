-- The pairs of two different numbers, by their places.
use Rattle.cert_check.proofs.Common
use Common.{ℕ, ◌*◌, ◌+◌, ◌-◌, ◌<◌, ◌∙◌, ◌≡◌, ◌≤◌, ◌⊎◌, add-one, ap, arith, cases_lt, false, inl}
use Common.{inr, le-ltb, lt-ltb, nat_lt, pair_from, pair_of, pairs, refl, suc, true, zero}

pub pair-here : (b n k w : ℕ) → n ≡ suc w → k < w → pair_from b n k ≡ (b, b + 1 + k)
pair-here b n k w e h =
    let t : nat_lt k w ≡ true = lt-ltb k w h in
    rw (e, t) refl

pub pair-later : (b n k w : ℕ) → n ≡ suc w → w ≤ k → pair_from b n k ≡ pair_from (b + 1) w (k - w)
pair-later b n k w e h =
    let t : nat_lt k w ≡ false = le-ltb k w h in
    rw (e, t) refl

pub pairs-later : (n k w : ℕ) → n ≡ suc w → w ≤ k → k < pairs n → k - w < pairs w
pairs-later n k w e h l =
    let l' : k < w + pairs w = rw e at l in
    omega arith

pub pairs-more : (n : ℕ) → pairs (n + 1) ≡ n + pairs n
pairs-more n = rw add-one refl

pub pairs-few : (n : ℕ) → n ≤ 16 → pairs n ≤ 15 * n
pairs-few zero h = omega arith
pairs-few (suc n) h = let t = pairs-few n (omega arith) in omega arith

-- each pair has a place
found-from : (b n i j : ℕ) → b ≤ i → i < j → j < b + n → (k : ℕ) × (k < pairs n) × (pair_from b n k ≡ (i, j))
found-from b zero i j h l m = absurd (omega arith)
found-from b (suc n) i j h l m = by (λ h' m'. found-from (b + 1) n i j h' l m') (cases_lt b i)
  where
    by : (b + 1 ≤ i → j < b + 1 + n → (k : ℕ) × (k < pairs n) × (pair_from (b + 1) n k ≡ (i, j))) → (b < i) ⊎ (i ≤ b)
        → (k : ℕ) × (k < pairs (suc n)) × (pair_from b (suc n) k ≡ (i, j))
    by t (inl d) =
        let r : (k : ℕ) × (k < pairs n) × (pair_from (b + 1) n k ≡ (i, j)) = t (omega arith) (omega arith) in
        let low : r.0 < pairs n = r.1 in
        let e : n + r.0 - n ≡ r.0 = omega arith in
        (n + r.0, omega (arith, low), pair-later b (suc n) (n + r.0) n refl (omega arith) ∙ ap (λ k. pair_from (b + 1) n k) e ∙ r.2)
    by t (inr d) =
        let same : b ≡ i = omega arith in
        let e : b + 1 + (j - (b + 1)) ≡ j = omega arith in
        (j - (b + 1), omega arith, pair-here b (suc n) (j - (b + 1)) n refl (omega arith) ∙ rw (e, same) refl)

pub pair-found : (n i j : ℕ) → i < j → j < n → (k : ℕ) × (k < pairs n) × (pair_of n k ≡ (i, j))
pair-found n i j l m = found-from 0 n i j (omega arith) l (omega arith)

-- both numbers of a pair are among those of which it is
inside-from : (b n k : ℕ) → k < pairs n → ((pair_from b n k).0 < b + n) × ((pair_from b n k).1 < b + n)
inside-from b zero k h = absurd (omega arith)
inside-from b (suc n) k h = by (λ l. inside-from (b + 1) n (k - n) (pairs-later (suc n) k n refl l h)) (cases_lt k n)
  where
    by : (n ≤ k → ((pair_from (b + 1) n (k - n)).0 < b + 1 + n) × ((pair_from (b + 1) n (k - n)).1 < b + 1 + n)) → (k < n) ⊎ (n ≤ k)
        → ((pair_from b (suc n) k).0 < b + suc n) × ((pair_from b (suc n) k).1 < b + suc n)
    by t (inl l) = rw (pair-here b (suc n) k n refl l) (omega arith, omega arith)
    by t (inr l) = let q = t l in rw (pair-later b (suc n) k n refl l) (omega (arith, q.0), omega (arith, q.1))

pub pair-inside : (n k : ℕ) → k < pairs n → ((pair_of n k).0 < n) × ((pair_of n k).1 < n)
pair-inside n k h = let q = inside-from 0 n k h in (omega (arith, q.0), omega (arith, q.1))
