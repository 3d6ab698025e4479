-- Sums over lists and indices.
use Rattle.mu_num.proofs.Common
use Common.{[], ℕ, ℤ, ◌++◌, ◌+ℤ◌, ◌+◌, ◌-ℤ◌, ◌<◌, ◌∙◌, ◌∷◌, ◌≡◌, ◌≢◌, ◌≤ℤ◌, ap, arith, get_or, inl}
use Common.{inr, ints, length, List, pos, refl, suc, sym, take, take_more, zero}
use Rattle.std.proofs.Common.{add-zero, add-suc}
use Rattle.std.proofs.lemmas.Bool.Decides.{eqb_tells}
use Rattle.mu_num.specs.IndexedSums.{sum_over, sum_below}

-- ---- over a list

sum_over-push : {X : Type 0} (f : X → ℤ) (xs : List X) (x : X) → sum_over f (xs ++ x ∷ []) ≡ sum_over f xs +ℤ f x
sum_over-push f [] x = omega (arith, ints)
sum_over-push f (y ∷ ys) x = omega (arith, ints, sum_over-push f ys x)

-- one more element
pub sum_over_more : {X : Type 0} (f : X → ℤ) (xs : List X) (i : ℕ) (d : X) → i < length xs →
    sum_over f (take (i + 1) xs) ≡ sum_over f (take i xs) +ℤ f (get_or xs i d)
sum_over_more f xs i d h = ap (sum_over f) (take_more xs i d h) ∙ sum_over-push f (take i xs) (get_or xs i d)

-- ---- over an index

pub sum_below-add : (n : ℕ) (f g : ℕ → ℤ) → sum_below n (λ i. f i +ℤ g i) ≡ sum_below n f +ℤ sum_below n g
sum_below-add zero f g = refl
sum_below-add (suc n) f g = omega (arith, ints, sum_below-add n f g)

pub sum_below-same : (n : ℕ) (f g : ℕ → ℤ) → ((i : ℕ) → i < n → f i ≡ g i) → sum_below n f ≡ sum_below n g
sum_below-same zero f g h = refl
sum_below-same (suc n) f g h = omega (arith, ints, sum_below-same n f g (λ i k. h i (omega arith)), h n (omega arith))

pub sum_below-zero : (n : ℕ) → sum_below n (λ i. pos 0) ≡ pos 0
sum_below-zero zero = refl
sum_below-zero (suc n) = omega (arith, ints, sum_below-zero n)

-- the first n, and the k after them
pub sum_below-split : (n k : ℕ) (f : ℕ → ℤ) → sum_below (n + k) f ≡ sum_below n f +ℤ sum_below k (λ i. f (n + i))
sum_below-split n zero f = rw add-zero (omega (arith, ints))
sum_below-split n (suc k) f = rw add-suc (omega (arith, ints, sum_below-split n k f))

-- a sum of terms of which each is at most another one's
pub sum_below-le : (n : ℕ) (f g : ℕ → ℤ) → ((i : ℕ) → i < n → f i ≤ℤ g i) → sum_below n f ≤ℤ sum_below n g
sum_below-le zero f g each = omega (arith, ints)
sum_below-le (suc n) f g each = omega (arith, ints, sum_below-le n f g (λ i h. each i (omega arith)), each n (omega arith))

by_equal : {P : Type 0} (a b : ℕ) → (a ≡ b → P) → (a ≢ b → P) → P
by_equal a b same other = elim (eqb_tells a b) [ inl e ↦ same e.1 | inr n ↦ other n.1 ]

-- a sum in which only the term k changes
pub sum_changed : (n k : ℕ) (f g : ℕ → ℤ) → k < n → ((i : ℕ) → i < n → i ≢ k → g i ≡ f i) → sum_below n g ≡ sum_below n f +ℤ (g k -ℤ f k)
sum_changed zero k f g h same = absurd (omega (arith, h))
sum_changed (suc n) k f g h same =
    by_equal k n
    (λ e.
    let rest = sum_below-same n g f (λ i below. same i (omega (arith, below)) (λ q. omega (arith, q, e, below))) in
    let at_f : f n ≡ f k = ap f (sym e) in
    let at_g : g n ≡ g k = ap g (sym e) in
    omega (arith, ints, rest, at_f, at_g))
    (λ ne.
    let rest = sum_changed n k f g (omega (arith, h, ne)) (λ i below far. same i (omega (arith, below)) far) in
    let last : g n ≡ f n = same n (omega arith) (λ q. ne (sym q)) in
    omega (arith, ints, rest, last))
