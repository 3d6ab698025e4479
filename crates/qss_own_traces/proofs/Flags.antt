-- Whether a test holds below a number, and the least place where one does.
use Rattle.qss_own_traces.proofs.Common
use Common.{[], ℕ, ◌+◌, ◌<◌, ◌||◌, ◌∙◌, ◌∷◌, ◌≡◌, ap, arith, Bool, cond, false, get_or, length}
use Common.{List, list_any, map, None, Option, position, position_from, position_from-zero}
use Common.{range_with_len, refl, Some, sym, true}
use Rattle.qss_order2.proofs.Tables.{none_is}
use Rattle.std.proofs.lemmas.List.FromFn.{get_or-range_with_len, length-range_with_len}
use Rattle.std.proofs.lemmas.List.Folds.{list_any_at}

-- the numbers below n
pub range_at : (n k : ℕ) → k < n → get_or (range_with_len 0 n) k 0 ≡ k
range_at n k h = get_or-range_with_len 0 n k 0 h ∙ omega arith

pub range_count : (n : ℕ) → length (range_with_len 0 n) ≡ n
range_count n = length-range_with_len 0 n

-- whether some flag of a table holds
pub any_flag : {X : Type 0} (p : X → Bool) (xs : List X) →
    list_any (λ flag. flag) (map p xs) ≡ list_any p xs
any_flag p [] = refl
any_flag p (x ∷ xs) = ap (λ (b : Bool). p x || b) (any_flag p xs)

-- where none is so, each is not
pub none_each : (p : ℕ → Bool) (n k : ℕ) → list_any p (range_with_len 0 n) ≡ false → k < n → p k ≡ false
none_each p n k e h = by (p k) refl
  where
    by : (b : Bool) → p k ≡ b → p k ≡ false
    by true f = let g = list_any_at p (range_with_len 0 n) k 0 (omega (arith, h, range_count n))
        (ap p (range_at n k h) ∙ f) in absurd (cc)
    by false f = f

-- the first that passes a test in a table
pub position_map : {X Y : Type 0} (p : Y → Bool) (f : X → Y) (xs : List X) →
    position p (map f xs) ≡ position (λ x. p (f x)) xs
position_map {X} p f xs = position_from-zero p (map f xs) ∙ from 0 xs
    ∙ sym (position_from-zero (λ x. p (f x)) xs)
  where
    from : (i : ℕ) (ys : List X) → position_from p i (map f ys) ≡ position_from (λ x. p (f x)) i ys
    from i [] = refl
    from i (y ∷ ys) = ap (λ (o : Option ℕ). cond (p (f y)) (Some i) o) (from (i + 1) ys)

-- no number below n passes a test
pub none_below : (p : ℕ → Bool) (n : ℕ) → ((k : ℕ) → k < n → p k ≡ false) → position p (range_with_len 0 n) ≡ None
none_below p n each = none_is p (range_with_len 0 n) 0 (λ k h. let l : k < n = omega (arith, h, range_count n) in ap p (range_at n k l) ∙ each k l)
