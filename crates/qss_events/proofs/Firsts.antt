-- The first element that passes a test, and lists by their elements.
use Rattle.qss_events.proofs.Common
use Common.{ℕ, ◌+◌, ◌<◌, ◌∙◌, ◌≡◌, ap, arith, Bool, cond, false, fill_by_all, get_or, length, List}
use Common.{nat_lt, nat_tests, None, refl, slice_set as set, Some, subst, sym, true}
use Rattle.std.proofs.lemmas.List.Edits.{fill_by_more}
use Rattle.std.proofs.lemmas.List.Sums.{position_or_len_is}
use Rattle.std.specs.List.{position}

pub less_yes : (i n : ℕ) → i < n → nat_lt i n ≡ true
less_yes i n h = grind (arith, nat_tests)

-- an element passes, and none before it
pub first_is : {X : Type 0} (d : X) (p : X → Bool) (xs : List X) (i : ℕ) → i < length xs → ((k : ℕ) → k < i → p (get_or xs k d) ≡ false) → p (get_or xs i d) ≡ true →
    position p xs ≡ Some i
first_is d p xs i h none here =
    let e = position_or_len_is p xs i d (omega arith) none (λ _. here) in
    rw e (ap (λ b. cond b (Some i) None) (less_yes i (length xs) h))

-- lists of the same elements are one
pub same_lists : {X : Type 0} (d : X) (xs ys : List X) → length xs ≡ length ys → ((k : ℕ) → k < length ys → get_or xs k d ≡ get_or ys k d) → xs ≡ ys
same_lists d xs ys many same =
    fill_by_all (λ k. get_or ys k d) xs (length ys) d many same
    ∙ sym (fill_by_all (λ k. get_or ys k d) ys (length ys) d refl (λ k h. refl))

-- one more element is written
pub one_more : {X : Type 0} (d : X) (f : ℕ → X) (xs : List X) (i : ℕ) (v : X) → i < length xs → ((k : ℕ) → k < i → get_or xs k d ≡ f k) → v ≡ f i →
    (k : ℕ) → k < i + 1 → get_or (set xs i v) k d ≡ f k
one_more d f xs i v h before here k below =
    subst (λ y. get_or (set xs i y) k d ≡ f k) (sym here) (fill_by_more f xs i d h before k below)
