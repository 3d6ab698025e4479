-- The first number past a limit, where only those at some places may pass it.
use Rattle.qss_events.proofs.Common
use Common.{ℕ, ◌<◌, ◌∙◌, ◌≡◌, ◌≤◌, ap, AreRisingBelow, arith, Bool, cases_Bool, cases_lt, false}
use Common.{get_or, inl, inr, is_listed, length, List, None, Option, position, Some, subst, sym}
use Common.{true}
use Rattle.std.proofs.Common.{◌⊎◌}
use Rattle.std.proofs.lemmas.List.Kept.{AllPairs-from_increasing}
use Rattle.std.specs.List.Sorted.{IsStrictlyIncreasing}
use Rattle.mu_num.specs.Writes.{IsFirstOf}
use Rattle.qss_events.proofs.Firsts.{first_is}
use Rattle.qss_events.proofs.Ranges.{position-none}
use Rattle.mu_num.proofs.Writes.{index_of, among_at}

-- a place passes, and none before it in the list
pub first_of : (test : ℕ → Bool) (places : List ℕ) (i : ℕ) → IsStrictlyIncreasing places → i < length places → ((k : ℕ) → k < i → test (get_or places k 0) ≡ false) →
    test (get_or places i 0) ≡ true → IsFirstOf test places (Some (get_or places i 0))
first_of test places i rising h before here = (among_at places i h, here, λ place less e. by_order place less (index_of places place e))
  where
    by_order : (place : ℕ) → place < get_or places i 0 → (k : ℕ) × (k < length places) × (get_or places k 0 ≡ place) → test place ≡ false
    by_order place less (k, inside, own) = by_index (cases_lt k i)
      where
        by_index : (k < i) ⊎ (i ≤ k) → test place ≡ false
        by_index (inl earlier) = subst (λ p. test p ≡ false) own (before k earlier)
        by_index (inr later) = by_same (cases_lt i k)
          where
            by_same : (i < k) ⊎ (k ≤ i) → test place ≡ false
            by_same (inl after) = absurd (omega (arith, less, own, AllPairs-from_increasing places rising i k 0 after inside))
            by_same (inr same) = let e : i ≡ k = omega (arith, later, same) in absurd (omega (arith, less, own, ap (λ n. get_or places n 0) e))

-- no place passes
pub none_of : (test : ℕ → Bool) (places : List ℕ) (i : ℕ) → length places ≤ i → ((k : ℕ) → k < i → test (get_or places k 0) ≡ false) → IsFirstOf test places None
none_of test places i h before place e = let found = index_of places place e in subst (λ p. test p ≡ false) found.2 (before found.0 (omega (arith, found.1, h)))

-- where no number elsewhere passes a test, the first of some places is the first of all
pub first_of_all : {X : Type 0} (d : X) (p : X → Bool) (test : ℕ → Bool) (xs : List X) (places : List ℕ) (first : Option ℕ) → AreRisingBelow (length xs) places →
    ((j : ℕ) → is_listed places j ≡ true → p (get_or xs j d) ≡ test j) → ((j : ℕ) → j < length xs → is_listed places j ≡ false → p (get_or xs j d) ≡ false) →
    IsFirstOf test places first → first ≡ position p xs
first_of_all d p test xs places None numbers same others none = sym (position-none d p xs (λ j h. by_among j h (cases_Bool (is_listed places j))))
  where
    by_among : (j : ℕ) → j < length xs → (is_listed places j ≡ true) ⊎ (is_listed places j ≡ false) → p (get_or xs j d) ≡ false
    by_among j h (inl e) = same j e ∙ none j e
    by_among j h (inr e) = others j h e
first_of_all d p test xs places (Some first) numbers same others found =
    sym (first_is d p xs first inside (λ j less. by_among j less (cases_Bool (is_listed places j))) (same first found.0 ∙ found.1))
  where
    inside : first < length xs
    inside = let at = index_of places first found.0 in omega (arith, at.2, numbers.below at.0 0 at.1)

    by_among : (j : ℕ) → j < first → (is_listed places j ≡ true) ⊎ (is_listed places j ≡ false) → p (get_or xs j d) ≡ false
    by_among j less (inl e) = same j e ∙ found.2 j less e
    by_among j less (inr e) = others j (omega (arith, less, inside)) e
