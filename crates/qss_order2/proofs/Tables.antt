-- Lists by the number of each value.
use Rattle.qss_order2.proofs.Common
use Common.{[], ℕ, ℤ, ◌++◌, ◌+◌, ◌<◌, ◌∙◌, ◌∷◌, ◌≡◌, ◌≤◌, All, ap, arith, Bool, cases_eq, false}
use Common.{fill_by_all, get_or, get_or-set_other, get_or-set_same, get_or_default, inl, inr}
use Common.{int_at, int_at-tabulate, length, length-map-range_with_len, length-set, List, map}
use Common.{map-append, map-range_with_len_more, MatchBool, None, pos, refl, set, Some, subst, suc}
use Common.{sym, tabulate, take, true, zero}
use Rattle.std.proofs.Common.{cond}
use Rattle.std.proofs.lemmas.List.{take_more}
use Rattle.std.proofs.lemmas.Iterator.Adapters.{position_from-zero}
use Rattle.std.specs.List.{position, position_from}

-- what holds where a test fails
pub by_false : (b : Bool) (P Q : Type 0) → b ≡ false → MatchBool b P Q → Q
by_false true P Q e q = absurd (cc)
by_false false P Q e q = q

-- tables of the same values
pub same_table : (n : ℕ) (f g : ℕ → ℤ) → ((j : ℕ) → j < n → f j ≡ g j) → tabulate n f ≡ tabulate n g
same_table n f g same = fill_by_all g (tabulate n f) n (pos 0) (length-map-range_with_len f 0 n)
    (λ j h. int_at-tabulate n f j h ∙ same j h)

pub same_list : (xs ys : List ℤ) (n : ℕ) → length xs ≡ n → length ys ≡ n →
    ((j : ℕ) → j < n → int_at xs j ≡ int_at ys j) → xs ≡ ys
same_list xs ys n of_xs of_ys same =
    fill_by_all (int_at ys) xs n (pos 0) of_xs same
    ∙ sym (fill_by_all (int_at ys) ys n (pos 0) of_ys (λ j h. refl))

-- one more value
pub table_more : {X : Type 0} (f : ℕ → X) (j : ℕ) (old new : List X) (x : X) → old ≡ tabulate j f →
    new ≡ old ++ x ∷ [] → x ≡ f j → new ≡ tabulate (j + 1) f
table_more f j old new x so_far added own =
    added ∙ ap (λ y. old ++ y ∷ []) own ∙ ap (λ xs. xs ++ f j ∷ []) so_far
    ∙ sym (map-range_with_len_more f 0 j j (omega arith))

pub map_more : {X Y : Type 0} (f : X → Y) (xs : List X) (j : ℕ) (d : X) (old new : List Y) (y : Y) →
    j < length xs → old ≡ map f (take j xs) → new ≡ old ++ y ∷ [] → y ≡ f (get_or xs j d) →
    new ≡ map f (take (j + 1) xs)
map_more f xs j d old new y h so_far added own =
    added ∙ ap (λ z. old ++ z ∷ []) own
    ∙ ap (λ ys. ys ++ f (get_or xs j d) ∷ []) so_far
    ∙ sym (map-append f (take j xs) (get_or xs j d ∷ []))
    ∙ sym (ap (map f) (take_more xs j d h))

-- what each number of a list keeps
pub all_of : (P : ℤ → Type 0) (xs : List ℤ) (n : ℕ) → length xs ≡ n →
    ((k : ℕ) → k < n → P (int_at xs k)) → All P xs
all_of P xs n many each k d h = subst P (get_or_default xs k (pos 0) d h)
    (each k (omega (arith, h, many)))

-- a list of which the first values are as they are to be, and the others as they were
pub record IsFilled {X : Type 0} (d : X) (Has : ℕ → X → Type 0) (old now : List X) (j : ℕ) : Type 0
  where
    pub as_many : length now ≡ length old
    pub each : (k : ℕ) → k < j → Has k (get_or now k d)
    pub others : (k : ℕ) → j ≤ k → get_or now k d ≡ get_or old k d

pub filled_more : {X : Type 0} (d : X) (Has : ℕ → X → Type 0) (old now : List X) (j : ℕ) (v : X) →
    j < length old → IsFilled d Has old now j → Has j v → IsFilled d Has old (set now j v) (j + 1)
filled_more {X} d Has old now j v h before here = record {
  as_many = length-set now j v ∙ before.as_many;
  each = λ k low. elim (cases_eq k j) [
    | inl e ↦ subst (λ i. Has i (get_or (set now j v) i d)) (sym e)
        (subst (Has j) (sym (get_or-set_same now j v d (omega (arith, h, before.as_many)))) here)
    | inr ne ↦ subst (Has k) (sym (get_or-set_other now j k v d ne))
        (before.each k (omega (arith, low, ne)))
  ];
  others = λ k high. get_or-set_other now j k v d (λ e. omega (arith, high, e))
      ∙ before.others k (omega arith);
}

pub filled_table : (f : ℕ → ℤ) (old now : List ℤ) (j : ℕ) → IsFilled (pos 0) (λ k z. z ≡ f k)
    old now j → length old ≤ j → now ≡ tabulate (length old) f
filled_table f old now j filled end = fill_by_all f now (length old) (pos 0) filled.as_many (λ k h.
    filled.each k (omega arith))

-- ---- the first value that passes a test

first_from : {X : Type 0} (p : X → Bool) (i : ℕ) (xs : List X) (k : ℕ) (d : X) → k < length xs →
    ((n : ℕ) → n < k → p (get_or xs n d) ≡ false) → p (get_or xs k d) ≡ true →
    position_from p i xs ≡ Some (i + k)
first_from p i [] k d h before here = absurd (omega arith)
first_from p i (x ∷ xs) zero d h before here =
    ap (λ b. cond b (Some i) (position_from p (i + 1) xs)) here
    ∙ ap (λ (n : ℕ). Some n) (omega arith)
first_from p i (x ∷ xs) (suc k) d h before here =
    ap (λ b. cond b (Some i) (position_from p (i + 1) xs)) (before 0 (omega arith))
    ∙ first_from p (i + 1) xs k d (omega arith) (λ n low. before (suc n) (omega arith)) here
    ∙ ap (λ (n : ℕ). Some n) (omega arith)

none_from : {X : Type 0} (p : X → Bool) (i : ℕ) (xs : List X) (d : X) → ((n : ℕ) → n < length xs →
    p (get_or xs n d) ≡ false) → position_from p i xs ≡ None
none_from p i [] d before = refl
none_from p i (x ∷ xs) d before =
    ap (λ b. cond b (Some i) (position_from p (i + 1) xs)) (before 0 (omega arith))
    ∙ none_from p (i + 1) xs d (λ n low. before (suc n) (omega arith))

pub first_is : {X : Type 0} (p : X → Bool) (xs : List X) (k : ℕ) (d : X) → k < length xs →
    ((n : ℕ) → n < k → p (get_or xs n d) ≡ false) → p (get_or xs k d) ≡ true →
    position p xs ≡ Some k
first_is p xs k d h before here = position_from-zero p xs ∙ first_from p 0 xs k d h before here
    ∙ ap (λ (n : ℕ). Some n) (omega arith)

pub none_is : {X : Type 0} (p : X → Bool) (xs : List X) (d : X) → ((n : ℕ) → n < length xs →
    p (get_or xs n d) ≡ false) → position p xs ≡ None
none_is p xs d before = position_from-zero p xs ∙ none_from p 0 xs d before

-- the same of a table
pub first_of_table : (p : ℤ → Bool) (n : ℕ) (f : ℕ → ℤ) (k : ℕ) → k < n →
    ((i : ℕ) → i < k → p (f i) ≡ false) → p (f k) ≡ true → position p (tabulate n f) ≡ Some k
first_of_table p n f k h before here =
    first_is p (tabulate n f) k (pos 0) (omega (arith, h, length-map-range_with_len f 0 n))
    (λ i low. ap p (int_at-tabulate n f i (omega (arith, low, h))) ∙ before i low)
    (ap p (int_at-tabulate n f k h) ∙ here)

pub none_of_table : (p : ℤ → Bool) (n : ℕ) (f : ℕ → ℤ) → ((i : ℕ) → i < n → p (f i) ≡ false) →
    position p (tabulate n f) ≡ None
none_of_table p n f before =
    none_is p (tabulate n f) (pos 0) (λ i low. let inside : i < n =
    omega (arith, low, length-map-range_with_len f 0 n) in ap p (int_at-tabulate n f i inside)
    ∙ before i inside)
