-- Tables of the values of a function.
use Rattle.mu_num.proofs.Common.{[], ℕ, ℤ, ◌<◌, ◌∙◌, ◌∷◌, ◌≡◌, ap, arith, length, List, pos, refl}
use Rattle.std.proofs.Common.{map}
use Rattle.std.proofs.lemmas.List.FromFn.{length-map-range_with_len, get_or-map-range_with_len}
use Rattle.std.proofs.lemmas.List.FromFn.{fill_by_all}
use Rattle.mu_num.specs.IndexedSums.{int_at, tabulate}

-- two tables of the same values are one
pub tabulate-same : {X : Type 0} (d : X) (n : ℕ) (f g : ℕ → X) → ((j : ℕ) → j < n → f j ≡ g j) → tabulate n f ≡ tabulate n g
tabulate-same d n f g same =
    fill_by_all g (tabulate n f) n d (length-map-range_with_len f 0 n)
    (λ j h. get_or-map-range_with_len f 0 n j j d h (omega arith) ∙ same j h)

-- a list is the table of its values
pub tabulate-int_at : (xs : List ℤ) (n : ℕ) → length xs ≡ n → xs ≡ tabulate n (int_at xs)
tabulate-int_at xs n e = fill_by_all (int_at xs) xs n (pos 0) e (λ j h. refl)

pub int_at-tabulate : (n : ℕ) (f : ℕ → ℤ) (j : ℕ) → j < n → int_at (tabulate n f) j ≡ f j
int_at-tabulate n f j h = get_or-map-range_with_len f 0 n j j (pos 0) h (omega arith)

-- a function of each element, and then another one
pub map_twice : {X Y Z : Type 0} (f : Y → Z) (g : X → Y) (xs : List X) → map f (map g xs) ≡ map (λ x. f (g x)) xs
map_twice f g [] = refl
map_twice f g (x ∷ xs) = ap (λ ys. f (g x) ∷ ys) (map_twice f g xs)
