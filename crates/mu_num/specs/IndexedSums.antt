-- Integer lists: elements with default 0, sums over an index, absolute values.
use Rattle.std.specs.Prelude.{ℕ, zero, suc, List, [], ◌∷◌, map, ℤ, pos, ◌+ℤ◌, unsigned_abs, slice_index_or, position, Option}
use Rattle.std.specs.List.{range_with_len}
use Rattle.mu_num.specs.Sizes.{exceeds}

-- the number at a place, or 0 after the end of the list
abbrev pub int_at : List ℤ → ℕ → ℤ
int_at xs i = slice_index_or xs i (pos 0)

-- f(0), .., f(n - 1)
abbrev pub tabulate : {X : Type 0} → ℕ → (ℕ → X) → List X
tabulate n f = map f (range_with_len 0 n)

-- the sum of f over a list
abbrev pub sum_over : {X : Type 0} → (X → ℤ) → List X → ℤ
sum_over f [] = pos 0
sum_over f (x ∷ xs) = f x +ℤ sum_over f xs

-- f(0) + .. + f(n - 1)
abbrev pub sum_below : ℕ → (ℕ → ℤ) → ℤ
sum_below zero f = pos 0
sum_below (suc n) f = sum_below n f +ℤ f n

-- the absolute value
abbrev pub abs_of : ℤ → ℤ
abs_of z = pos (unsigned_abs z)

-- the least index of a number greater than 2 ^ bits in size
abbrev pub first_exceeding : ℕ → List ℤ → Option ℕ
first_exceeding bits zs = position (exceeds bits) zs
