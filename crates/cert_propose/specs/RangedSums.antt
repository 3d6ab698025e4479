-- Sums with a range check, and vectors and matrices of such sums.
use Rattle.std.specs.Prelude.{ℕ, zero, suc, ◌+◌, ◌*◌, ◌^◌, nat_le, nat_lt, List, [], ◌∷◌, ℤ, pos}
use Rattle.std.specs.Prelude.{◌+ℤ◌, ◌-ℤ◌, ◌*ℤ◌, unsigned_abs, Option, Some, None, if◌then◌else◌}
use Rattle.std.specs.Option.{option_map, option_and_then}
use Rattle.mu_num.specs.IndexedSums.{tabulate, sum_below, abs_of}
use Rattle.mu_num.specs.Limits.{sum_limit}
use Rattle.cert_matrix.specs.Form.{Vector, Table}
use Rattle.cert_matrix.specs.Matrix.{weight}

-- the number, if the absolute values of its products add up to at most 2^126
abbrev pub where_in_range : ℕ → ℤ → Option ℤ
where_in_range weight z = if nat_le weight sum_limit then Some z else None

-- base plus the sum of f k * g k for k below n
abbrev pub ranged : ℤ → ℕ → Vector → Vector → Option ℤ
ranged base n f g = where_in_range (unsigned_abs base + weight n f g) (base +ℤ sum_below n (λ k. f k *ℤ g k))

-- base plus the sum of the absolute value of f k times g k for k below n
abbrev pub ranged_sizes : ℤ → ℕ → Vector → Vector → Option ℤ
ranged_sizes base n f g = where_in_range (unsigned_abs base + weight n f g) (base +ℤ sum_below n (λ k. abs_of (f k) *ℤ g k))

-- the sum of two numbers
abbrev pub ranged_sum : ℤ → ℤ → Option ℤ
ranged_sum x y = where_in_range (unsigned_abs x + unsigned_abs y) (x +ℤ y)

-- the product of two numbers
abbrev pub ranged_product : ℤ → ℤ → Option ℤ
ranged_product x y = where_in_range (unsigned_abs x * unsigned_abs y) (x *ℤ y)

-- x less k times y
abbrev pub ranged_less : ℤ → ℤ → ℤ → Option ℤ
ranged_less x k y = where_in_range (unsigned_abs x + unsigned_abs k * unsigned_abs y) (x -ℤ k *ℤ y)

-- the list of the values, if all are present
abbrev pub collected : {X : Type 0} → List (Option X) → Option (List X)
collected [] = Some []
collected (x ∷ rest) = option_and_then (λ y. option_map (λ ys. y ∷ ys) (collected rest)) x

-- the list of n numbers, if all are present
abbrev pub vector_by : ℕ → (ℕ → Option ℤ) → Option (List ℤ)
vector_by n f = collected (tabulate n f)

-- n rows of n numbers, if all are present
abbrev pub table_by : ℕ → (ℕ → ℕ → Option ℤ) → Option (List (List ℤ))
table_by n f = collected (tabulate n (λ i. vector_by n (f i)))

-- base plus the matrix times a vector
abbrev pub rows_times : ℕ → Vector → Table → Vector → Option (List ℤ)
rows_times n base m y = vector_by n (λ i. ranged (base i) n (m i) y)

-- the absolute values of base plus the absolute values of the matrix times a vector
abbrev pub sizes_times : ℕ → Vector → Table → Vector → Option (List ℤ)
sizes_times n base m y = vector_by n (λ i. ranged_sizes (abs_of (base i)) n (m i) y)

-- the sum of two vectors
abbrev pub sums : ℕ → Vector → Vector → Option (List ℤ)
sums n x y = vector_by n (λ i. ranged_sum (x i) (y i))

-- the products of two vectors, entry by entry
abbrev pub products : ℕ → Vector → Vector → Option (List ℤ)
products n x y = vector_by n (λ i. ranged_product (x i) (y i))

-- a vector less k times another vector
abbrev pub differences : ℕ → Vector → ℤ → Vector → Option (List ℤ)
differences n x k y = vector_by n (λ i. ranged_less (x i) k (y i))

-- the product of two matrices
abbrev pub product_of : ℕ → Table → Table → Option (List (List ℤ))
product_of n x y = table_by n (λ i j. ranged (pos 0) n (x i) (λ k. y k j))

-- n rounds of a function, if each has a value
unfoldable pub repeated : {X : Type 0} → ℕ → (X → Option X) → X → Option X
repeated zero f x = Some x
repeated (suc n) f x = option_and_then (repeated n f) (f x)

-- the greatest number whose square is below v, bit by bit: r has the bits so far, k bits are left
unfoldable pub root_below : ℕ → ℕ → ℕ → ℕ
root_below v zero r = r
root_below v (suc k) r = root_below v k (if nat_lt ((r + 2 ^ k) * (r + 2 ^ k)) v then r + 2 ^ k else r)

-- the square root of v, rounded up, for v from 0 to 2^128
abbrev pub root_up_of : ℤ → ℤ
root_up_of v = pos (if nat_le (unsigned_abs v) 0 then 0 else root_below (unsigned_abs v) 64 0 + 1)
