-- The two numbers of a sum of products with a range check.
use Rattle.std.specs.Prelude.{ℕ, ℤ}
use Rattle.cert_matrix.specs.declared.ranged_sum.RangedSum.{RangedSum}

-- the value of the sum
abbrev pub total_of : RangedSum → ℤ
total_of sum = sum.total

-- the sum of the absolute values of its products
abbrev pub weight_of : RangedSum → ℕ
weight_of sum = sum.weight
