-- Slopes, mode coefficients and absolute row sums of a row.
use Rattle.std.specs.Prelude.{ℕ, ◌+◌, ◌-◌, ◌^◌, Bool, not, List, length, ℤ, pos, ◌+ℤ◌, ◌*ℤ◌, ◌==◌, if◌then◌else◌}
use Rattle.std.specs.List.{list_all}
use Rattle.mu_num.specs.Rounding.{nearest_of}
use Rattle.qss_machine.specs.declared.machine_parts.Entry.{Entry}
use Rattle.qss_machine.specs.declared.machine_parts.Product.{Product}
use Rattle.qss_machine.specs.declared.machine_parts.SlopeRow.{SlopeRow}
use Rattle.mu_num.specs.Sizes.{exceeds}
use Rattle.mu_num.specs.IndexedSums.{int_at, tabulate, sum_over, sum_below, abs_of}

-- the coefficient of a variable: the sum over its entries
abbrev pub coefficient_of : List Entry → ℕ → ℤ
coefficient_of entries var = sum_over (λ entry. if entry.var == var then entry.coef else pos 0) entries

-- the sum of the values, each times its variable's coefficient
abbrev pub weighted_sum : List Entry → List ℤ → ℤ
weighted_sum entries values = sum_below (length values) (λ var. coefficient_of entries var *ℤ int_at values var)

-- the sum of a state's products, each times the value of its discrete variable; `first` is the
-- number of the first discrete variable
abbrev pub products_of : List Product → ℕ → List ℤ → ℕ → ℤ
products_of products first discretes state =
    sum_over (λ product. if product.state == state then product.coef *ℤ int_at discretes (product.discrete - first) else pos 0) products

-- the mode coefficient of a state: its own coefficient plus the sum of its products divided by 2 ^
-- level_bits, rounded to the nearest, ties to even
abbrev pub mode_coefficient : ℕ → ℕ → SlopeRow → List ℤ → ℕ → ℤ
mode_coefficient level_bits state_count row discretes state =
    coefficient_of row.entries state +ℤ nearest_of (products_of row.products state_count discretes state) (pos (2 ^ level_bits))

-- whether all mode coefficients are at most 2 ^ 44 in size
abbrev pub mode_fits : ℕ → ℕ → SlopeRow → List ℤ → Bool
mode_fits level_bits state_count row discretes =
    list_all (λ coefficient. not (exceeds 44 coefficient)) (tabulate state_count (mode_coefficient level_bits state_count row discretes))

-- the part of a slope that does not depend on levels
abbrev pub constant_part : ℕ → SlopeRow → List ℤ → ℤ
constant_part state_count row discretes =
    sum_below (length discretes) (λ g. coefficient_of row.entries (state_count + g) *ℤ int_at discretes g) +ℤ row.beta

-- the slope, the increment of a state per tick: levels times mode coefficients, discrete values
-- times coefficients, and the constant
abbrev pub slope_of : ℕ → SlopeRow → List ℤ → List ℤ → ℤ
slope_of level_bits row levels discretes =
    sum_below (length levels) (λ i. mode_coefficient level_bits (length levels) row discretes i *ℤ int_at levels i) +ℤ constant_part (length levels) row discretes

-- the absolute row sum: the slope with each term replaced by its absolute value
abbrev pub weight_of : ℕ → SlopeRow → List ℤ → List ℤ → ℤ
weight_of level_bits row levels discretes =
    sum_below (length levels) (λ i. abs_of (mode_coefficient level_bits (length levels) row discretes i) *ℤ abs_of (int_at levels i))
    +ℤ (sum_below (length discretes) (λ g. abs_of (coefficient_of row.entries (length levels + g)) *ℤ abs_of (int_at discretes g)) +ℤ abs_of row.beta)
