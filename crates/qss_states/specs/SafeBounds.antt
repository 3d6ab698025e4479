-- Defines bounds on levels and discrete values up to which no row exceeds its limits.
use Rattle.std.specs.Prelude.{◌≡◌, ℕ, ◌+◌, ◌-◌, ◌*◌, ◌/◌, ◌^◌, ◌<◌, ◌≤◌, false, List, length, All}
use Rattle.std.specs.Prelude.{ℤ, Option, MatchOption, unsigned_abs, sum_by}
use Rattle.qss_machine.specs.declared.machine_parts.Product.{Product}
use Rattle.qss_machine.specs.declared.machine_parts.SlopeRow.{SlopeRow}
use Rattle.qss_machine.specs.declared.compiled_machine.Machine.{Machine}
use Rattle.qss_machine.specs.Machines.{state_count, discrete_count}
use Rattle.mu_num.specs.IndexedSums.{int_at}
use Rattle.qss_machine.specs.Ticks.{exceeds_row_limits}

-- at most a bound in absolute value
abbrev pub IsUpTo : ℕ → ℤ → Type 0
IsUpTo bound z = unsigned_abs z ≤ bound

-- the values at these indices, counted from `first`, are at most a bound in absolute value
abbrev pub AreUpToAt : ℕ → List ℤ → ℕ → List ℕ → Type 0
AreUpToAt bound values first places = All (λ place. IsUpTo bound (int_at values (place - first))) places

-- a row exceeds no limit if levels and discrete values are at most a bound in absolute value
abbrev pub IsSafe : Machine → ℕ → SlopeRow → Type 0
IsSafe m bound row =
    (levels discretes : List ℤ) → length levels ≡ state_count m → length discretes ≡ discrete_count m →
    All (IsUpTo bound) levels → All (IsUpTo bound) discretes → exceeds_row_limits m levels discretes row ≡ false

-- a bound on the change of the coefficient of a state by a product, if its discrete value is at
-- most `bound` in absolute value
abbrev pub excess : ℕ → ℕ → Product → ℕ
excess level_bits bound product = unsigned_abs product.coef * bound / 2 ^ level_bits + 1

-- the absolute values of the coefficients and the excesses of the products of a row add up to at
-- most 2 ^ 44
pub record AllowsBound (level_bits bound : ℕ) (row : SlopeRow) : Type 0 where
  pub small : bound ≤ 2 ^ 43
  pub modes : sum_by (λ entry. unsigned_abs entry.coef) row.entries + sum_by (excess level_bits bound) row.products ≤ 2 ^ 44

-- the limit of levels, halved this number of times and rounded down
abbrev pub half_limit : ℕ → ℕ
half_limit halvings = 2 ^ 43 / 2 ^ halvings

-- the first of the limit of levels and its halves, at least 1, that all rows of a machine allow
pub record IsFirstHalf (m : Machine) (halvings : ℕ) : Type 0 where
  pub from_one : halvings < 44
  pub allowed : All (AllowsBound m.f (half_limit halvings)) m.rows
  pub before : (fewer : ℕ) → fewer < halvings → All (AllowsBound m.f (half_limit fewer)) m.rows → ⊥

-- the greatest of the limit of levels and its halves that all rows of a machine allow, if any
abbrev pub IsSafeBound : Machine → Option ℕ → Type 0
IsSafeBound m found =
    MatchOption found
    ((halvings : ℕ) → halvings < 44 → All (AllowsBound m.f (half_limit halvings)) m.rows → ⊥)
    (λ bound. (halvings : ℕ) × IsFirstHalf m halvings × (bound ≡ half_limit halvings))

-- levels and discrete values at most a bound in absolute value, up to which no row exceeds its
-- limits
pub record AreSmall (m : Machine) (bound : ℕ) (levels discretes : List ℤ) : Type 0 where
  pub safe : All (IsSafe m bound) m.rows
  pub small_levels : All (IsUpTo bound) levels
  pub small_discretes : All (IsUpTo bound) discretes
