-- Discrete parabolas, and the first step at which a predicate holds.
use Rattle.std.specs.Prelude.{ℕ, ◌*◌, ◌-◌, ◌/◌, ◌<◌, ◌≤◌, ℤ, pos, ◌+ℤ◌, ◌*ℤ◌, ◌<ℤ◌, ◌≤ℤ◌, Option, MatchOption}

-- 0 + 1 + .. + (n - 1)
abbrev pub sum_to : ℕ → ℕ
sum_to n = n * (n - 1) / 2

-- the value after n steps: c at step 0, increment b in the first step, and each later increment is
-- a more than the last
abbrev pub curve_at : ℤ → ℤ → ℤ → ℕ → ℤ
curve_at c b a n = c +ℤ pos n *ℤ b +ℤ pos (sum_to n) *ℤ a

-- n is the first step from 1 to `reach` at which P holds
pub record IsFirstUpTo (P : ℕ → Type 0) (reach n : ℕ) : Type 0 where
  pub later : 0 < n
  pub in_reach : n ≤ reach
  pub holds : P n
  pub first : (m : ℕ) → 0 < m → m < n → ¬ (P m)

-- the first step from 1 to `reach` at which P holds, or None if P holds at none of them
abbrev pub FirstUpTo : (ℕ → Type 0) → ℕ → Option ℕ → Type 0
FirstUpTo P reach found = MatchOption found ((m : ℕ) → 0 < m → m ≤ reach → ¬ (P m)) (IsFirstUpTo P reach)

-- n is the first step after `low`, up to `high`, at which the curve is at least `bound`
pub record IsFirstReaching (c b a bound : ℤ) (low high n : ℕ) : Type 0 where
  pub later : low < n
  pub within : n ≤ high
  pub reached : bound ≤ℤ curve_at c b a n
  pub before : (m : ℕ) → low ≤ m → m < n → curve_at c b a m <ℤ bound

-- the first step at which the curve reaches the bound, or None if it stays below up to `high`
abbrev pub FirstReaching : ℤ → ℤ → ℤ → ℤ → ℕ → ℕ → Option ℕ → Type 0
FirstReaching c b a bound low high found = MatchOption found ((m : ℕ) → low ≤ m → m ≤ high → curve_at c b a m <ℤ bound) (IsFirstReaching c b a bound low high)
