-- The first tick at which a predicate holds.
use Rattle.std.specs.Prelude.{ℕ, ◌+◌, ◌<◌, ◌≤◌, nat_le, Option, Some, None, MatchOption, if◌then◌else◌}
use Rattle.mu_num.specs.Limits.{tick_limit}

-- n is the first tick after `from` at which P holds
pub record IsFirstAfter (P : ℕ → Type 0) (from n : ℕ) : Type 0 where
  pub later : from < n
  pub in_time : n ≤ tick_limit
  pub holds : P n
  pub first : (m : ℕ) → from < m → m < n → ¬ (P m)

-- the first tick after `from` at which P holds, or None if P holds at none up to the tick limit
abbrev pub FirstAfter : (ℕ → Type 0) → ℕ → Option ℕ → Type 0
FirstAfter P from found = MatchOption found ((m : ℕ) → from < m → m ≤ tick_limit → ¬ (P m)) (IsFirstAfter P from)

-- from + ticks, or None if that exceeds the tick limit
abbrev pub later_tick : ℕ → Option ℕ → Option ℕ
later_tick from None = None
later_tick from (Some ticks) = if nat_le (from + ticks) tick_limit then Some (from + ticks) else None
