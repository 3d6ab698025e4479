-- Defines how discrete values differ from their values before the tick.
use Rattle.std.specs.Prelude.{◌≡◌, ℕ, ◌<◌, ◌≤◌, false, List, length, All, ℤ, ◌==◌}
use Rattle.std.specs.List.{list_any}
use Rattle.mu_num.specs.IndexedSums.{int_at}

-- two lists are equal at all indices but these
abbrev pub AreSameBut : List ℕ → List ℤ → List ℤ → Type 0
AreSameBut places one other = (place : ℕ) → list_any (λ i. i == place) places ≡ false → int_at other place ≡ int_at one place

-- values and their values before the tick are equal at all indices but the assigned ones; there are
-- no more assigned indices than rows, and the capacity for indices is at least that for rows
pub record KnowsAssigned (values before : List ℤ) (assigned : List ℕ) (count rows room row_room : ℕ) : Type 0 where
  pub as_many : length before ≡ length values
  pub below : All (λ place. place < length values) assigned
  pub same : AreSameBut assigned values before
  pub few : count ≤ rows
  pub has_room : row_room ≤ room
