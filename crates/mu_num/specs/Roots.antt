-- Integer square roots, rounded up.
use Rattle.std.specs.Prelude.{ℕ, ◌*◌, ◌≤◌, ◌<◌}

-- r is the least natural number whose square is at least v
pub record IsRootUp (v r : ℕ) : Type 0 where
  pub at_least : v ≤ r * r
  pub least : (m : ℕ) → m < r → m * m < v
