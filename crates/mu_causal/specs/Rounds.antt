-- Rotations of a cycle.
use Rattle.std.specs.Prelude.{ℕ, ◌≡◌, ◌<◌, ◌≤◌, List, ◌++◌, length, take, drop, slice_index}

-- the same cycle, rotated so that its least number is first
pub record IsTurned (round turned : List ℕ) : Type 0 where
  pub place : ℕ
  pub inside : place < length round
  pub value : turned ≡ drop place round ++ take place round
  pub least : (k : ℕ) → k < length round → slice_index round place ≤ slice_index round k
