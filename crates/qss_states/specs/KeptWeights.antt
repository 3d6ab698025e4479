-- Defines absolute row sums that are maintained only for large levels or discrete values.
use Rattle.std.specs.Prelude.{◌≡◌, ℕ, true, false, List, length, ℤ}
use Rattle.qss_machine.specs.declared.compiled_machine.Machine.{Machine}
use Rattle.qss_machine.specs.Machines.{state_count}
use Rattle.qss_quant.specs.IntegratorLines.{Line}
use Rattle.qss_events.specs.Schedules.{weights_at}
use Rattle.qss_states.specs.declared.kept_weights.Weights.{Weights}
use Rattle.qss_states.specs.RowSums.{AreLevelsBefore}
use Rattle.qss_states.specs.SafeBounds.{AreSmall}

-- the absolute row sums at levels and discrete values; if they are not maintained, these values are
-- within the bound
pub record AreWeights (m : Machine) (levels discretes : List ℤ) (weights : Weights) : Type 0 where
  pub as_many : length weights.of_rows.items ≡ state_count m
  pub own : weights.kept ≡ true → weights.of_rows.items ≡ weights_at m levels discretes
  pub small : weights.kept ≡ false → AreSmall m weights.bound levels discretes

-- the levels before the moved states changed theirs, and the absolute row sums at these levels
pub record AreWeightsBefore (m : Machine) (moved : List ℕ) (new discretes : List ℤ) (weights : Weights) (lines : List Line) (old : List ℤ) : Type 0 where
  pub levels : AreLevelsBefore m moved new discretes lines old
  pub own : AreWeights m old discretes weights

-- sums with the same bound, which stay maintained if they were
pub record StayKept (old new : Weights) : Type 0 where
  pub bound : new.bound ≡ old.bound
  pub on : old.kept ≡ true → new.kept ≡ true
