-- One point of a run under the rule `floor`.
use Rattle.std.specs.Prelude.{◌≡◌, ℕ, List, length, ℤ, All}
use Rattle.mu_num.specs.Limits.{bits_of_level, bits_of_state}
use Rattle.mu_num.specs.Sizes.{IsWithin}
use Rattle.qss_machine.specs.declared.compiled_machine.Machine.{Machine}
use Rattle.qss_machine.specs.Machines.{state_count}
use Rattle.qss_machine.specs.Ticks.{Snapshot}
use Rattle.qss_own_traces.specs.declared.first_order_trace.FirstPlace.{FirstPlace}
use Rattle.qss_own_traces.specs.TraceSnapshots.{plain_world}

-- the snapshot of a point
abbrev pub snapshot_of : Machine → FirstPlace → Snapshot
snapshot_of m place = plain_world m place.states.items place.levels.items

-- one number for each state, of at most 2^bits in absolute value
pub record AreOfStates (m : Machine) (bits : ℕ) (numbers : List ℤ) : Type 0 where
  pub one_each : length numbers ≡ state_count m
  pub small : All (IsWithin bits) numbers

-- states and levels within the limits, and equal levels in 64 bits
pub record IsWithinLimits (m : Machine) (place : FirstPlace) : Type 0 where
  pub states : AreOfStates m bits_of_state place.states.items
  pub levels : AreOfStates m bits_of_level place.levels.items
  pub short : place.short_levels.items ≡ place.levels.items
