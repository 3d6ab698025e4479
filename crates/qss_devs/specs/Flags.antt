-- Flags of conditions, and the branches that are due by them.
use Rattle.std.specs.Prelude.{◌≡◌, ℕ, ◌+◌, ◌-◌, Bool, List, length, take, drop}
use Rattle.qss_machine.specs.Handlers.{firing_flags}
use Rattle.qss_devs.specs.declared.coupled_start.Truths.{Truths}

-- the `count` flags from `first` on
abbrev pub flags_from : ℕ → ℕ → List Bool → List Bool
flags_from first count flags = take ((first + count) - first) (drop first flags)

-- each list of truth values has `count` flags
pub record HaveFlags (count : ℕ) (t : Truths) : Type 0 where
  pub current : length t.current.items ≡ count
  pub at_arrival : length t.at_arrival.items ≡ count
  pub after_handlers : length t.after_handlers.items ≡ count

-- for each condition, whether its branch is due
abbrev pub due_flags : Truths → List Bool
due_flags t = firing_flags t.current.items t.at_arrival.items t.after_handlers.items
