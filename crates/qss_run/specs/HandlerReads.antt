-- Defines the states that the statements of branches read.
use Rattle.std.specs.Prelude.{◌≡◌, ℕ, Bool, true, false, List, length, ℤ, slice_index_or}
use Rattle.std.specs.List.{list_any}
use Rattle.qss_machine.specs.declared.machine_parts.Action.{Action}
use Rattle.qss_machine.specs.declared.compiled_machine.Machine.{Machine}
use Rattle.qss_machine.specs.MachineLimits.{form_of}
use Rattle.mu_num.specs.IndexedSums.{int_at}
use Rattle.qss_machine.specs.Readers.{has_entry}
use Rattle.qss_hand.specs.Works.{branch_at}
use Rattle.qss_run.specs.declared.run_conditions.BranchPlace.{BranchPlace}

-- whether the form of a statement has an entry of a state
abbrev pub action_reads : ℕ → Action → Bool
action_reads j action = has_entry j (form_of action).entries

-- whether a statement of a branch reads a state
abbrev pub branch_reads : ℕ → Machine → BranchPlace → Bool
branch_reads j m at = list_any (action_reads j) (branch_at m at.clause at.branch).actions

-- whether a statement of one of these branches reads a state
abbrev pub fired_reads : ℕ → Machine → List BranchPlace → List ℕ → Bool
fired_reads j m branches fired = list_any (λ place. branch_reads j m (slice_index_or branches place (record { clause = 0; branch = 0 }))) fired

-- the elements that satisfy a test are those of `states`; the others do not change
pub record AreArrived (arrives : ℕ → Bool) (states old new : List ℤ) : Type 0 where
  pub as_many : length new ≡ length old
  pub own : (j : ℕ) → arrives j ≡ true → int_at new j ≡ int_at states j
  pub others : (j : ℕ) → arrives j ≡ false → int_at new j ≡ int_at old j
