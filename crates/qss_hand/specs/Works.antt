-- Defines how the values of a machine correspond to the state of its handlers, and their limits.
use Rattle.std.specs.Prelude.{◌≡◌, ℕ, ◌+◌, ◌<◌, List, [], length, ℤ, pos, sum_by, Option, Some, None, Result, Ok, Err, slice_index_or}
use Rattle.mu_num.specs.Limits.{tick_limit, AreLevels, AreStates}
use Rattle.qss_hand.specs.declared.handler_statements.Over.{Over}
use Rattle.qss_machine.specs.declared.machine_parts.Action.{Action}
use Rattle.qss_machine.specs.declared.machine_parts.BranchInfo.{BranchInfo}
use Rattle.qss_machine.specs.declared.machine_parts.ClauseInfo.{ClauseInfo}
use Rattle.qss_machine.specs.declared.machine_parts.Rel.TheVariants.{Less}
use Rattle.qss_machine.specs.declared.compiled_machine.Machine.{Machine}
use Rattle.qss_machine.specs.Machines.{state_count, discrete_count}
use Rattle.qss_machine.specs.Handlers.{HandlerState}
use Rattle.qss_hand.specs.Values.{Values}

-- the state of the handlers for these values, before any overflow
abbrev pub handling_of : Values → HandlerState
handling_of w = record { states = w.x; discretes = w.d; rows = w.log; overflow = None }

-- the values after the handlers reached this state
abbrev pub values_after : Values → HandlerState → Values
values_after w h = record w { x = h.states; d = h.discretes; log = h.rows }

-- the index of the variable that overflows, if any
abbrev pub overflow_of : {T : Type 0} → Result T Over → Option ℕ
overflow_of (Ok _) = None
overflow_of (Err over) = Some over.var

-- the values of a machine: lists of the right lengths, within the limits, at a tick of a run
pub record AreValuesOf (m : Machine) (w : Values) : Type 0 where
  pub states : length w.x ≡ state_count m
  pub discretes : length w.d ≡ discrete_count m
  pub before : length w.pre ≡ discrete_count m
  pub small_states : AreStates w.x
  pub small_discretes : AreLevels w.d
  pub small_before : AreLevels w.pre
  pub in_time : w.tick < tick_limit

-- a clause of a machine, and a branch of it, by index
abbrev pub clause_at : Machine → ℕ → ClauseInfo
clause_at m clause = slice_index_or m.clauses clause (record { branches = [] })

abbrev pub branch_at : Machine → ℕ → ℕ → BranchInfo
branch_at m clause branch =
    slice_index_or (clause_at m clause).branches branch
    (record { condition = record { form = record { entries = []; time = pos 0; gamma = pos 0 }; rel = Less }; actions = [] })

-- the maximum number of rows that clauses append at one tick: one for each clause, and one for each
-- statement
abbrev pub row_room : List ClauseInfo → ℕ
row_room clauses = sum_by (λ clause. 1 + sum_by (λ branch. length branch.actions) clause.branches) clauses
