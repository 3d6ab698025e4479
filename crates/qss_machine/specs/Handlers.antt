-- The event handlers of a tick: the branches that fire and the effects of their statements.
use Rattle.std.specs.Prelude.{ℕ, ◌+◌, ◌-◌, ◌*◌, ◌^◌, Bool, true, false, not, ◌&&◌, List, [], ◌∷◌, ◌++◌, map, length, take, drop, set, fold, ℤ, pos, Option, Some, is_some, flat_map, zip, if◌then◌else◌}
use Rattle.mu_num.specs.Rounding.{nearest_of}
use Rattle.qss_machine.specs.declared.machine_parts.Action.{Action}
use Rattle.qss_machine.specs.declared.machine_parts.Action.TheVariants.{Set, Reinit}
use Rattle.qss_machine.specs.declared.machine_parts.Condition.{Condition}
use Rattle.qss_machine.specs.declared.machine_parts.BranchInfo.{BranchInfo}
use Rattle.qss_machine.specs.declared.machine_parts.ClauseInfo.{ClauseInfo}
use Rattle.qss_machine.specs.declared.machine_parts.Row.{Row}
use Rattle.qss_machine.specs.declared.machine_parts.RowKind.TheVariants as kind
use Rattle.qss_machine.specs.declared.compiled_machine.Machine.{Machine}
use Rattle.mu_num.specs.Sizes.{exceeds}
use Rattle.mu_num.specs.Limits.{bits_of_level, bits_of_state}
use Rattle.qss_machine.specs.Machines.{state_count, value_of, truth}

-- all conditions in source order
abbrev pub conditions : Machine → List Condition
conditions m = flat_map (λ clause. map (λ branch. branch.condition) clause.branches) m.clauses

-- the truth value of each condition at states, discrete values and a tick
abbrev pub truths : Machine → List ℤ → List ℤ → ℕ → List Bool
truths m states discretes tick = map (λ condition. truth m condition states discretes tick) (conditions m)

-- A branch is due if its condition holds now, and was false on the previous arrival or after the
-- previous handlers.
abbrev pub firing_flags : List Bool → List Bool → List Bool → List Bool
firing_flags now at_arrival after_handlers = map (λ flags. flags.0 && not (flags.1.0 && flags.1.1)) (zip now (zip at_arrival after_handlers))

-- The values and rows so far, and the first variable that overflowed (on arrival or by assignment).
-- After an overflow nothing changes, and the overflowing assignment is not made.
pub record HandlerState : Type 0 where
  pub states : List ℤ
  pub discretes : List ℤ
  pub rows : List Row
  pub overflow : Option ℕ

-- the value that a statement assigns: its form's value in the unit of its variable, rounded to the
-- nearest, ties to even
abbrev pub assigned_value : Machine → ℕ → List ℤ → HandlerState → Action → ℤ
assigned_value m tick before h (Set var form) = nearest_of (value_of m form h.states h.discretes before tick) (pos (2 ^ (2 * m.p + m.k)))
assigned_value m tick before h (Reinit var form) = nearest_of (value_of m form h.states h.discretes before tick) (pos (2 ^ m.p))

-- assigns a value to the statement's variable, or records an overflow if the value exceeds the
-- variable's limit
abbrev pub assign : Machine → ℕ → HandlerState → Action → ℤ → HandlerState
assign m tick h (Set var form) z =
    if exceeds bits_of_level z then record h { overflow = Some var }
    else record h {
      discretes = set h.discretes (var - state_count m) z;
      rows = h.rows ++ record { tick = tick; kind = kind.Set; var = var; level = z; state = pos 0 } ∷ [];
    }
assign m tick h (Reinit var form) z =
    if exceeds bits_of_state z then record h { overflow = Some var }
    else record h {
      states = set h.states var z;
      rows = h.rows ++ record { tick = tick; kind = kind.Reinit; var = var; level = pos 0; state = z } ∷ [];
    }

-- runs a statement, unless an overflow occurred
abbrev pub run_action : Machine → ℕ → List ℤ → HandlerState → Action → HandlerState
run_action m tick before h action = if is_some h.overflow then h else assign m tick h action (assigned_value m tick before h action)

-- the row of a clause that fires by this branch
abbrev pub fire_row : ℕ → ℕ → ℕ → Row
fire_row tick clause branch = record { tick = tick; kind = kind.When clause branch; var = 0; level = pos 0; state = pos 0 }

-- fires a branch: appends its row and runs its statements in order
abbrev pub run_branch : Machine → ℕ → List ℤ → ℕ → ℕ → HandlerState → List Action → HandlerState
run_branch m tick before clause branch h actions =
    fold (run_action m tick before) (record h { rows = h.rows ++ fire_row tick clause branch ∷ [] }) actions

-- fires the first due branch of a clause; `number` is the number of the first branch
abbrev pub run_first_due : Machine → ℕ → List ℤ → ℕ → ℕ → HandlerState → List BranchInfo → List Bool → HandlerState
run_first_due m tick before clause number h [] due = h
run_first_due m tick before clause number h (branch ∷ branches) [] = h
run_first_due m tick before clause number h (branch ∷ branches) (true ∷ due) = run_branch m tick before clause number h branch.actions
run_first_due m tick before clause number h (branch ∷ branches) (false ∷ due) = run_first_due m tick before clause (number + 1) h branches due

-- runs a clause, unless an overflow occurred
abbrev pub run_clause : Machine → ℕ → List ℤ → ℕ → HandlerState → ClauseInfo → List Bool → HandlerState
run_clause m tick before number h clause due = if is_some h.overflow then h else run_first_due m tick before number 0 h clause.branches due

-- runs the clauses in order; `due` is the concatenation of their branches' flags
abbrev pub run_clauses : Machine → ℕ → List ℤ → ℕ → HandlerState → List ClauseInfo → List Bool → HandlerState
run_clauses m tick before number h [] due = h
run_clauses m tick before number h (clause ∷ clauses) due =
    run_clauses m tick before (number + 1)
    (run_clause m tick before number h clause (take (length clause.branches) due))
    clauses (drop (length clause.branches) due)
