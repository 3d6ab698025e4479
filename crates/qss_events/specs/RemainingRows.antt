-- Defines the remaining run of a simulator, and its rows.
use Rattle.std.specs.Prelude.{◌≡◌, ◌<◌, ℕ, ◌+◌, ◌-◌, List, ◌++◌, length, Option, Some, None}
use Rattle.qss_machine.specs.Machines.{state_count, discrete_count}
use Rattle.qss_machine.specs.Ticks.{start_snapshot}
use Rattle.qss_machine.specs.Runs.{Run, run_from, snapshot_rows}
use Rattle.qss_machine.specs.declared.machine_parts.Row.{Row}
use Rattle.qss_machine.specs.declared.machine_parts.RowKind.TheVariants as kind
use Rattle.qss_machine.specs.declared.compiled_machine.Machine.{Machine}
use Rattle.qss_quant.specs.declared.quantizer.Rule.{Rule}
use Rattle.qss_quant.specs.LevelRules.{level_by}
use Rattle.qss_rows.specs.Filters.{passes}
use Rattle.qss_rows.specs.RowTexts.{line_of}
use Rattle.qss_events.specs.declared.event_outcome.Outcome.{Outcome}
use Rattle.qss_events.specs.declared.event_outcome.Outcome.TheVariants.{Events, Done, Over}
use Rattle.qss_events.specs.Events.{rows_left}
use Rattle.qss_events.specs.RunViews.{RunView}
use Rattle.qss_rows.specs.declared.simulation_rows.RunEnd.{RunEnd}
use Rattle.qss_rows.specs.declared.simulation_rows.RunEnd.TheVariants as end
use Rattle.qss_rows.specs.Simulations.{lines_by}

-- the initial view of a simulator
abbrev pub first_view : Machine → RunView
first_view m = record { machine = m; tick = 0; snapshot = start_snapshot m; rows = snapshot_rows kind.Start 0 (start_snapshot m); end = None }

-- the remaining run of a simulator, under a rule
abbrev pub remaining_run : Rule → RunView → Run
remaining_run rule s = run_from (level_by rule) s.machine (s.machine.last - s.tick) s.tick s.snapshot

-- the rows of the last event, and all remaining rows
abbrev pub remaining_rows : Rule → RunView → List Row
remaining_rows rule s = s.rows ++ rows_left (level_by rule) s

-- for each row of a machine its line if it passes a filter, else none
abbrev pub row_lines : Option (List ℕ) → Machine → List Row → List (Option (List ℕ))
row_lines only m rows = lines_by (passes only m) (line_of m) rows

-- the outcome of the call that ends a run in this way
abbrev pub outcome_of : RunEnd → Outcome
outcome_of end.Done = Done
outcome_of (end.Over tick var) = Over tick var

-- a run that starts after a tick ends in this way: at the last tick, or by the overflow of a
-- variable at a tick
abbrev pub EndsFrom : Outcome → ℕ → Run → Type 0
EndsFrom (Events tick) from run = ⊥
EndsFrom Done from run = run.overflow ≡ None
EndsFrom (Over tick var) from run = (run.overflow ≡ Some var) × (tick ≡ from + length run.snapshots + 1)

-- a variable that overflowed is one of the machine
abbrev pub IsEndOf : Machine → Outcome → Type 0
IsEndOf m (Events tick) = Unit {0}
IsEndOf m Done = Unit {0}
IsEndOf m (Over tick var) = var < state_count m + discrete_count m
