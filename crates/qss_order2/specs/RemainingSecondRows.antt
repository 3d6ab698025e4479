-- The rows that a second-order simulator has still to print, and the outcome of its run.
use Rattle.std.specs.Prelude.{◌≡◌, ◌⊎◌, ℕ, ◌-◌, true, List, ◌++◌, Option, Some, None}
use Rattle.qss_machine.specs.declared.compiled_machine.Machine.{Machine}
use Rattle.qss_order2.specs.declared.order2_rows.Row2.{Row2}
use Rattle.qss_order2.specs.declared.outcome2.Outcome2.{Outcome2}
use Rattle.qss_order2.specs.declared.outcome2.Outcome2.TheVariants.{Events, Done, Over}
use Rattle.qss_order2.specs.Events.{SecondRunView, rows2_left}
use Rattle.qss_order2.specs.SecondRowLines.{line2_of}
use Rattle.qss_order2.specs.SecondRuns.{Past, snapshots_from, snapshots_unless}
use Rattle.qss_order2.specs.SecondSteps.{first_exceeding_limit, nearest_change}
use Rattle.qss_rows.specs.declared.simulation_rows.RunEnd.{RunEnd}
use Rattle.qss_rows.specs.declared.simulation_rows.RunEnd.TheVariants as end
use Rattle.qss_rows.specs.Simulations.{lines_by}

-- the rows of the last event, and all that follow
abbrev pub remaining_second_rows : SecondRunView → List Row2
remaining_second_rows s = s.rows ++ rows2_left nearest_change s

-- the overflow that follows, if there is one
abbrev pub overflow_ahead : SecondRunView → Option Past
overflow_ahead s = (snapshots_unless s.tick (first_exceeding_limit s.machine s.snapshot.levels
    s.snapshot.changes) (snapshots_from nearest_change s.machine (s.machine.last - s.tick)
    s.tick s.snapshot)).1

-- an outcome is the end of a run with this overflow, or at the last tick if there is none
abbrev pub EndsAs : Outcome2 → Option Past → Type 0
EndsAs (Events tick) overflow = ⊥
EndsAs Done overflow = overflow ≡ None
EndsAs (Over tick var) overflow = overflow ≡ Some (record { tick = tick; var = var })

-- the outcome of the call that ends a run
abbrev pub outcome2_of : RunEnd → Outcome2
outcome2_of end.Done = Done
outcome2_of (end.Over tick var) = Over tick var

-- a simulator is within its limits, or at the start of a run
abbrev pub IsAble : SecondRunView → Type 0
IsAble s = (first_exceeding_limit s.machine s.snapshot.levels s.snapshot.changes ≡ None) ⊎
    (s.tick ≡ 0)

-- the lines of the rows of a machine
abbrev pub row2_lines : Machine → List Row2 → List (Option (List ℕ))
row2_lines m rows = lines_by (λ row. true) (line2_of m) rows
