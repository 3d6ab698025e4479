-- Defines the number of states that the ticks up to an event affect.
use Rattle.std.specs.Prelude.{ℕ, ◌-◌, ◌≤◌, List, [], ◌∷◌, ◌++◌, ℤ, Option, Some, None, Result, Ok}
use Rattle.std.specs.Prelude.{Err, count_by}
use Rattle.std.specs.List.{range_with_len}
use Rattle.qss_machine.specs.declared.compiled_machine.Machine.{Machine}
use Rattle.qss_machine.specs.EventCounts.{is_touched, touches_after}
use Rattle.qss_machine.specs.Machines.{state_count}
use Rattle.qss_machine.specs.Runs.{run_from}
use Rattle.qss_machine.specs.Ticks.{Snapshot}
use Rattle.qss_events.specs.declared.event_outcome.Outcome.{Outcome}
use Rattle.qss_events.specs.declared.event_outcome.Outcome.TheVariants.{Events, Done, Over}
use Rattle.qss_events.specs.EventFreeRuns.{AreEventFree, IsVisit}
use Rattle.qss_events.specs.RunViews.{RunView}

-- the number of states that a tick with this result affects; at an overflow all states
abbrev pub touches_at : Machine → ℕ → Snapshot → Result Snapshot ℕ → ℕ
touches_at m tick w (Ok next) = count_by (is_touched m tick w next) (range_with_len 0 (state_count m))
touches_at m tick w (Err var) = state_count m

-- the ticks up to the event of a call affect at least this number of states
abbrev pub MovesTouched : (ℤ → ℤ → ℤ → ℤ → Type 0) → RunView → RunView → Outcome → ℕ → Type 0
MovesTouched Rule old new (Events tick) moves =
    (silent : List Snapshot) × IsVisit Rule old.machine old.tick old.snapshot silent tick (Ok new.snapshot) × (moves ≤ touches_after old.machine old.tick old.snapshot (silent ++ new.snapshot ∷ []) None)
MovesTouched Rule old new Done moves =
    (silent : List Snapshot) × AreEventFree Rule old.machine old.tick old.snapshot silent new.tick new.snapshot × (moves ≤ touches_after old.machine old.tick old.snapshot silent None)
MovesTouched Rule old new (Over tick var) moves =
    (silent : List Snapshot) × IsVisit Rule old.machine old.tick old.snapshot silent tick (Err var) × (moves ≤ touches_after old.machine old.tick old.snapshot silent (Some var))

-- the number of states that at most `count` ticks after a snapshot affect, under a rule that is a
-- function
abbrev pub touches_from : (ℤ → ℤ → ℤ → ℤ) → Machine → ℕ → ℕ → Snapshot → ℕ
touches_from level m count tick w = let run = run_from level m count tick w in touches_after m tick w run.snapshots run.overflow

-- the remaining number of affected states; 0 after the end of the run
abbrev pub none_if_ended : Option Outcome → ℕ → ℕ
none_if_ended None touches = touches
none_if_ended (Some end) touches = 0

-- the remaining number of affected states, under a rule that is a function
abbrev pub touches_left : (ℤ → ℤ → ℤ → ℤ) → RunView → ℕ
touches_left level s = none_if_ended s.end (touches_from level s.machine (s.machine.last - s.tick) s.tick s.snapshot)
