-- Defines the view of a store in contracts.
use Rattle.std.specs.Prelude.{ℕ, Option}
use Rattle.qss_machine.specs.declared.compiled_machine.Machine.{Machine}
use Rattle.qss_events.specs.declared.event_outcome.Outcome.{Outcome}
use Rattle.qss_run.specs.declared.run_start.Store.{Store}
use Rattle.qss_events.specs.RunViews.{RunView}
use Rattle.qss_run.specs.Stores.{snapshot_of}

-- the view of a store at a tick
abbrev pub view_of : Machine → ℕ → Store → Option Outcome → RunView
view_of m tick s end = record { machine = m; tick = tick; snapshot = snapshot_of tick s; rows = s.rows.items; end = end }
