-- Defines the state of a simulator as contracts see it.
use Rattle.std.specs.Prelude.{ℕ, List, Option}
use Rattle.qss_machine.specs.declared.machine_parts.Row.{Row}
use Rattle.qss_machine.specs.declared.compiled_machine.Machine.{Machine}
use Rattle.qss_machine.specs.Ticks.{Snapshot}
use Rattle.qss_events.specs.declared.event_outcome.Outcome.{Outcome}

-- the machine, the tick, the snapshot, the rows of the last event, and the end of the run, if it
-- has ended
pub record RunView : Type 0 where
  pub machine : Machine
  pub tick : ℕ
  pub snapshot : Snapshot
  pub rows : List Row
  pub end : Option Outcome
