-- The progress of a trace of a second-order run.
use Rattle.std.specs.Prelude.{◌≡◌, ℕ, ◌-◌, List, ◌∷◌, ◌++◌, length, All, Option, None}
use Rattle.qss_machine.specs.declared.compiled_machine.Machine.{Machine}
use Rattle.qss_machine.specs.Machines.{state_count}
use Rattle.qss_order2.specs.SecondSteps.{SecondSnapshot, nearest_change, second_start}
use Rattle.qss_order2.specs.SecondRuns.{Past, Run2, snapshots_from}
use Rattle.qss_order2.specs.SecondRunLaws.{states_from2, levels_from2}
use Rattle.qss_own_traces.specs.declared.second_order_trace.SecondCourse.{SecondCourse}
use Rattle.qss_own_traces.specs.RecordedTraces.{Holds}
use Rattle.qss_own_traces.specs.SecondPlaces.{snapshot_of, IsWithinLimits}
use Rattle.qss_own_traces.specs.SecondRuns.{IsNarrow}
use Rattle.qss_order2.specs.SecondRunTexts.{second_order_run}

-- a run with these snapshots first
abbrev pub run2_after : SecondSnapshot → List SecondSnapshot → (List SecondSnapshot × Option Past) → Run2
run2_after start snapshots rest = record { start = start; snapshots = snapshots ++ rest.0; overflow = rest.1 }

-- the run at a tick: its snapshots up to there, all within the range of traces, and a draft with
-- their states and levels
pub record IsAt (m : Machine) (tick : ℕ) (course : SecondCourse) : Type 0 where
  pub snapshots : List SecondSnapshot
  pub as_many : length snapshots ≡ tick
  pub rest : second_order_run m ≡ run2_after (second_start nearest_change m) snapshots (snapshots_from nearest_change m (m.last - tick) tick (snapshot_of course.place))
  pub narrow : All IsNarrow (second_start nearest_change m ∷ snapshots)
  pub stands : IsWithinLimits m course.place
  pub held : Holds (state_count m) (states_from2 (second_start nearest_change m) snapshots) (levels_from2 (second_start nearest_change m) snapshots) course.draft

-- the run at the last tick: a draft with all its states and levels
pub record IsAtEnd (m : Machine) (course : SecondCourse) : Type 0 where
  pub reaches_end : (second_order_run m).overflow ≡ None
  pub as_many : length (second_order_run m).snapshots ≡ m.last
  pub held : Holds (state_count m) (states_from2 (second_order_run m).start (second_order_run m).snapshots) (levels_from2 (second_order_run m).start (second_order_run m).snapshots) course.draft
