-- The progress of a trace of a run under the rule `floor`.
use Rattle.std.specs.Prelude.{◌≡◌, ℕ, ◌-◌, List, ◌++◌, length, None}
use Rattle.mu_num.specs.Levels.{floor_level}
use Rattle.qss_machine.specs.declared.compiled_machine.Machine.{Machine}
use Rattle.qss_machine.specs.Machines.{state_count}
use Rattle.qss_machine.specs.Ticks.{Snapshot, start_snapshot}
use Rattle.qss_machine.specs.Runs.{Run, run_from}
use Rattle.qss_machine.specs.RunLaws.{states_from, levels_from}
use Rattle.qss_own_traces.specs.declared.first_order_trace.FirstCourse.{FirstCourse}
use Rattle.qss_own_traces.specs.RecordedTraces.{Holds}
use Rattle.qss_own_traces.specs.FirstPlaces.{snapshot_of, IsWithinLimits}
use Rattle.qss_own_traces.specs.FirstRuns.{first_run}

-- a run with these snapshots first
abbrev pub run_after : List Snapshot → Run → Run
run_after snapshots rest = record { snapshots = snapshots ++ rest.snapshots; overflow = rest.overflow }

-- the run at a tick: its snapshots up to there, and a draft with all their states and levels
pub record IsAt (m : Machine) (tick : ℕ) (course : FirstCourse) : Type 0 where
  pub snapshots : List Snapshot
  pub as_many : length snapshots ≡ tick
  pub rest : first_run m ≡ run_after snapshots (run_from floor_level m (m.last - tick) tick (snapshot_of m course.place))
  pub stands : IsWithinLimits m course.place
  pub held : Holds (state_count m) (states_from (start_snapshot m) snapshots) (levels_from (start_snapshot m) snapshots) course.draft

-- the run at the last tick: a draft with all its states and levels
pub record IsAtEnd (m : Machine) (course : FirstCourse) : Type 0 where
  pub reaches_end : (first_run m).overflow ≡ None
  pub as_many : length (first_run m).snapshots ≡ m.last
  pub held : Holds (state_count m) (states_from (start_snapshot m) (first_run m).snapshots) (levels_from (start_snapshot m) (first_run m).snapshots) course.draft
