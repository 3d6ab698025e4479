-- The trace of a machine's run under the rule `floor`.
use Rattle.std.specs.Prelude.{◌≡◌, ◌+◌, length, Some, None}
use Rattle.mu_num.specs.Levels.{floor_level}
use Rattle.qss_machine.specs.declared.compiled_machine.Machine.{Machine}
use Rattle.qss_machine.specs.Ticks.{start_snapshot}
use Rattle.qss_machine.specs.Runs.{Run, run_by}
use Rattle.qss_machine.specs.RunLaws.{states_from, levels_from}
use Rattle.qss_trace.specs.declared.trace.Trace.{Trace}
use Rattle.qss_own_traces.specs.declared.own_trace_draft.TraceOver.{TraceOver}
use Rattle.qss_own_traces.specs.declared.own_trace_draft.TraceOver.TheVariants.{Over, Memory}
use Rattle.qss_own_traces.specs.Traces.{IsTraceOf}

-- the run
abbrev pub first_run : Machine → Run
first_run m = run_by floor_level m

-- the run reaches the last tick, and the trace has its states and levels from tick 0 on, in the
-- machine's own units
pub record IsFirstTrace (m : Machine) (t : Trace) : Type 0 where
  pub reaches_end : (first_run m).overflow ≡ None
  pub is_trace : IsTraceOf m 1 (states_from (start_snapshot m) (first_run m).snapshots) (levels_from (start_snapshot m) (first_run m).snapshots) t

-- the reason why the run has no trace: it overflows at the tick after its last snapshot, or an
-- allocation failed
abbrev pub IsFirstRefusal : Machine → TraceOver → Type 0
IsFirstRefusal m (Over tick var) = (tick ≡ length (first_run m).snapshots + 1) × ((first_run m).overflow ≡ Some var)
IsFirstRefusal m Memory = Unit {0}
