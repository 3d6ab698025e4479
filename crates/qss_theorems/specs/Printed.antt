-- Theorems on the printed run of a machine.
use Rattle.std.specs.Prelude.{◌≡◌, ℕ, List, [], ℤ, take, All}
use Rattle.mu_num.specs.Levels.{IsWithinOneLevel}
use Rattle.qss_machine.specs.declared.compiled_machine.Machine.{Machine}
use Rattle.qss_machine.specs.RunLaws.{StaysWithinDrift, AreQuantaUpTo, states_from, levels_from}
use Rattle.qss_machine.specs.Legitimate.{IsLegitimate}
use Rattle.qss_machine.specs.Machines.{quanta, start_states}
use Rattle.qss_machine.specs.Runs.{IsRun, IsFreeExecution, last_snapshot, run_rows}
use Rattle.qss_machine.specs.Ticks.{start_snapshot}
use Rattle.qss_events.specs.RunTexts.{run_by_rule}
use Rattle.qss_quant.specs.declared.quantizer.Rule.{Rule}
use Rattle.qss_rows.specs.RowTexts.{HasVariable}

-- The run of a machine under a named rule is a run under the free rule, so the theorems on free
-- runs apply.
pub record PrintedRunsAreFree : Type 0 where
  pub is_run : (rule : Rule) (m : Machine) → IsRun IsWithinOneLevel m (run_by_rule rule m)
  pub leads : (rule : Rule) (m : Machine) → IsFreeExecution m 0 (start_snapshot m) (run_by_rule rule m).snapshots
  -- at each tick the states are within quantum and drift of their levels until the next tick
  pub near : (rule : Rule) (m : Machine) (ticks : ℕ) → StaysWithinDrift m (last_snapshot (start_snapshot m) (take ticks (run_by_rule rule m).snapshots))
  -- without clauses the run is legitimate; with the machine's own quanta, if the relative quantum
  -- is 0
  pub legitimate : (rule : Rule) (m : Machine) → m.clauses ≡ [] → m.relative ≡ 0 →
      IsLegitimate m (start_states m) (quanta m) 1 1
      (states_from (start_snapshot m) (run_by_rule rule m).snapshots) (levels_from (start_snapshot m) (run_by_rule rule m).snapshots)
  -- otherwise with any bounds of its quanta
  pub bounded : (rule : Rule) (m : Machine) (bounds : List ℤ) → m.clauses ≡ [] →
      AreQuantaUpTo m bounds (levels_from (start_snapshot m) (run_by_rule rule m).snapshots) →
      IsLegitimate m (start_states m) bounds 1 1
      (states_from (start_snapshot m) (run_by_rule rule m).snapshots) (levels_from (start_snapshot m) (run_by_rule rule m).snapshots)
  -- each row that prints a name is of a variable of the machine
  pub variables : (rule : Rule) (m : Machine) → All (HasVariable m) (run_rows m (run_by_rule rule m))
