-- Defines the text of a run, and how it is written to a sink.
use Rattle.std.specs.Prelude.{Bool, ◌≡◌, ◌≢◌, ◌⊎◌, ℕ, ◌+◌, true, List, ◌++◌, length, Option, Some, None}
use Rattle.std.specs.Io.KnownBytes.{Appends}
use Rattle.mu_io.specs.Sinks.{AppendsPrefix, EndsByFault}
use Rattle.qss_machine.specs.Runs.{Run, run_by, run_rows}
use Rattle.qss_machine.specs.declared.compiled_machine.Machine.{Machine}
use Rattle.qss_quant.specs.declared.quantizer.Rule.{Rule}
use Rattle.qss_quant.specs.LevelRules.{level_by}
use Rattle.qss_rows.specs.Filters.{lines_passed}
use Rattle.qss_rows.specs.RowTexts.{header, name_of}
use Rattle.qss_rows.specs.declared.simulation_rows.RunResult.{RunResult}
use Rattle.qss_rows.specs.declared.simulation_rows.RunResult.TheVariants.{Ended, Overflowed, Fault, Memory}
use Rattle.qss_rows.specs.Simulations.{is_whole}
use Rattle.qss_rows.specs.Writes.{StopsBefore}

-- the run of a machine under a named rule
abbrev pub run_by_rule : Rule → Machine → Run
run_by_rule rule m = run_by (level_by rule) m

-- the header, and the lines of the rows of a run that pass a filter
abbrev pub run_text : Option (List ℕ) → Machine → Run → List ℕ
run_text only m run = header ++ lines_passed only m (run_rows m run)

-- the result agrees with the run: it ends at the last tick, or by the overflow of a variable at a
-- tick
abbrev pub IsRunResult : Machine → Run → RunResult → Type 0
IsRunResult m run Ended = run.overflow ≡ None
IsRunResult m run (Overflowed name tick) = (var : ℕ) × (run.overflow ≡ Some var) × (name ≡ name_of m var) × (tick ≡ length run.snapshots + 1)
IsRunResult m run Fault = Unit {0}
IsRunResult m run Memory = Unit {0}

-- allocation failed: nothing was written, or complete lines up to a row that passes, or all lines
-- if a variable overflowed and allocation of its name failed
abbrev pub IsRunCutShort : {K : Type 0} → (K → Option (List ℕ)) → Option (List ℕ) → Machine → Run → K → K → Type 0
IsRunCutShort written only m run old new =
    (new ≡ old) ⊎ (StopsBefore written header only m (run_rows m run) old new ⊎ (((var : ℕ) × (run.overflow ≡ Some var)) × Appends (written old) (written new) (run_text only m run)))

-- a call wrote a run: the result, and the effect on the sink
pub record IsRunWritten {K : Type 0} (written : K → Option (List ℕ)) (faults : K → ℕ) (failed : K → Bool) (m : Machine) (run : Run) (only : Option (List ℕ)) (result : RunResult) (old new : K) : Type 0 where
  pub end : IsRunResult m run result
  pub whole : is_whole result ≡ true → Appends (written old) (written new) (run_text only m run)
  pub prefix : AppendsPrefix (written old) (written new) (run_text only m run)
  pub short : result ≡ Memory → IsRunCutShort written only m run old new
  pub calm : result ≢ Fault → faults new ≡ faults old
  pub last : result ≡ Fault → EndsByFault faults failed old new
