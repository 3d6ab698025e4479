-- The text of a second-order run, and how the run ends.
use Rattle.std.specs.Prelude.{Bool, ◌≡◌, ◌≢◌, ◌⊎◌, ℕ, true, List, ◌∷◌, ◌++◌, Option, Some, None}
use Rattle.std.specs.Io.KnownBytes.{Appends}
use Rattle.mu_io.specs.Sinks.{AppendsPrefix, EndsByFault}
use Rattle.qss_machine.specs.declared.compiled_machine.Machine.{Machine}
use Rattle.qss_order2.specs.declared.order2_rows.Row2.{Row2}
use Rattle.qss_order2.specs.SecondRowLines.{lines2_of}
use Rattle.qss_order2.specs.SecondRuns.{Past, Run2, run2_by, run2_rows}
use Rattle.qss_order2.specs.SecondSteps.{nearest_change}
use Rattle.qss_rows.specs.declared.simulation_rows.RunResult.{RunResult}
use Rattle.qss_rows.specs.declared.simulation_rows.RunResult.TheVariants.{Ended, Overflowed, Fault}
use Rattle.qss_rows.specs.declared.simulation_rows.RunResult.TheVariants.{Memory}
use Rattle.qss_rows.specs.Simulations.{is_whole}
use Rattle.qss_rows.specs.RowTexts.{header, name_of}

-- the second-order run of a machine under the nearest rule
abbrev pub second_order_run : Machine → Run2
second_order_run m = run2_by nearest_change m

-- the header, and the lines of the rows of a run
abbrev pub second_run_text : Machine → Run2 → List ℕ
second_run_text m run = header ++ lines2_of m (run2_rows m run)

-- a result is the end of a run with this overflow; the name is that of the overflowing variable
abbrev pub IsEndAs : Machine → Option Past → RunResult → Type 0
IsEndAs m overflow Ended = overflow ≡ None
IsEndAs m overflow (Overflowed name tick) = (var : ℕ) × (overflow ≡ Some (record {
  tick =
      tick;
  var = var;
})) × (name ≡ name_of m var)
IsEndAs m overflow Fault = Unit {0}
IsEndAs m overflow Memory = Unit {0}

-- a result is the end of the run
abbrev pub IsSecondRunResult : Machine → Run2 → RunResult → Type 0
IsSecondRunResult m run played = IsEndAs m run.overflow played

-- a call wrote this head and the lines of the first rows, and stopped before the line of a row
pub record StopsBefore2 {K : Type 0} (written : K → Option (List ℕ)) (head : List ℕ) (m : Machine)
    (rows : List Row2) (old new : K) : Type 0 where
  pub front : List Row2
  pub row : Row2
  pub rest : List Row2
  pub parts : front ++ (row ∷ rest) ≡ rows
  pub appended : Appends (written old) (written new) (head ++ lines2_of m front)

-- an allocation failed: the text is empty, or ends before the line of a row, or is complete and the
-- name of the overflowing variable could not be allocated
abbrev pub IsSecondRunCutShort : {K : Type 0} → (K → Option (List ℕ)) → Machine → Run2 → K → K →
    Type 0
IsSecondRunCutShort written m run old new =
    (new ≡ old) ⊎ (StopsBefore2 written header m (run2_rows m run) old new ⊎
    (((past : Past) × (run.overflow ≡ Some past)) × Appends (written old) (written new)
    (second_run_text m run)))

-- a call wrote a run: its result, and the text and faults of the sink
pub record IsSecondRunWritten {K : Type 0} (written : K → Option (List ℕ)) (faults : K →
    ℕ) (failed : K → Bool) (m : Machine) (run : Run2) (result : RunResult) (old new : K) : Type 0
  where
    pub end : IsSecondRunResult m run result
    pub whole : is_whole result ≡ true → Appends (written old) (written new) (second_run_text m run)
    pub prefix : AppendsPrefix (written old) (written new) (second_run_text m run)
    pub short : result ≡ Memory → IsSecondRunCutShort written m run old new
    pub calm : result ≢ Fault → faults new ≡ faults old
    pub last : result ≡ Fault → EndsByFault faults failed old new
