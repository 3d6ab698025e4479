-- Defines the summary of a run: the number of changes of levels, and the sum of the end levels.
use Rattle.std.specs.Prelude.{◌≡◌, Bool, true, false, ℕ, ◌+◌, List, length, ℤ, pos, count_by, None}
use Rattle.std.specs.Prelude.{Some}
use Rattle.qss_machine.specs.declared.machine_parts.Row.{Row}
use Rattle.qss_machine.specs.declared.machine_parts.RowKind.{RowKind}
use Rattle.qss_machine.specs.declared.machine_parts.RowKind.TheVariants as kind
use Rattle.qss_machine.specs.declared.compiled_machine.Machine.{Machine}
use Rattle.mu_num.specs.IndexedSums.{sum_over}
use Rattle.qss_machine.specs.Runs.{Run, run_rows}
use Rattle.qss_quant.specs.declared.quantizer.Rule.TheVariants.{Floor}
use Rattle.qss_quant.specs.LevelRules.{level_by}
use Rattle.qss_rows.specs.RowTexts.{name_of}
use Rattle.qss_events.specs.declared.event_outcome.Outcome.{Outcome}
use Rattle.qss_events.specs.Events.{rows_left}
use Rattle.qss_events.specs.RunViews.{RunView}
use Rattle.qss_events.specs.RemainingRows.{remaining_run, EndsFrom}
use Rattle.qss_run.specs.declared.run_summary.RunSummary.{RunSummary}
use Rattle.qss_run.specs.declared.run_summary.RunSummary.TheVariants.{Ended, Overflowed, Memory}

-- whether a row of this kind is a change of a level
abbrev pub is_level : RowKind → Bool
is_level kind.Level = true
is_level _ = false

-- the number of rows that are changes of levels
abbrev pub level_count : List Row → ℕ
level_count rows = count_by (λ row. is_level row.kind) rows

-- the level of an end row, and 0 for any other row
abbrev pub end_level : Row → ℤ
end_level row = by row.kind
  where
    by : RowKind → ℤ
    by kind.End = row.level
    by _ = pos 0

-- the sum of the levels of the end rows
abbrev pub end_sum : List Row → ℤ
end_sum rows = sum_over end_level rows

-- the summary agrees with the run: it ends at the last tick, or by the overflow of the variable
-- with this name at this tick
abbrev pub IsSummary : Machine → Run → RunSummary → Type 0
IsSummary m run (Ended levels sum) = (run.overflow ≡ None) × (levels ≡ level_count (run_rows m run)) × (sum ≡ end_sum (run_rows m run))
IsSummary m run (Overflowed name tick) = (var : ℕ) × (run.overflow ≡ Some var) × (name ≡ name_of m var) × (tick ≡ length run.snapshots + 1)
IsSummary m run Memory = Unit {0}

-- the number of changes of levels in the remaining run, and its end rows
pub record IsCountFrom (old : RunView) (levels : ℕ) (end : Outcome) (new : RunView) : Type 0 where
  pub ended : EndsFrom end old.tick (remaining_run Floor old)
  pub count : levels ≡ level_count (rows_left (level_by Floor) old)
  pub sum : end_sum new.rows ≡ end_sum (rows_left (level_by Floor) old)
