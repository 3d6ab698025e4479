use Rattle.qss_run.proofs.Common.{◌≡◌, ◌≤◌, level_count, take}
use Rattle.qss_run.proofs.run_summary.summary_level_count.Given as goal

-- the number of level rows so far
abbrev pub invariant-loop-row : goal.invariant-loop-row
invariant-loop-row l = record {
  so_far : l.count ≡ level_count (take l.row-index l.rows);
  few : l.count ≤ l.row-index;
}
