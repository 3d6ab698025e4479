use Rattle.qss_run.proofs.Common
use Common.{ℕ, ◌<◌, ◌≡◌, ◌≤◌, CanStart, due_at, int_at, IsRestartedFrom, length, line_at, slope_at}
use Common.{state_count}
use Rattle.qss_run.proofs.run_start.start_lines.Given as goal

-- the lines so far go on, and the others are as they were
abbrev pub invariant-loop-j : goal.invariant-loop-j
invariant-loop-j l = record {
  ready : CanStart l.m l.x l.levels l.d;
  all : length l.initial.lines ≡ state_count l.m;
  slope_count : length l.slopes ≡ state_count l.m;
  own_slopes : (k : ℕ) → k < l.j → int_at l.slopes k ≡ slope_at l.m k l.levels l.d;
  line_count : length l.lines ≡ state_count l.m;
  are_on : (k : ℕ) → k < l.j → IsRestartedFrom l.m 0 (int_at l.x k) (int_at l.levels k) (slope_at l.m k l.levels l.d) k (line_at l.lines k) (due_at l.agenda k);
  place_count : length l.agenda ≡ length l.fn.s.agenda;
  dues_kept : (place : ℕ) → l.j ≤ place → due_at l.agenda place ≡ due_at l.fn.s.agenda place;
}
