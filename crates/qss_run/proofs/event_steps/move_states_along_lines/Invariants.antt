use Rattle.qss_run.proofs.Common.{ℕ, ◌<◌, ◌≡◌, int_at, length, line_at, state_at}
use Rattle.qss_run.proofs.event_steps.move_states_along_lines.Given as goal

-- the states so far
abbrev pub invariant-loop-j : goal.invariant-loop-j
invariant-loop-j l = record {
  as_many : length l.x ≡ length l.lines;
  each : (k : ℕ) → k < l.j → int_at l.x k ≡ state_at (line_at l.lines k) l.tick;
}
