use Rattle.qss_run.proofs.Common.{ℕ, ◌≡◌, due_at, false, is_reinitialized, length, Some, take, true}
use Rattle.qss_run.proofs.condition_handlers.schedule_handler_reinitialized.Given as goal

-- the states so far
abbrev pub invariant-loop-row : goal.invariant-loop-row
invariant-loop-row l = record {
  as_many : length l.agenda ≡ length l.fn.agenda;
  given : (place : ℕ) → is_reinitialized (take l.row-index l.log) place ≡ true → due_at l.agenda place ≡ Some l.tick;
  others : (place : ℕ) → is_reinitialized (take l.row-index l.log) place ≡ false → due_at l.agenda place ≡ due_at l.fn.agenda place;
}
