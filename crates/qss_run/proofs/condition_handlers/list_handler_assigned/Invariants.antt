use Rattle.qss_run.proofs.Common.{◌≡◌, ◌≤◌, assigned_of, take, vec_capacity, vec_len}
use Rattle.qss_run.proofs.condition_handlers.list_handler_assigned.Given as goal

-- the variables so far
abbrev pub invariant-loop-row : goal.invariant-loop-row
invariant-loop-row l = record {
  assigned : l.assigned.items ≡ assigned_of (take l.row-index l.log);
  few : vec_len l.assigned ≤ l.row-index;
  room : vec_capacity l.assigned ≡ vec_capacity l.fn.assigned;
}
