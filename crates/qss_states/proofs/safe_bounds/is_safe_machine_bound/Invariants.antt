use Rattle.qss_states.proofs.Common.{ℕ, ◌<◌, AllowsBound, get_or, SlopeRow}
use Rattle.qss_states.proofs.safe_bounds.is_safe_machine_bound.Given as goal

-- the rows so far allow the bound
abbrev pub invariant-loop-row : goal.invariant-loop-row
invariant-loop-row l = (k : ℕ) (none : SlopeRow) → k < l.row-index → AllowsBound l.m.f l.bound (get_or l.m.rows k none)
