use Rattle.qss_states.proofs.Common.{ℕ, ◌<◌, All, AllowsBound, half_limit}
use Rattle.qss_states.proofs.safe_bounds.greatest_row_bound.Given as goal

-- not all rows allow one of the halves so far
abbrev pub invariant-loop-halvings : goal.invariant-loop-halvings
invariant-loop-halvings l = (fewer : ℕ) → fewer < l.halvings → All (AllowsBound l.m.f (half_limit fewer)) l.m.rows → ⊥
