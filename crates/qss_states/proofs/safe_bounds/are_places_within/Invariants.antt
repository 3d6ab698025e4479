use Rattle.qss_states.proofs.Common.{ℕ, ◌-◌, ◌<◌, get_or, int_at, IsUpTo}
use Rattle.qss_states.proofs.safe_bounds.are_places_within.Given as goal

-- the values at the places so far
abbrev pub invariant-loop-place : goal.invariant-loop-place
invariant-loop-place l = (k none : ℕ) → k < l.place-index → IsUpTo l.bound (int_at l.values (get_or l.places k none - l.first))
