use Rattle.qss_devs.proofs.Common.{ℕ, ◌<◌, ◌≡◌, int_at, length, map, state_at}
use Rattle.qss_devs.proofs.coupled_arrivals.fill_arrival_states.Given as goal

-- the states so far
abbrev pub invariant-loop-j : goal.invariant-loop-j
invariant-loop-j g l = record {
  as_many : length l.x ≡ length l.integrators;
  each : (k : ℕ) → k < l.j → int_at l.x k ≡ int_at (map (λ i. state_at i.line l.tick) l.integrators) k;
}
