use Rattle.qss_devs.proofs.Common.{ℕ, ◌<◌, ◌≡◌, exceeds, false, int_at}
use Rattle.qss_devs.proofs.coupled_arrivals.check_arrival_states.Given as goal

-- none so far
abbrev pub invariant-loop-j : goal.invariant-loop-j
invariant-loop-j l = (k : ℕ) → k < l.j → exceeds 88 (int_at l.states k) ≡ false
