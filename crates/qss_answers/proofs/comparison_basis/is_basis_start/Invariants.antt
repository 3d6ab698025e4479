use Rattle.qss_answers.proofs.Common.{ℕ, ◌<◌, ◌≡◌, int_at, start_states}
use Rattle.qss_answers.proofs.comparison_basis.is_basis_start.Given as goal

abbrev pub invariant-loop-j : goal.invariant-loop-j
invariant-loop-j l = (k : ℕ) → k < l.j → int_at (start_states l.m) k ≡ int_at l.start k
