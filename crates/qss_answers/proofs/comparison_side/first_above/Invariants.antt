use Rattle.qss_answers.proofs.Common.{ℕ, ◌<◌, ◌≤ℤ◌, int_at}
use Rattle.qss_answers.proofs.comparison_side.first_above.Given as goal

abbrev pub invariant-loop-j : goal.invariant-loop-j
invariant-loop-j l = (k : ℕ) → k < l.j → int_at l.t.q k ≤ℤ int_at l.c.q k
