use Rattle.mu_causal.proofs.Common
use Common.{ℕ, ◌<◌, ◌≡◌, flat_equation, get_or, IsGiven, length, map, Never, numbers_from, take}
use Rattle.mu_causal.proofs.equation_counts.count_equations_by_target.Given as goal

-- each variable has what the equations so far give
abbrev pub invariant-loop-place : goal.invariant-loop-place
invariant-loop-place l = record {
  all : length l.given.items ≡ l.count;
  each : (v : ℕ) → v < l.count → IsGiven (numbers_from 1 (map flat_equation (take l.place l.equations)) v) (get_or l.given.items v Never);
}
