use Rattle.qss_machine.proofs.Common
use Common.{ℕ, ◌≡◌, ◌≤◌, length, map, row_coefficient, take, vec_capacity, vec_len}
use Rattle.qss_machine.proofs.variable_uses.coefficients_of_use.Given as goal

-- the coefficients so far
abbrev pub invariant-loop-row : goal.invariant-loop-row
invariant-loop-row l = record {
  so_far : l.list.items ≡ map (λ (row : ℕ). row_coefficient l.m row l.var) (take l.row-index l.rows);
  as_many : vec_len l.list ≡ l.row-index;
  room : length l.rows ≤ vec_capacity l.list;
}
