use Rattle.qss_machine.proofs.Common
use Common.{◌≡◌, ◌≤◌, length, map, reading_coefficients, tabulate, vec_capacity, vec_len}
use Rattle.qss_machine.proofs.variable_uses.coefficient_uses_by_variable.Given as goal

-- the lists so far
abbrev pub invariant-loop-var : goal.invariant-loop-var
invariant-loop-var l = record {
  so_far : map (λ list. list.items) l.lists.items ≡ tabulate l.var (reading_coefficients l.m);
  as_many : vec_len l.lists ≡ l.var;
  room : length l.rows ≤ vec_capacity l.lists;
  within : l.var ≤ length l.rows;
}
