use Rattle.qss_devs.proofs.Common
use Common.{◌≡◌, ◌≤◌, first_input, length, map, start_values, take, vec_capacity, vec_len}
use Rattle.qss_devs.proofs.coupled_start.start_inputs.Given as goal

-- the inputs so far
abbrev pub invariant-loop-k : goal.invariant-loop-k
invariant-loop-k l = record {
  so_far : l.inputs.items ≡ map (first_input l.m (start_values l.m)) (take l.k l.condition.form.entries);
  as_many : vec_len l.inputs ≡ l.k;
  room : length l.condition.form.entries ≤ vec_capacity l.inputs;
}
