use Rattle.qss_devs.proofs.Common
use Common.{◌+◌, ◌≡◌, ◌≤◌, AreFirstInputs, discrete_count, EachAt, length, map, state_count}
use Rattle.qss_devs.proofs.coupled_inputs.start_function_inputs.Given as goal

-- the inputs of the variables so far
abbrev pub invariant-loop-var : goal.invariant-loop-var
invariant-loop-var l = record {
  count : length l.lists.items ≡ state_count l.m;
  each : EachAt (AreFirstInputs l.m l.var) (map (λ list. list.items) l.lists.items);
  within : l.var ≤ state_count l.m + discrete_count l.m;
}
