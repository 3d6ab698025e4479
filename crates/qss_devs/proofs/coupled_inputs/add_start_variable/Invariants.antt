use Rattle.qss_devs.proofs.Common
use Common.{[], ◌+◌, ◌≡◌, AreFirstInputs, IsWritten, length, map, state_count, take}
use Rattle.qss_devs.proofs.coupled_inputs.add_start_variable.Given as goal

-- the rows so far have an input of the variable
abbrev pub invariant-loop-k : goal.invariant-loop-k
invariant-loop-k l = record {
  count : length l.lists.items ≡ state_count l.m;
  written : IsWritten [] (AreFirstInputs l.m (l.var + 1)) (take l.k l.rows)
      (map (λ list. list.items) l.initial.lists.items) (map (λ list. list.items) l.lists.items);
}
