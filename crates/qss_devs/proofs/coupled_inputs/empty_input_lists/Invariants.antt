use Rattle.qss_devs.proofs.Common.{[], ◌≡◌, map}
use Rattle.std.proofs.Common.{replicate}
use Rattle.qss_devs.proofs.coupled_inputs.empty_input_lists.Given as goal

-- the lists so far
abbrev pub invariant-loop : goal.invariant-loop
invariant-loop l = map (λ list. list.items) l.lists.items ≡ replicate l.counter []
