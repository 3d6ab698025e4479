use Rattle.qss_machine.proofs.Common.{[], ◌≡◌, map}
use Rattle.std.specs.Prelude.{replicate}
use Rattle.qss_machine.proofs.variable_uses.empty_use_lists.Given as goal

-- the lists so far
abbrev pub invariant-loop : goal.invariant-loop
invariant-loop l = map (λ list. list.items) l.lists.items ≡ replicate l.counter []
