use Rattle.qss_order2.proofs.Common
use Common.{◌≡◌, ◌≤◌, DiscreteInfo, length, map, take, vec_capacity, vec_len}
use Rattle.qss_order2.proofs.fixed_machine.fixed_discretes_of.Given as goal

-- the values so far
abbrev pub invariant-loop-g : goal.invariant-loop-g
invariant-loop-g l = record {
  so_far : l.list.items ≡ map (λ (d : DiscreteInfo). d.d0) (take l.g l.m.discretes);
  as_many : vec_len l.list ≡ l.g;
  room : length l.m.discretes ≤ vec_capacity l.list;
}
