use Rattle.mu_unroll.proofs.Common.{◌+◌, ◌≡◌, ◌≤◌, count_of_kind, drop, min}
use Rattle.mu_unroll.proofs.flat_variables.count_scalar_variables.Given as goal

-- the count so far and that of what is left are all
abbrev pub invariant-loop-one : goal.invariant-loop-one
invariant-loop-one l = record {
  cut : l.count ≤ 4097;
  all : min (l.count + count_of_kind l.kind (drop l.one-index l.known)) 4097 ≡ min (count_of_kind l.kind l.known) 4097;
}
