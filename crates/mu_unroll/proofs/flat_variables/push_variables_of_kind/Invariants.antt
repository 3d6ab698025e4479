use Rattle.mu_unroll.proofs.Common.{◌++◌, ◌≡◌, drop, flat_variable, map, scalars_of_kind}
use Rattle.mu_unroll.proofs.flat_variables.push_variables_of_kind.Given as goal

-- the variables so far and those that are left are all
abbrev pub invariant-loop-one : goal.invariant-loop-one
invariant-loop-one l =
    map flat_variable l.vars.items ++ scalars_of_kind l.kind (drop l.one-index l.known) ≡ map flat_variable l.initial.vars.items ++ scalars_of_kind l.kind l.known
