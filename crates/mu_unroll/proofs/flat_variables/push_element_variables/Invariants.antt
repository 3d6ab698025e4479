use Rattle.mu_unroll.proofs.Common.{◌++◌, ◌+◌, ◌-◌, ◌≡◌, elements_from, flat_variable, map}
use Rattle.mu_unroll.proofs.flat_variables.push_element_variables.Given as goal

-- the elements so far and those that are left are all
abbrev pub invariant-loop-before : goal.invariant-loop-before
invariant-loop-before l =
    map flat_variable l.vars.items ++ elements_from l.kind l.known (l.before + 1) (l.count - l.before)
    ≡ map flat_variable l.initial.vars.items ++ elements_from l.kind l.known 1 l.count
