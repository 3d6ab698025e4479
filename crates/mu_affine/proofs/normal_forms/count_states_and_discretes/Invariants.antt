use Rattle.mu_affine.proofs.Common
use Common.{◌+◌, ◌≡◌, ◌≤◌, count_of_role, Discrete, drop, flat_variable, map, State}
use Rattle.mu_affine.proofs.normal_forms.count_states_and_discretes.Given as goal

-- the variables so far and those that are left are all
abbrev pub invariant-loop-var : goal.invariant-loop-var
invariant-loop-var l = record {
  states : l.sizes.states + count_of_role State (map flat_variable (drop l.var-index l.vars)) ≡ count_of_role State (map flat_variable l.vars);
  discretes : l.sizes.discretes + count_of_role Discrete (map flat_variable (drop l.var-index l.vars)) ≡ count_of_role Discrete (map flat_variable l.vars);
  few_states : l.sizes.states ≤ l.var-index;
  few_discretes : l.sizes.discretes ≤ l.var-index;
}
