use Rattle.mu_affine.proofs.Common
use Common.{ℕ, ◌+◌, ◌-◌, ◌∙◌, ◌≡◌, ap, arith, drop, flat_variable, map, take}
use Rattle.mu_affine.proofs.Seen.{counts_within, states_seen, discretes_seen}
use Rattle.mu_affine.proofs.rounded_machine.split_variables.Goals as goal

pub slice_bounds-discretes-end : goal.slice_bounds-discretes-end
slice_bounds-discretes-end c = omega (arith, counts_within c.args.vars.now, c.count_state_variables-first.ensures, c.count_discrete_variables.ensures)

pub returns-clause-states : goal.returns-clause-states
returns-clause-states c = states_seen c.args.vars.now c.count_state_variables-first.result c.count_state_variables-first.ensures

pub returns-clause-discretes : goal.returns-clause-discretes
returns-clause-discretes c =
    let first = c.count_state_variables-first.result in
    let count = c.count_discrete_variables.result in
    let same : first + count - first ≡ count = omega arith in
    ap (λ (n : ℕ). map flat_variable (take n (drop first c.args.vars.now))) same ∙ discretes_seen c.args.vars.now first count c.count_state_variables-first.ensures c.count_discrete_variables.ensures
