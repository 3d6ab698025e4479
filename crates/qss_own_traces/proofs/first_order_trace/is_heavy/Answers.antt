-- The mode coefficients at the start fit, so what is left of the test is the absolute row sum.
use Rattle.qss_own_traces.proofs.Common
use Common.{ℤ, ◌||◌, ◌∙◌, ◌≡◌, All, ap, Bool, discretes_start, exceeds, FitsSigned, IsTrue}
use Common.{IsWithin, List, mode_fits, not, row_at, start_discretes, starts-fit, state_count, subst}
use Common.{sym, to_z-of_z, true, w128}
use Rattle.qss_machine.specs.Machines.{weight_at}
use Rattle.qss_own_traces.proofs.first_order_trace.is_heavy.Goals as goal

pub weight-requires-clause-small_discretes : goal.weight-requires-clause-small_discretes
weight-requires-clause-small_discretes c = subst (All (IsWithin 43)) (sym c.requires.discretes) (discretes_start c.args.m.now)

pub weight-requires-clause-modes : goal.weight-requires-clause-modes
weight-requires-clause-modes c =
    let m = c.args.m.now in
    subst (λ (d : List ℤ). IsTrue (mode_fits m.f (state_count m) (row_at m c.args.row) d)) (sym c.requires.discretes) (starts-fit m c.args.row c.requires.row)

pub returns : goal.returns
returns c =
    let m = c.args.m.now in
    let row = c.args.row in
    let levels : List ℤ = c.args.levels.now in
    let fits : FitsSigned w128 c.weight.result = record { sfits = c.weight.type_inv } in
    let modes : mode_fits m.f (state_count m) (row_at m row) (start_discretes m) ≡ true = starts-fit m row c.requires.row in
    c.exceeds_power_of_two.ensures ∙ ap (exceeds 88) (to_z-of_z w128 c.weight.result fits ∙ c.weight.ensures ∙ ap (λ (d : List ℤ). weight_at m row levels d) c.requires.discretes)
    ∙ sym (ap (λ (b : Bool). not b || exceeds 88 (weight_at m row levels (start_discretes m))) modes)
