-- The sum is sent where it changed.
use Rattle.qss_components.proofs.Common.{ℤ, ◌∙◌, ap, FitsSigned, refl, Slope, sym, to_z-of_z, w128}
use Rattle.qss_components.proofs.Ticks.{none_next}
use Rattle.qss_components.proofs.function_model.FunctionModelAtomic.output.Goals as goal

pub returns-clause-when : goal.returns-clause-when
returns-clause-when c next is = rw (sym is ∙ c.in_ok-self.was) (λ e. refl, λ e. refl)

pub returns-clause-what : goal.returns-clause-what
returns-clause-what c tick is =
    let s = c.args.self.now in
    let sum : FitsSigned w128 c.sum.result = record { sfits = c.sum.type_inv } in
    ap (λ (z : ℤ). Slope s.row z) (to_z-of_z w128 c.sum.result sum ∙ c.sum.ensures)

pub returns-in_err-self-clause-what : goal.returns-in_err-self-clause-what
returns-in_err-self-clause-what c tick is = absurd (none_next tick c.args.self.now.changed (sym is) c.in_err-self.was)
