-- The truth that the crossing turns to is the other one.
use Rattle.qss_components.proofs.Common.{◌∙◌, ap, Bool, compares, holds_at, not, refl, Some, Truth}
use Rattle.qss_components.proofs.InputsTold.{other_truth}
use Rattle.qss_components.proofs.Ticks.{none_next}
use Rattle.qss_components.proofs.crossing_model.CrossingModelAtomic.output.Goals as goal

pub returns-clause-when : goal.returns-clause-when
returns-clause-when c next is = rw (c.advance.ensures.only next is ∙ c.in_ok-advance.was) (λ e. refl, λ e. refl)

pub returns-clause-what : goal.returns-clause-what
returns-clause-what c tick is =
    let w = c.args.self.now.detector in
    ap (λ (now : Bool). Truth c.args.self.now.place now) (ap not c.truth.ensures ∙ other_truth (compares w.rel w.value) (holds_at w tick) is.holds)

pub returns-in_err-advance-clause-what : goal.returns-in_err-advance-clause-what
returns-in_err-advance-clause-what c tick is = absurd (none_next tick c.advance.result (c.advance.ensures.only (Some tick) is) c.in_err-advance.was)
