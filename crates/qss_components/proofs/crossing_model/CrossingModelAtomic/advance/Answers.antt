-- The tick is that of the detector.
use Rattle.qss_components.proofs.Common.{◌≢◌, compares, holds_at}
use Rattle.qss_components.proofs.Ticks.{first_one}
use Rattle.qss_components.proofs.crossing_model.CrossingModelAtomic.advance.Goals as goal

pub returns-clause-only : goal.returns-clause-only
returns-clause-only c next is =
    let w = c.args.self.now.detector in
    first_one (λ tick. holds_at w tick ≢ compares w.rel w.value) w.tick next c.next_change.result is c.next_change.ensures
