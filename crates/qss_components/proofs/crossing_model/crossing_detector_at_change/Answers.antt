-- A detector at the tick at which its truth changes.
use Rattle.qss_components.proofs.Common
use Common.{◌≡◌, ap, arith, DetectorView, IsCrossingNext, Some, subst, sym}
use Rattle.qss_components.proofs.Across.{turned_small}
use Rattle.qss_components.proofs.crossing_model.crossing_detector_at_change.Goals as goal

pub move_to-requires-clause-size_limit : goal.move_to-requires-clause-size_limit
move_to-requires-clause-size_limit c =
    let w : DetectorView = record { rel = c.detector.inside.rel; tick = c.detector.inside.tick; value = c.detector.inside.value; speed = c.detector.inside.speed } in
    turned_small w c.detector.invariant c.args.tick (subst (λ (v : DetectorView). IsCrossingNext v (Some c.args.tick)) (sym c.detector.view_is) c.requires)

pub returns-clause-later : goal.returns-clause-later
returns-clause-later c next is =
    let own : c.move_to.new.self.tick ≡ c.args.tick = ap (λ (w : DetectorView). w.tick) c.move_to.ensures in
    omega (arith, own, is.later)
