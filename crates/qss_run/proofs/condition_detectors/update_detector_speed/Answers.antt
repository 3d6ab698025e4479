-- The detector is at its value at the tick.
use Rattle.qss_run.proofs.Common
use Common.{◌∙◌, ◌≡◌, ◌≢◌, ap, arith, DetectorView, due_at, FitsSigned, get_or-set_same, GoesOn}
use Common.{ints, None, of_z, subst, sym, to_z-of_z, value_at, w128}
use Rattle.qss_run.proofs.Speeds.{goes_on_turned}
use Rattle.qss_run.proofs.condition_detectors.update_detector_speed.Goals as goal

pub returns-clause-goes_on : goal.returns-clause-goes_on
returns-clause-goes_on c =
    let tick = c.args.tick in
    let old : DetectorView = c.args.detector.now in
    let value : FitsSigned w128 c.detector-2.inside.value = omega (arith, ints, c.detector-2.invariant.small_value) in
    let speed : FitsSigned w128 c.args.speed = c.ranges.speed in
    let here : c.detector-2.inside.value ≡ value_at old tick = ap (λ (w : DetectorView). w.value) c.detector-2.view_is ∙ ap (λ (w : DetectorView). w.value) c.move_to.ensures in
    let set : c.set.new.self ≡ record { rel = c.move_to.new.self.rel; tick = c.move_to.new.self.tick; value = c.detector-2.inside.value; speed = c.args.speed } = simp to_z-of_z at c.set.ensures in
    let is : c.set.new.self ≡ record { rel = old.rel; tick = tick; value = value_at old tick; speed = c.args.speed } =
    set
    ∙ ap (λ (w : DetectorView). record { rel = w.rel; tick = w.tick; value = c.detector-2.inside.value; speed = c.args.speed }) c.move_to.ensures
    ∙ ap (λ z. record { rel = old.rel; tick = tick; value = z; speed = c.args.speed }) here in
    let other : old.speed ≢ c.args.speed = λ e. c.if-detector-speed.false (ap (of_z w128) (ap (λ (w : DetectorView). w.speed) c.detector.view_is ∙ e)) in
    let held : due_at c.set-2.new.self c.args.place ≡ c.next_change.result = ap (λ due. due_at due c.args.place) c.set-2.ensures ∙ get_or-set_same c.args.agenda.now c.args.place c.next_change.result None c.requires.place in
    subst (GoesOn tick c.args.speed old c.set.new.self (due_at c.args.agenda.now c.args.place)) (sym held)
    (goes_on_turned tick c.args.speed old c.set.new.self (due_at c.args.agenda.now c.args.place) c.next_change.result other is c.next_change.ensures)
