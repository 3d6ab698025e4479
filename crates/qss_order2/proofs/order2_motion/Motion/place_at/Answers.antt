-- A place of the tick stays.
use Rattle.qss_order2.proofs.Common
use Common.{◌∙◌, ◌≡◌, ap, get_or_default, int_at, no_place, Place, place_in, sym}
use Rattle.qss_order2.proofs.Motions.{here_place}
use Rattle.qss_order2.proofs.order2_motion.Motion.place_at.Goals as goal

pub returns-then-p-tick : goal.returns-then-p-tick
returns-then-p-tick c =
    let q = c.args.self.now in
    let j = c.args.state in
    let p : Place = c.index-p.result.now in
    let place : p ≡ place_in q.places.items j = c.index-p.ensures
    ∙ get_or_default q.places.items j p no_place c.requires.state in
    let since : (place_in q.places.items j).since ≡ c.args.tick =
    ap (λ (p : Place). p.since) (sym place) ∙ c.if-p-tick.true in
    place ∙ sym (here_place (place_in q.places.items j) (int_at q.changes.items j)
    (int_at q.rises.items j) (int_at q.bends.items j) c.args.tick since)
