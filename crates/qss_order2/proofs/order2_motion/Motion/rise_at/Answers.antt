-- The slope of a state at its own tick stays.
use Rattle.qss_order2.proofs.Common
use Common.{ℤ, ◌∙◌, ◌≡◌, ap, arith, FitsSigned, get_or_default, int_at, no_place, Place, place_in}
use Common.{pos, rules, sym, to_z-of_z, w128}
use Rattle.qss_order2.proofs.Motions.{here_line}
use Rattle.qss_order2.proofs.order2_motion.Motion.rise_at.Goals as goal

pub returns-then-p-tick : goal.returns-then-p-tick
returns-then-p-tick c =
    let q = c.args.self.now in
    let j = c.args.state in
    let p : Place = c.index-p.result.now in
    let rise : ℤ = c.index.result.now in
    let place : p ≡ place_in q.places.items j = c.index-p.ensures
    ∙ get_or_default q.places.items j p no_place c.requires.state in
    let is : rise ≡ int_at q.rises.items j = c.index.ensures
    ∙ get_or_default q.rises.items j rise (pos 0) (omega (
      arith,
      c.requires.state,
      c.requires.moves.as_many_rises,
    )) in
    let fits : FitsSigned w128 rise = search rules in
    let since : (place_in q.places.items j).since ≡ c.args.tick =
    ap (λ (p : Place). p.since) (sym place) ∙ c.if-p-tick.true in
    to_z-of_z w128 rise fits ∙ is ∙ sym (here_line (int_at q.rises.items j) (int_at q.bends.items j)
    (place_in q.places.items j).since c.args.tick since)
