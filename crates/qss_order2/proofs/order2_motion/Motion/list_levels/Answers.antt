-- One more level.
use Rattle.qss_order2.proofs.Common
use Common.{ℕ, ℤ, ◌∙◌, ◌≡◌, ap, arith, FitsSigned, int_at, length, level_on, place_in, pos, refl}
use Common.{sym, tabulate, to_z-of_z, w128}
use Rattle.qss_order2.proofs.Motions.{levels_are}
use Rattle.qss_order2.proofs.Tables.{filled_more, filled_table}
use Rattle.qss_order2.proofs.order2_motion.Motion.list_levels.Goals as goal

pub loop-j-preserved : goal.loop-j-preserved
loop-j-preserved c =
    let a = c.args in
    let fits : FitsSigned w128 c.level_at.result = record { sfits = c.level_at.type_inv } in
    filled_more (pos 0) (λ k z. z ≡ level_on (place_in a.self.now.places.items k) (int_at
    a.self.now.changes.items k)
    a.tick) a.levels.now c.loop-j.levels c.loop-j.j _ (omega (arith, c.loop-j-test.true))
    c.loop-j.invariant
    (to_z-of_z w128 c.level_at.result fits ∙ c.level_at.ensures)

pub returns : goal.returns
returns c =
    let a = c.args in
    let f : ℕ → ℤ = λ k. level_on (place_in a.self.now.places.items k) (int_at
    a.self.now.changes.items k) a.tick in
    filled_table f a.levels.now c.loop-j.levels c.loop-j.j c.loop-j.invariant (omega (
      arith,
      c.loop-j-test.false,
    ))
    ∙ ap (λ n. tabulate n f) c.requires.levels
    ∙ sym (levels_are (length a.self.now.places.items) a.self.now.places.items
    a.self.now.changes.items a.tick f (λ j h. refl))
