-- The first one is the least.
use Rattle.qss_order2.proofs.Common
use Common.{◌∙◌, ◌≡◌, arith, exceeds, FitsSigned, int_at, ints, pos, sym, to_z-of_z, true, w128}
use Rattle.qss_order2.proofs.Tables.{first_is, none_is}
use Rattle.qss_order2.proofs.order2_limits.check_level_sizes.Goals as goal

pub returns-then-exceeds_power_of_two : goal.returns-then-exceeds_power_of_two
returns-then-exceeds_power_of_two c =
    let fits : FitsSigned w128 (int_at c.args.levels.now c.loop-j.j) = omega (arith, ints) in
    let here : exceeds 49 (int_at c.args.levels.now c.loop-j.j) ≡ true =
    sym (rw (to_z-of_z w128 (int_at c.args.levels.now c.loop-j.j) fits) at
    c.exceeds_power_of_two.ensures)
    ∙ c.if-exceeds_power_of_two.true in
    sym (first_is (exceeds 49) c.args.levels.now c.loop-j.j (pos 0) c.loop-j-test.true
    c.loop-j.invariant here)

pub returns : goal.returns
returns c = sym (none_is (exceeds 49) c.args.levels.now (pos 0) (λ k h. c.loop-j.invariant k
    (omega (arith, h, c.loop-j-test.false))))
