-- The level exceeds its limit, or it is taken.
use Rattle.qss_states.proofs.Common
use Common.{ℤ, ◌∙◌, ◌≡◌, arith, exceeds, false, FitsSigned, int_at, ints, IsWithin, refl, sym}
use Common.{to_z-of_z, w128, w64}
use Rattle.mu_num.proofs.SizeTests.{passes-within}
use Rattle.qss_states.proofs.requantization.take_within_limit.Goals as goal

pub returns-then-exceeds_power_of_two : goal.returns-then-exceeds_power_of_two
returns-then-exceeds_power_of_two c = record {
  past = sym (sym (rw (to_z-of_z w128 c.args.fresh c.ranges.fresh) at c.exceeds_power_of_two.ensures) ∙ c.if-exceeds_power_of_two.true);
  left = λ past. (refl, refl);
  taken = λ within. absurd (cc);
  one_more = record { few = omega arith; room = refl };
}

pub returns : goal.returns
returns c =
    let x : ℤ = int_at c.args.at.now.states.now c.args.state in
    let fits : FitsSigned w128 x = omega (arith, ints, c.requires.small_state) in
    let small : exceeds 43 c.args.fresh ≡ false =
    sym (rw (to_z-of_z w128 c.args.fresh c.ranges.fresh) at c.exceeds_power_of_two.ensures)
    ∙ c.if-exceeds_power_of_two.false in
    let level : IsWithin 43 c.args.fresh = passes-within 43 c.args.fresh small in
    let narrow : FitsSigned w64 c.args.fresh = omega (arith, ints, level) in
    record {
      past = sym small;
      left = λ past. absurd (cc);
      taken = λ within.
          rw (to_z-of_z w128 x fits, to_z-of_z w128 c.args.fresh c.ranges.fresh, to_z-of_z w64 c.args.fresh narrow)
          at c.take_level.ensures.taken;
      one_more = c.take_level.ensures.one_more;
    }
