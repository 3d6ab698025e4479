-- The first one is the least.
use Rattle.qss_devs.proofs.Common
use Common.{◌∙◌, ◌≡◌, arith, exceeds, first_is, FitsSigned, int_at, ints, pos, position-none, sym}
use Common.{to_z-of_z, true, w128}
use Rattle.qss_devs.proofs.coupled_arrivals.check_arrival_states.Goals as goal

pub returns-then-exceeds_power_of_two : goal.returns-then-exceeds_power_of_two
returns-then-exceeds_power_of_two c =
    let j = c.loop-j.j in
    let state = int_at c.args.states.now j in
    let fits : FitsSigned w128 state = omega (arith, ints) in
    let here : exceeds 88 state ≡ true =
    sym (rw (to_z-of_z w128 state fits) at c.exceeds_power_of_two.ensures)
    ∙ c.if-exceeds_power_of_two.true in
    sym (first_is (pos 0) (exceeds 88) c.args.states.now j c.loop-j-test.true c.loop-j.invariant here)

pub returns : goal.returns
returns c =
    sym (position-none (pos 0) (exceeds 88) c.args.states.now
    (λ k h. c.loop-j.invariant k (omega (arith, h, c.loop-j-test.false))))
