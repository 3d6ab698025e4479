-- Before the place that is left the curve is below its value there.
use Rattle.mu_num.proofs.Common.{◌≤◌, arith, to_z-of_z}
use Rattle.mu_num.proofs.CurveLaws.{below_both, rises_to}
use Rattle.mu_num.proofs.curves.search_rising_curve.Goals as goal

pub returns-clause-first : goal.returns-clause-first
returns-clause-first c m after before =
    let of_c = c.ranges.c in
    let of_b = c.ranges.b in
    let of_a = c.ranges.a in
    let of_bound = c.ranges.bound in
    let below = simp to_z-of_z at c.loop-above.invariant.3 in
    let low : m ≤ c.loop-above.below = omega arith in
    let high : c.loop-above.below ≤ c.args.high = omega arith in
    below_both _ _ _ (rises_to c.args.c c.args.b c.args.a c.args.low c.args.high m c.loop-above.below c.requires.rises after low high) below
