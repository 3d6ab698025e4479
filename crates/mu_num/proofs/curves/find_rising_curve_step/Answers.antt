-- A curve that does not decrease reaches a bound up to a step if and only if it has it there.
use Rattle.mu_num.proofs.Common
use Common.{◌<ℤ◌, ◌≡◌, arith, curve_at, FitsSigned, subst, sym, to_z-of_z, w128}
use Rattle.mu_num.proofs.Tests.{int_lt-true}
use Rattle.mu_num.proofs.CurveLaws.{below_both, rises_to}
use Rattle.mu_num.proofs.curves.find_rising_curve_step.Goals as goal

pub returns-then-low-high : goal.returns-then-low-high
returns-then-low-high c m after within =
    let e : m ≡ c.args.low = omega arith in
    subst (λ n. curve_at c.args.c c.args.b c.args.a n <ℤ c.args.bound) (sym e) c.requires.below

pub returns-then-curve_at-bound : goal.returns-then-curve_at-bound
returns-then-curve_at-bound c m after within =
    let of_c = c.ranges.c in
    let of_b = c.ranges.b in
    let of_a = c.ranges.a in
    let of_bound = c.ranges.bound in
    let of_value : FitsSigned w128 c.curve_at.result = record { sfits = c.curve_at.type_inv } in
    let value : c.curve_at.result ≡ curve_at c.args.c c.args.b c.args.a c.args.high = simp to_z-of_z at c.curve_at.ensures in
    let test : c.curve_at.result <ℤ c.args.bound = int_lt-true _ _ (simp to_z-of_z at c.if-curve_at-bound.true) in
    let below : curve_at c.args.c c.args.b c.args.a c.args.high <ℤ c.args.bound = subst (λ z. z <ℤ c.args.bound) value test in
    below_both _ _ _ (rises_to c.args.c c.args.b c.args.a c.args.low c.args.high m c.args.high c.requires.rises after within (omega arith)) below

pub returns : goal.returns
returns c =
    let of_c = c.ranges.c in
    let of_b = c.ranges.b in
    let of_a = c.ranges.a in
    let of_bound = c.ranges.bound in
    record {
      later = c.search_rising_curve.ensures.later;
      within = c.search_rising_curve.ensures.in_reach;
      reached = simp to_z-of_z at c.search_rising_curve.ensures.holds;
      before = simp to_z-of_z at c.search_rising_curve.ensures.first;
    }
