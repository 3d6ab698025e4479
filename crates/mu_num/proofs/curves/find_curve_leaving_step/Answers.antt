-- The curve does not decrease up to its maximum, and from there its negation does not.
use Rattle.mu_num.proofs.Common.{◌≡◌, FitsSigned, neg_ℤ, to_z-of_z, w128}
use Rattle.mu_num.proofs.CurveLaws.{rises_before, falls_after, falls_opposite, left_rising}
use Rattle.mu_num.proofs.CurveLaws.{left_falling, turn_below}
use Rattle.mu_num.proofs.curves.find_curve_leaving_step.Goals as goal

pub find_rising_curve_step-requires-clause-rises : goal.find_rising_curve_step-requires-clause-rises
find_rising_curve_step-requires-clause-rises c =
    let of_c = c.ranges.c in
    let of_b = c.ranges.b in
    let of_a = c.ranges.a in
    let of_bound = c.ranges.bound in
    let of_back : FitsSigned w128 c.negate_curve_term-back.result = record { sfits = c.negate_curve_term-back.type_inv } in
    let back : c.negate_curve_term-back.result ≡ neg_ℤ c.args.a = simp to_z-of_z at c.negate_curve_term-back.ensures.value in
    let rising = rises_before c.args.b c.args.a c.negate_curve_term-back.result c.find_curve_turn-turn.result back (simp to_z-of_z at c.find_curve_turn-turn.ensures.rises) in
    simp to_z-of_z rising

pub find_rising_curve_step-requires-in-None-clause-below : goal.find_rising_curve_step-requires-in-None-clause-below
find_rising_curve_step-requires-in-None-clause-below c =
    let of_c = c.ranges.c in
    let of_b = c.ranges.b in
    let of_a = c.ranges.a in
    let of_bound = c.ranges.bound in
    let of_back : FitsSigned w128 c.negate_curve_term-back.result = record { sfits = c.negate_curve_term-back.type_inv } in
    let back : c.negate_curve_term-back.result ≡ neg_ℤ c.args.a = simp to_z-of_z at c.negate_curve_term-back.ensures.value in
    let rising = rises_before c.args.b c.args.a c.negate_curve_term-back.result c.find_curve_turn-turn.result back (simp to_z-of_z at c.find_curve_turn-turn.ensures.rises) in
    let falling = falls_after c.args.b c.args.a c.negate_curve_term-back.result c.find_curve_turn-turn.result c.args.reach back (simp to_z-of_z at c.find_curve_turn-turn.ensures.falls) in
    let of_start : FitsSigned w128 c.negate_curve_term.result = record { sfits = c.negate_curve_term.type_inv } in
    let of_slope : FitsSigned w128 c.negate_curve_term-in-None.result = record { sfits = c.negate_curve_term-in-None.type_inv } in
    let start : c.negate_curve_term.result ≡ neg_ℤ c.args.c = simp to_z-of_z at c.negate_curve_term.ensures.value in
    let slope : c.negate_curve_term-in-None.result ≡ neg_ℤ c.args.b = simp to_z-of_z at c.negate_curve_term-in-None.ensures.value in
    let none = simp to_z-of_z at c.in-None.ensures in
    simp to_z-of_z
    (turn_below c.args.c c.args.b c.args.a c.args.bound c.requires.inside c.find_curve_turn-turn.result c.args.reach c.find_curve_turn-turn.ensures.in_reach rising falling
    c.negate_curve_term.result c.negate_curve_term-in-None.result c.negate_curve_term-back.result start slope back none)

pub find_rising_curve_step-requires-in-None-clause-rises : goal.find_rising_curve_step-requires-in-None-clause-rises
find_rising_curve_step-requires-in-None-clause-rises c =
    let of_c = c.ranges.c in
    let of_b = c.ranges.b in
    let of_a = c.ranges.a in
    let of_bound = c.ranges.bound in
    let of_back : FitsSigned w128 c.negate_curve_term-back.result = record { sfits = c.negate_curve_term-back.type_inv } in
    let back : c.negate_curve_term-back.result ≡ neg_ℤ c.args.a = simp to_z-of_z at c.negate_curve_term-back.ensures.value in
    let rising = rises_before c.args.b c.args.a c.negate_curve_term-back.result c.find_curve_turn-turn.result back (simp to_z-of_z at c.find_curve_turn-turn.ensures.rises) in
    let falling = falls_after c.args.b c.args.a c.negate_curve_term-back.result c.find_curve_turn-turn.result c.args.reach back (simp to_z-of_z at c.find_curve_turn-turn.ensures.falls) in
    let of_start : FitsSigned w128 c.negate_curve_term.result = record { sfits = c.negate_curve_term.type_inv } in
    let of_slope : FitsSigned w128 c.negate_curve_term-in-None.result = record { sfits = c.negate_curve_term-in-None.type_inv } in
    let start : c.negate_curve_term.result ≡ neg_ℤ c.args.c = simp to_z-of_z at c.negate_curve_term.ensures.value in
    let slope : c.negate_curve_term-in-None.result ≡ neg_ℤ c.args.b = simp to_z-of_z at c.negate_curve_term-in-None.ensures.value in
    simp to_z-of_z (falls_opposite c.args.b c.args.a c.negate_curve_term-in-None.result c.negate_curve_term-back.result c.find_curve_turn-turn.result c.args.reach slope back falling)

pub returns-in-Some : goal.returns-in-Some
returns-in-Some c =
    let of_c = c.ranges.c in
    let of_b = c.ranges.b in
    let of_a = c.ranges.a in
    let of_bound = c.ranges.bound in
    let of_back : FitsSigned w128 c.negate_curve_term-back.result = record { sfits = c.negate_curve_term-back.type_inv } in
    let back : c.negate_curve_term-back.result ≡ neg_ℤ c.args.a = simp to_z-of_z at c.negate_curve_term-back.ensures.value in
    let rising = rises_before c.args.b c.args.a c.negate_curve_term-back.result c.find_curve_turn-turn.result back (simp to_z-of_z at c.find_curve_turn-turn.ensures.rises) in
    let falling = falls_after c.args.b c.args.a c.negate_curve_term-back.result c.find_curve_turn-turn.result c.args.reach back (simp to_z-of_z at c.find_curve_turn-turn.ensures.falls) in
    left_rising c.args.c c.args.b c.args.a c.args.bound c.requires.inside c.find_curve_turn-turn.result c.args.reach c.find_curve_turn-turn.ensures.in_reach rising falling c.in-Some.n
    (simp to_z-of_z at c.in-Some.ensures)

pub returns-in-None : goal.returns-in-None
returns-in-None c =
    let of_c = c.ranges.c in
    let of_b = c.ranges.b in
    let of_a = c.ranges.a in
    let of_bound = c.ranges.bound in
    let of_back : FitsSigned w128 c.negate_curve_term-back.result = record { sfits = c.negate_curve_term-back.type_inv } in
    let back : c.negate_curve_term-back.result ≡ neg_ℤ c.args.a = simp to_z-of_z at c.negate_curve_term-back.ensures.value in
    let rising = rises_before c.args.b c.args.a c.negate_curve_term-back.result c.find_curve_turn-turn.result back (simp to_z-of_z at c.find_curve_turn-turn.ensures.rises) in
    let falling = falls_after c.args.b c.args.a c.negate_curve_term-back.result c.find_curve_turn-turn.result c.args.reach back (simp to_z-of_z at c.find_curve_turn-turn.ensures.falls) in
    let of_start : FitsSigned w128 c.negate_curve_term.result = record { sfits = c.negate_curve_term.type_inv } in
    let of_slope : FitsSigned w128 c.negate_curve_term-in-None.result = record { sfits = c.negate_curve_term-in-None.type_inv } in
    let start : c.negate_curve_term.result ≡ neg_ℤ c.args.c = simp to_z-of_z at c.negate_curve_term.ensures.value in
    let slope : c.negate_curve_term-in-None.result ≡ neg_ℤ c.args.b = simp to_z-of_z at c.negate_curve_term-in-None.ensures.value in
    let none = simp to_z-of_z at c.in-None.ensures in
    left_falling c.args.c c.args.b c.args.a c.args.bound c.requires.inside c.find_curve_turn-turn.result c.args.reach c.find_curve_turn-turn.ensures.in_reach rising falling
    c.negate_curve_term.result c.negate_curve_term-in-None.result c.negate_curve_term-back.result start slope back none c.find_rising_curve_step-in-None.result
    (simp to_z-of_z at c.find_rising_curve_step-in-None.ensures)
