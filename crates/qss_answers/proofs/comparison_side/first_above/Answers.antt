use Rattle.qss_answers.proofs.Common.{◌≤ℤ◌, arith, int_at, rules}
use Rattle.std.proofs.Common.{below_more}
use Rattle.std.proofs.lemmas.Int.{ints}
use Rattle.qss_answers.proofs.comparison_side.first_above.Goals as goal

pub loop-j-preserved : goal.loop-j-preserved
loop-j-preserved c =
    let step : int_at c.args.t.now.q c.loop-j.j ≤ℤ int_at c.args.c.now.q c.loop-j.j =
    first_of (search rules, grind (arith, ints, c.if-as_slice-j.false, c.as_slice.ensures, c.as_slice-in-loop-j.ensures)) in
    below_more _ _ c.loop-j.invariant step
