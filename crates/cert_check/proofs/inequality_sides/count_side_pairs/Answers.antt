use Rattle.cert_check.proofs.Common.{◌≤◌, arith}
use Rattle.cert_check.proofs.Pairs.{pairs-few, pairs-more}
use Rattle.cert_check.proofs.inequality_sides.count_side_pairs.Goals as goal

pub overflow_add-count : goal.overflow_add-count
overflow_add-count c =
    let few : c.loop-i.i ≤ 16 = omega (arith, c.loop-i-test.true, c.requires) in
    let a = pairs-few c.loop-i.i few in
    omega (arith, c.loop-i.invariant, c.loop-i-test.true, c.requires)

pub loop-i-preserved : goal.loop-i-preserved
loop-i-preserved c = let a = pairs-more c.loop-i.i in omega (arith, c.loop-i.invariant)
