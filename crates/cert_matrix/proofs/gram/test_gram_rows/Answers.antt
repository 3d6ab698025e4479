use Rattle.cert_matrix.proofs.Common.{arith, below_more, ints, refl}
use Rattle.cert_matrix.proofs.gram.test_gram_rows.Goals as goal

pub loop-i-preserved : goal.loop-i-preserved
loop-i-preserved c = below_more _ _ c.loop-i.invariant (record {
  in_range = c.in-Some.ensures.in_range.0 refl;
  dominant = omega (arith, ints, c.in-Some.ensures.left, c.in-Some.ensures.right, c.if-sides.false);
})
