use Rattle.cert_check.proofs.Common
use Common.{◌<◌, ◌∙◌, arith, below_more, FitsSigned, length, refl, rules, scaled_offset, to_z-of_z}
use Common.{vector, w128}
use Rattle.std.proofs.Common.{length-set}
use Rattle.cert_check.proofs.Gaps.{written}
use Rattle.cert_check.proofs.inequality_sides.side_gaps.Goals as goal

pub loop-k-preserved : goal.loop-k-preserved
loop-k-preserved c =
    let fits : FitsSigned w128 c.in_ok-gaps.field-0 = search rules in
    let inside : c.loop-k.k < length c.loop-k.gaps = omega (arith, c.loop-k-test.true, c.requires, c.loop-k.invariant.size) in
    record {
      size = rw to_z-of_z (length-set c.loop-k.gaps c.loop-k.k c.in_ok-gaps.field-0 ∙ c.loop-k.invariant.size);
      in_range = below_more _ _ c.loop-k.invariant.in_range (c.in_ok-gaps.ensures.in_range.0 refl);
      value = rw to_z-of_z (written c.loop-k.gaps c.loop-k.k c.in_ok-gaps.field-0 (scaled_offset (vector c.args.start.now) c.args.factor.now (vector c.args.base.now))
          inside c.loop-k.invariant.value c.in_ok-gaps.ensures.value);
    }
