use Rattle.cert_check.proofs.Common.{◌+◌, ◌-◌, ◌∙◌, ◌≡◌, ◌≤◌, arith, suc, sym}
use Rattle.cert_check.proofs.Pairs.{pair-later, pairs-later}
use Rattle.cert_check.proofs.inequality_sides.side_pair_at.Goals as goal

pub loop-i-preserved : goal.loop-i-preserved
loop-i-preserved c =
    let w : c.args.n - c.loop-i.i ≡ suc (c.args.n - 1 - c.loop-i.i) = omega (arith, c.loop-i-test.true) in
    let e : c.args.n - (c.loop-i.i + 1) ≡ c.args.n - 1 - c.loop-i.i = omega arith in
    let h : c.args.n - 1 - c.loop-i.i ≤ c.loop-i.rest = omega (arith, c.if-rest-width.false) in
    record {
      same = rw e (sym (pair-later c.loop-i.i (c.args.n - c.loop-i.i) c.loop-i.rest (c.args.n - 1 - c.loop-i.i) w h) ∙ c.loop-i.invariant.same);
      left = rw e (pairs-later (c.args.n - c.loop-i.i) c.loop-i.rest (c.args.n - 1 - c.loop-i.i) w h c.loop-i.invariant.left);
    }
