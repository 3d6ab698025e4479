use Rattle.mu_num.proofs.Common
use Common.{IsGcd, IsGcd-from_mod, IsGcd-from_zero, le_of_dvd, pos_of_dvd_of_pos}
use Rattle.mu_num.proofs.ratio.ratio_common_divisor.Goals as goal

pub loop-y-preserved : goal.loop-y-preserved
loop-y-preserved c = λ g h. c.loop-y.invariant g (IsGcd-from_mod _ _ g h)

pub returns : goal.returns
returns c =
    let h : IsGcd c.args.a c.args.b c.loop-y.x = c.loop-y.invariant _ (IsGcd-from_zero _ _ c.loop-y-test.false) in
    record { divisor = h; positive = pos_of_dvd_of_pos h.1 c.requires; at_most = le_of_dvd c.requires h.1 }
