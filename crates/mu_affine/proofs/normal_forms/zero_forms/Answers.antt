use Rattle.mu_affine.proofs.Common
use Common.{◌+◌, ◌∙◌, All-push, ap, AreZeros, constant_form, IsZero, length, length_push, subst}
use Common.{sym}
use Rattle.mu_affine.proofs.normal_forms.zero_forms.Goals as goal

pub loop-made-preserved : goal.loop-made-preserved
loop-made-preserved c = record {
  zeros = subst AreZeros (sym c.in_ok-push.ensures.items) (All-push IsZero c.loop-made.forms.items c.constant.result c.loop-made.invariant.zeros (c.constant.ensures.meaning ∙ ap constant_form c.whole.ensures, c.constant.ensures.finished));
  one_each = ap length c.in_ok-push.ensures.items ∙ length_push c.loop-made.forms.items c.constant.result ∙ ap (λ n. n + 1) c.loop-made.invariant.one_each;
}
