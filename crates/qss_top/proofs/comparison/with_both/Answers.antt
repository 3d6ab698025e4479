use Rattle.qss_top.proofs.Common.{◌∙◌, inl, inr, sym}
use Rattle.qss_answers.specs.Comparisons.{IsComparisonRefused}
use Rattle.qss_top.proofs.Comparing.{stop_writes}
use Rattle.qss_top.proofs.FrameFacts.{map_answers}
use Rattle.qss_top.proofs.comparison.with_both.Goals as goal

pub write_text-requires : goal.write_text-requires
write_text-requires g c e =
    let expected = c.in-Ok.ensures.compared.told in
    let is = c.deref.ensures.value in
    cc (sym expected ∙ sym is ∙ e)

pub returns-in-Ok : goal.returns-in-Ok
returns-in-Ok g c = map_answers (λ a is. inr (c.in-Ok.text.items, c.in-Ok.ensures.compared, is))
    (rw c.deref.ensures.value at c.write_text.ensures)

pub returns-in-Err : goal.returns-in-Err
returns-in-Err g c = map_answers (λ a so. inl (c.in-Err.stop, so.0, so.1))
    (stop_writes c.args.basis.m.now (IsComparisonRefused c.args.basis.m.now c.args.basis.c.now
    c.args.t1.now c.args.t2.now) c.in-Err.stop c.in-Err.ensures.stopped c.stopped.ensures)
