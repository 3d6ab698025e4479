use Rattle.mu_unroll.proofs.Common.{meant_at}
use Rattle.mu_unroll.proofs.FoldedParts.{factors_pushed, terms_pushed}
use Rattle.mu_unroll.proofs.constant_folding.+folding_expressions.Goals as goal

pub fold_terms-loop-term-preserved : goal.fold_terms-loop-term-preserved
fold_terms-loop-term-preserved t c =
    terms_pushed (meant_at c.args.declared.now) c.loop-term.all.items c.push.new.self.items
    c.args.terms.now c.loop-term.term-index c.term-item.result c.in_ok-value.value
    c.in_ok-push.ensures.items c.loop-term-test.true c.term-item.is c.loop-term.invariant
    c.in_ok-value.ensures

pub fold_factors-loop-factor-preserved : goal.fold_factors-loop-factor-preserved
fold_factors-loop-factor-preserved t c =
    factors_pushed (meant_at c.args.declared.now) c.loop-factor.all.items c.push.new.self.items
    c.args.factors.now c.loop-factor.factor-index c.factor-item.result c.in_ok-value.value
    c.in_ok-push.ensures.items c.loop-factor-test.true c.factor-item.is c.loop-factor.invariant
    c.in_ok-value.ensures
