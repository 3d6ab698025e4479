use Rattle.mu_names.proofs.Common
use Common.{◌+◌, ◌∙◌, ap, drop, expression, expression_faults, factors_faults, factors_of, map}
use Common.{name_kind_at, name_kind_in, scaled, signed, terms_faults, terms_of}
use Rattle.mu_names.proofs.LeastLemmas.{noted_first}
use Rattle.mu_names.proofs.Shapes.{terms_from, factors_from}
use Rattle.mu_names.proofs.name_checks.+naming.Goals as goal

pub check_terms-loop-term-preserved : goal.check_terms-loop-term-preserved
check_terms-loop-term-preserved t c =
    noted_first _ _ (expression_faults c.args.reading (name_kind_in c.args.loops.now (name_kind_at c.args.declared.now)) (expression c.term-item.result.value))
    (terms_faults c.args.reading (name_kind_in c.args.loops.now (name_kind_at c.args.declared.now)) (terms_of (map signed (drop (c.loop-term.term-index + 1) c.args.terms.now))))
    (terms_faults c.args.reading (name_kind_in c.args.loops.now (name_kind_at c.args.declared.now)) (terms_of (map signed (drop c.loop-term.term-index c.args.terms.now))))
    c.check_expression.ensures
    (ap (terms_faults c.args.reading (name_kind_in c.args.loops.now (name_kind_at c.args.declared.now))) (terms_from c.args.terms.now c.loop-term.term-index c.term-item.result c.loop-term-test.true c.term-item.is))
    ∙ c.loop-term.invariant

pub check_factors-loop-factor-preserved : goal.check_factors-loop-factor-preserved
check_factors-loop-factor-preserved t c =
    noted_first _ _ (expression_faults c.args.reading (name_kind_in c.args.loops.now (name_kind_at c.args.declared.now)) (expression c.factor-item.result.value))
    (factors_faults c.args.reading (name_kind_in c.args.loops.now (name_kind_at c.args.declared.now)) (factors_of (map scaled (drop (c.loop-factor.factor-index + 1) c.args.factors.now))))
    (factors_faults c.args.reading (name_kind_in c.args.loops.now (name_kind_at c.args.declared.now)) (factors_of (map scaled (drop c.loop-factor.factor-index c.args.factors.now))))
    c.check_expression.ensures
    (ap (factors_faults c.args.reading (name_kind_in c.args.loops.now (name_kind_at c.args.declared.now))) (factors_from c.args.factors.now c.loop-factor.factor-index c.factor-item.result c.loop-factor-test.true c.factor-item.is))
    ∙ c.loop-factor.invariant
