use Rattle.mu_causal.proofs.Common
use Common.{◌++◌, ◌+◌, ◌∙◌, ap, append_assoc, drop, flat_expression, flat_factors_of, flat_scaled}
use Common.{flat_signed, flat_terms_of, map, names_of, names_of_factors, names_of_terms, sym}
use Rattle.mu_causal.proofs.FlatShapes.{flat_expression-Pow, flat_terms_from, flat_factors_from}
use Rattle.mu_causal.proofs.dependency_graph.+naming.Goals as goal

pub push_dependencies-returns-in-Pow : goal.push_dependencies-returns-in-Pow
push_dependencies-returns-in-Pow t c =
    let e = ap flat_expression c.in-Pow.is ∙ flat_expression-Pow c.in-Pow.base c.in-Pow.exp c.in-Pow.at in
    rw (e, ← c.deref-in-Pow.ensures) c.push_dependencies.ensures

pub push_term_dependencies-loop-term-preserved : goal.push_term_dependencies-loop-term-preserved
push_term_dependencies-loop-term-preserved t c =
    let before = c.loop-term.names.items in
    let rest = names_of_terms (flat_terms_of (map flat_signed (drop (c.loop-term.term-index + 1) c.args.terms.now))) in
    let from = flat_terms_from c.args.terms.now c.loop-term.term-index c.term-item.result c.loop-term-test.true c.term-item.is in
    ap (λ names. names ++ rest) c.in_ok-push_dependencies.ensures
    ∙ append_assoc before (names_of (flat_expression c.term-item.result.value)) rest
    ∙ ap (λ terms. before ++ names_of_terms terms) (sym from)
    ∙ c.loop-term.invariant

pub push_factor_dependencies-loop-factor-preserved : goal.push_factor_dependencies-loop-factor-preserved
push_factor_dependencies-loop-factor-preserved t c =
    let before = c.loop-factor.names.items in
    let rest = names_of_factors (flat_factors_of (map flat_scaled (drop (c.loop-factor.factor-index + 1) c.args.factors.now))) in
    let from = flat_factors_from c.args.factors.now c.loop-factor.factor-index c.factor-item.result c.loop-factor-test.true c.factor-item.is in
    ap (λ names. names ++ rest) c.in_ok-push_dependencies.ensures
    ∙ append_assoc before (names_of (flat_expression c.factor-item.result.value)) rest
    ∙ ap (λ factors. before ++ names_of_factors factors) (sym from)
    ∙ c.loop-factor.invariant
