use Rattle.mu_names.proofs.Common
use Common.{◌++◌, ◌+◌, ◌∙◌, ◌≡◌, ap, drop, expression, factors_of, faults, map, Power}
use Common.{product_faults, product_value, reference, refl, scaled, signed, sum_faults, sum_value}
use Common.{sym, terms_of}
use Rattle.mu_names.specs.Constant.{both, both_faults, joined, multiplied, one_faults, raised}
use Rattle.mu_names.specs.Constant.{indexed_faults, reference_faults, previous_faults}
use Rattle.mu_names.proofs.LeastLemmas.{noted_both, noted_two_of_three}
use Rattle.mu_names.proofs.Shapes.{expression-Pow, reference_some, terms_from, factors_from}
use Rattle.mu_names.proofs.constant_values.+evaluate_constant.Goals as goal

pub evaluate_constant-returns-in-Pow-clause-faults : goal.evaluate_constant-returns-in-Pow-clause-faults
evaluate_constant-returns-in-Pow-clause-faults g t c =
    let e : expression c.args.e.now ≡ Power (expression c.in-Pow.base.value) c.in-Pow.exp c.in-Pow.at =
    ap expression c.in-Pow.is ∙ expression-Pow c.in-Pow.base c.in-Pow.exp c.in-Pow.at in
    let split : faults (g.M.Meanings.meaning c.args.meanings.now) (expression c.args.e.now)
    ≡ faults (g.M.Meanings.meaning c.args.meanings.now) (expression c.deref-in-Pow.result.now) ++ one_faults c.in-Pow.at (raised c.in-Pow.exp) c.evaluate_constant-base.result =
    rw (e, c.evaluate_constant-base.ensures.value, c.deref-in-Pow.ensures) refl in
    noted_both _ _ _ (faults (g.M.Meanings.meaning c.args.meanings.now) (expression c.deref-in-Pow.result.now)) (one_faults c.in-Pow.at (raised c.in-Pow.exp) c.evaluate_constant-base.result) (faults (g.M.Meanings.meaning c.args.meanings.now) (expression c.args.e.now)) c.evaluate_constant-base.ensures.faults c.raise_constant_power.ensures.faults split

pub evaluate_constant_reference-returns-in-Some-clause-faults :
    goal.evaluate_constant_reference-returns-in-Some-clause-faults
evaluate_constant_reference-returns-in-Some-clause-faults g t c =
    let split : reference_faults (g.M.Meanings.meaning c.args.meanings.now) (reference c.args.target.now)
    ≡ faults (g.M.Meanings.meaning c.args.meanings.now) (expression c.deref.result.now) ++ indexed_faults c.args.target.now.at c.meaning-meaning.result =
    rw (reference_some c.args.target.now c.in-Some.index c.in-Some.is, c.meaning-meaning.ensures, c.bytes.ensures, c.deref.ensures) refl in
    noted_both _ _ _ (faults (g.M.Meanings.meaning c.args.meanings.now) (expression c.deref.result.now)) (indexed_faults c.args.target.now.at c.meaning-meaning.result) (reference_faults (g.M.Meanings.meaning c.args.meanings.now) (reference c.args.target.now)) c.evaluate_constant.ensures.faults c.note_constant_misuse.ensures split

pub evaluate_constant_previous-returns-in-Some : goal.evaluate_constant_previous-returns-in-Some
evaluate_constant_previous-returns-in-Some g t c =
    let split : previous_faults (g.M.Meanings.meaning c.args.meanings.now) (reference c.args.target.now)
    ≡ faults (g.M.Meanings.meaning c.args.meanings.now) (expression c.deref.result.now) ++ indexed_faults c.args.target.now.at c.meaning-meaning.result =
    rw (reference_some c.args.target.now c.in-Some.index c.in-Some.is, c.meaning-meaning.ensures, c.bytes.ensures, c.deref.ensures) refl in
    noted_both _ _ _ (faults (g.M.Meanings.meaning c.args.meanings.now) (expression c.deref.result.now)) (indexed_faults c.args.target.now.at c.meaning-meaning.result) (previous_faults (g.M.Meanings.meaning c.args.meanings.now) (reference c.args.target.now)) c.evaluate_constant.ensures.faults c.note_constant_misuse-in-Some.ensures split

pub evaluate_constant_sum-loop-term-preserved : goal.evaluate_constant_sum-loop-term-preserved
evaluate_constant_sum-loop-term-preserved g t c =
    let from = terms_from c.args.terms.now c.loop-term.term-index c.term-item.result c.loop-term-test.true c.term-item.is in
    let old = c.loop-term.invariant in
    let split : sum_faults (g.M.Meanings.meaning c.args.meanings.now) c.loop-term.total (terms_of (map signed (drop c.loop-term.term-index c.args.terms.now)))
    ≡ faults (g.M.Meanings.meaning c.args.meanings.now) (expression c.term-item.result.value)
    ++ (both_faults c.term-item.result.at (joined c.term-item.result.minus) c.loop-term.total c.evaluate_constant-value.result
    ++ sum_faults (g.M.Meanings.meaning c.args.meanings.now) c.join_constant_term-total.result (terms_of (map signed (drop (c.loop-term.term-index + 1) c.args.terms.now)))) =
    rw (from, c.join_constant_term-total.ensures.value, c.evaluate_constant-value.ensures.value) refl in
    let total = c.join_constant_term-total.ensures.value ∙ ap (both (joined c.term-item.result.minus) c.loop-term.total) c.evaluate_constant-value.ensures.value in
    record {
      value = rw total (sym (ap (sum_value (g.M.Meanings.meaning c.args.meanings.now) c.loop-term.total) from) ∙ old.value);
      faults = noted_two_of_three _ _ _
          (faults (g.M.Meanings.meaning c.args.meanings.now) (expression c.term-item.result.value))
          (both_faults c.term-item.result.at (joined c.term-item.result.minus) c.loop-term.total c.evaluate_constant-value.result)
          (sum_faults (g.M.Meanings.meaning c.args.meanings.now) c.join_constant_term-total.result (terms_of (map signed (drop (c.loop-term.term-index + 1) c.args.terms.now))))
          (sum_faults (g.M.Meanings.meaning c.args.meanings.now) c.loop-term.total (terms_of (map signed (drop c.loop-term.term-index c.args.terms.now))))
          c.evaluate_constant-value.ensures.faults c.join_constant_term-total.ensures.faults split ∙ old.faults;
    }

pub evaluate_constant_product-loop-factor-preserved : goal.evaluate_constant_product-loop-factor-preserved
evaluate_constant_product-loop-factor-preserved g t c =
    let from = factors_from c.args.factors.now c.loop-factor.factor-index c.factor-item.result c.loop-factor-test.true c.factor-item.is in
    let old = c.loop-factor.invariant in
    let split : product_faults (g.M.Meanings.meaning c.args.meanings.now) c.loop-factor.total (factors_of (map scaled (drop c.loop-factor.factor-index c.args.factors.now)))
    ≡ faults (g.M.Meanings.meaning c.args.meanings.now) (expression c.factor-item.result.value)
    ++ (both_faults c.factor-item.result.at (multiplied c.factor-item.result.divide) c.loop-factor.total c.evaluate_constant-value.result
    ++ product_faults (g.M.Meanings.meaning c.args.meanings.now) c.multiply_constant_factor-total.result (factors_of (map scaled (drop (c.loop-factor.factor-index + 1) c.args.factors.now)))) =
    rw (from, c.multiply_constant_factor-total.ensures.value, c.evaluate_constant-value.ensures.value) refl in
    let total = c.multiply_constant_factor-total.ensures.value ∙ ap (both (multiplied c.factor-item.result.divide) c.loop-factor.total) c.evaluate_constant-value.ensures.value in
    record {
      value = rw total (sym (ap (product_value (g.M.Meanings.meaning c.args.meanings.now) c.loop-factor.total) from) ∙ old.value);
      faults = noted_two_of_three _ _ _
          (faults (g.M.Meanings.meaning c.args.meanings.now) (expression c.factor-item.result.value))
          (both_faults c.factor-item.result.at (multiplied c.factor-item.result.divide) c.loop-factor.total c.evaluate_constant-value.result)
          (product_faults (g.M.Meanings.meaning c.args.meanings.now) c.multiply_constant_factor-total.result (factors_of (map scaled (drop (c.loop-factor.factor-index + 1) c.args.factors.now))))
          (product_faults (g.M.Meanings.meaning c.args.meanings.now) c.loop-factor.total (factors_of (map scaled (drop c.loop-factor.factor-index c.args.factors.now))))
          c.evaluate_constant-value.ensures.faults c.multiply_constant_factor-total.ensures.faults split ∙ old.faults;
    }
