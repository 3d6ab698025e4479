use Rattle.mu_unroll.proofs.Common
use Common.{[], ℕ, ◌++◌, ◌+◌, ◌∙◌, ◌∷◌, ◌≡◌, ap, bind_result, Bool, denoted, drop, factors_of}
use Common.{flat_expression, flat_scaled, flat_signed, FlatExpression, FlatScaled, FlatSigned}
use Common.{flattened_factors, flattened_terms, List, map, map-append, Ok, scaled, signed, sym}
use Common.{terms_of}
use Rattle.mu_tree.specs.declared.flat.FlatExpr.{FlatExpr}
use Rattle.mu_tree.specs.declared.flat.FlatTerm.{FlatTerm, roll-FlatTerm, fold-roll-FlatTerm}
use Rattle.mu_tree.specs.declared.flat.FlatFactor.{FlatFactor, roll-FlatFactor}
use Rattle.mu_tree.specs.declared.flat.FlatFactor.{fold-roll-FlatFactor}
use Rattle.mu_tree.specs.FlatExpression.{flat_expression_step, flat_scaled_step, flat_signed_step}
use Rattle.mu_names.proofs.Shapes.{terms_from, factors_from}
use Rattle.mu_unroll.proofs.Prefixes.{prefixed, prefixed_more}
use Rattle.mu_unroll.proofs.flatten.+flattening.Goals as goal

-- one more term
terms_more : (before after : List FlatTerm) (minus : Bool) (at : ℕ) (value : FlatExpr) → after ≡ before ++ roll-FlatTerm (record { minus = minus; at = at; value = value }) ∷ [] →
    map flat_signed after ≡ map flat_signed before ++ record { minus = minus; at = at; value = flat_expression value } ∷ []
terms_more before after minus at value pushed =
    ap (map flat_signed) pushed
    ∙ map-append flat_signed before (roll-FlatTerm (record { minus = minus; at = at; value = value }) ∷ [])
    ∙ ap (λ one. map flat_signed before ++ one ∷ []) (fold-roll-FlatTerm FlatExpression FlatScaled FlatSigned flat_expression_step flat_scaled_step flat_signed_step (record { minus = minus; at = at; value = value }))

-- one more factor
factors_more : (before after : List FlatFactor) (divide : Bool) (at : ℕ) (value : FlatExpr) → after ≡ before ++ roll-FlatFactor (record { divide = divide; at = at; value = value }) ∷ [] →
    map flat_scaled after ≡ map flat_scaled before ++ record { divide = divide; at = at; value = flat_expression value } ∷ []
factors_more before after divide at value pushed =
    ap (map flat_scaled) pushed
    ∙ map-append flat_scaled before (roll-FlatFactor (record { divide = divide; at = at; value = value }) ∷ [])
    ∙ ap (λ one. map flat_scaled before ++ one ∷ []) (fold-roll-FlatFactor FlatExpression FlatScaled FlatSigned flat_expression_step flat_scaled_step flat_signed_step (record { divide = divide; at = at; value = value }))

pub flatten_terms-loop-term-preserved : goal.flatten_terms-loop-term-preserved
flatten_terms-loop-term-preserved t c =
    let known = denoted c.args.env.now in
    let before = map flat_signed c.loop-term.all.items in
    let rest = flattened_terms c.args.in_clause known (terms_of (map signed (drop (c.loop-term.term-index + 1) c.args.terms.now))) in
    let one : FlatSigned = record { minus = c.term-item.result.minus; at = c.term-item.result.at; value = flat_expression c.in_ok-value.value } in
    let pushed = c.in_ok-push.ensures.items in
    let made = terms_more c.loop-term.all.items c.push.new.self.items c.term-item.result.minus c.term-item.result.at c.in_ok-value.value pushed in
    let from = terms_from c.args.terms.now c.loop-term.term-index c.term-item.result c.loop-term-test.true c.term-item.is in
    ap (λ all. prefixed all rest) made
    ∙ sym (prefixed_more before one rest)
    ∙ ap (λ value. prefixed before (bind_result value (λ f. bind_result rest (λ fs. Ok (record { minus = c.term-item.result.minus; at = c.term-item.result.at; value = f } ∷ fs))))) (sym c.in_ok-value.ensures.ok)
    ∙ ap (λ terms. prefixed before (flattened_terms c.args.in_clause known terms)) (sym from)
    ∙ c.loop-term.invariant

pub flatten_factors-loop-factor-preserved : goal.flatten_factors-loop-factor-preserved
flatten_factors-loop-factor-preserved t c =
    let known = denoted c.args.env.now in
    let before = map flat_scaled c.loop-factor.all.items in
    let rest = flattened_factors c.args.in_clause known (factors_of (map scaled (drop (c.loop-factor.factor-index + 1) c.args.factors.now))) in
    let one : FlatScaled = record { divide = c.factor-item.result.divide; at = c.factor-item.result.at; value = flat_expression c.in_ok-value.value } in
    let pushed = c.in_ok-push.ensures.items in
    let made = factors_more c.loop-factor.all.items c.push.new.self.items c.factor-item.result.divide c.factor-item.result.at c.in_ok-value.value pushed in
    let from = factors_from c.args.factors.now c.loop-factor.factor-index c.factor-item.result c.loop-factor-test.true c.factor-item.is in
    ap (λ all. prefixed all rest) made
    ∙ sym (prefixed_more before one rest)
    ∙ ap (λ value. prefixed before (bind_result value (λ f. bind_result rest (λ fs. Ok (record { divide = c.factor-item.result.divide; at = c.factor-item.result.at; value = f } ∷ fs))))) (sym c.in_ok-value.ensures.ok)
    ∙ ap (λ factors. prefixed before (flattened_factors c.args.in_clause known factors)) (sym from)
    ∙ c.loop-factor.invariant
