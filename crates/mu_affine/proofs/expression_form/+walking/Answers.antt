use Rattle.mu_affine.proofs.Common
use Common.{◌∙◌, ◌≡◌, AffineForm, ap, constant_form, Context, context_of, Err, err_from_is_err_and}
use Common.{flat_expression, flat_factors_of, flat_scaled, flat_signed, flat_terms_of, FlatExpr}
use Common.{FlatFactor, FlatTerm, form_meaning, form_of, IsAnswer, IsNumbered, IsOver, join_forms}
use Common.{length, List, map, multiply_forms, none, Ok, out-FlatFactor, out-FlatTerm, pos}
use Common.{product_of, Result, subst, sum_form, sum_meaning, sym, whole}
use Rattle.std.proofs.Common.{rules}
use Rattle.std.proofs.lemmas.List.{at_drop_all}
use Rattle.mu_tree.specs.declared.flat.FlatExpr.{the_lemmas}
use Rattle.mu_affine.proofs.FlatShapes.{flat_expression-Const, flat_expression-Var}
use Rattle.mu_affine.proofs.FlatShapes.{flat_expression-Pre, flat_expression-Time}
use Rattle.mu_affine.proofs.FlatShapes.{flat_expression-Sum, flat_expression-Product}
use Rattle.mu_affine.proofs.FlatShapes.{flat_expression-Pow}
use Rattle.mu_affine.proofs.Walking.{IsOver-constant, fault_passes, sum_answer, said, power_is}
use Rattle.mu_affine.proofs.Walking.{power_fault}
use Rattle.mu_affine.proofs.Left.{terms_left, factors_left, sum_more, sum_fails_at}
use Rattle.mu_affine.proofs.Left.{sum_join_fails_at, terms_numbered_at, product_more}
use Rattle.mu_affine.proofs.Left.{product_fails_at, product_part_fails_at, factors_numbered_at}
use Rattle.mu_tree.specs.FlatExpression as tree
use Rattle.mu_affine.proofs.expression_form.+walking.Goals as goal

pub expression_form-form_of_variable-requires-clause-within : goal.expression_form-form_of_variable-requires-clause-within
expression_form-form_of_variable-requires-clause-within t c =
    let says : flat_expression c.args.e.now ≡ tree.Variable c.in-Var.var c.in-Var.at = ap flat_expression c.in-Var.is ∙ flat_expression-Var c.in-Var.var c.in-Var.at in
    subst (IsNumbered c.args.place (length c.args.solved.now)) says c.requires.numbered

pub expression_form-form_of_previous-requires-clause-outside : goal.expression_form-form_of_previous-requires-clause-outside
expression_form-form_of_previous-requires-clause-outside t c =
    let says : flat_expression c.args.e.now ≡ tree.Previous c.in-Pre.var c.in-Pre.at = ap flat_expression c.in-Pre.is ∙ flat_expression-Pre c.in-Pre.var c.in-Pre.at in
    (subst (IsNumbered c.args.place (length c.args.solved.now)) says c.requires.numbered).0

pub expression_form-form_of_previous-requires-clause-within : goal.expression_form-form_of_previous-requires-clause-within
expression_form-form_of_previous-requires-clause-within t c =
    let says : flat_expression c.args.e.now ≡ tree.Previous c.in-Pre.var c.in-Pre.at = ap flat_expression c.in-Pre.is ∙ flat_expression-Pre c.in-Pre.var c.in-Pre.at in
    (subst (IsNumbered c.args.place (length c.args.solved.now)) says c.requires.numbered).1

pub expression_form-form_of_terms-requires : goal.expression_form-form_of_terms-requires
expression_form-form_of_terms-requires t c =
    let d = c.decreases in
    let is = c.in-Sum.is in
    let body = c.deref.ensures.value in
    let says : flat_expression c.args.e.now ≡ tree.Sum (flat_terms_of (map flat_signed c.deref.result.now)) =
    ap flat_expression is ∙ flat_expression-Sum c.in-Sum.terms ∙ ap (λ (ts : List FlatTerm). tree.Sum (flat_terms_of (map flat_signed ts))) (sym body) in
    (search (rules, the_lemmas, d, is, body), (c.requires.solved, (c.requires.sizes, subst (IsNumbered c.args.place (length c.args.solved.now)) says c.requires.numbered)))

pub expression_form-form_of_factors-requires : goal.expression_form-form_of_factors-requires
expression_form-form_of_factors-requires t c =
    let d = c.decreases in
    let is = c.in-Product.is in
    let body = c.deref-in-Product.ensures.value in
    let says : flat_expression c.args.e.now ≡ tree.Product (flat_factors_of (map flat_scaled c.deref-in-Product.result.now)) =
    ap flat_expression is ∙ flat_expression-Product c.in-Product.factors ∙ ap (λ (fs : List FlatFactor). tree.Product (flat_factors_of (map flat_scaled fs))) (sym body) in
    (search (rules, the_lemmas, d, is, body), (c.requires.solved, (c.requires.sizes, subst (IsNumbered c.args.place (length c.args.solved.now)) says c.requires.numbered)))

pub expression_form-expression_form-requires : goal.expression_form-expression_form-requires
expression_form-expression_form-requires t c =
    let d = c.decreases in
    let is = c.in-Pow.is in
    let body = c.deref-in-Pow.ensures in
    let says : flat_expression c.args.e.now ≡ tree.Power (flat_expression c.deref-in-Pow.result.now) c.in-Pow.exp c.in-Pow.at =
    ap flat_expression is ∙ flat_expression-Pow c.in-Pow.base c.in-Pow.exp c.in-Pow.at ∙ ap (λ (e : FlatExpr). tree.Power (flat_expression e) c.in-Pow.exp c.in-Pow.at) (sym body) in
    (search (rules, the_lemmas, d, is, body), (c.requires.solved, (c.requires.sizes, subst (IsNumbered c.args.place (length c.args.solved.now)) says c.requires.numbered)))

pub expression_form-raise_to_power-requires : goal.expression_form-raise_to_power-requires
expression_form-raise_to_power-requires t c = c.in_ok-base-in-Pow.ensures.1

pub expression_form-returns-in-Const : goal.expression_form-returns-in-Const
expression_form-returns-in-Const t c =
    let says : flat_expression c.args.e.now ≡ tree.Constant c.in-Const.value c.in-Const.at = ap flat_expression c.in-Const.is ∙ flat_expression-Const c.in-Const.value c.in-Const.at in
    (ap (form_of (context_of c.args.place c.args.solved.now)) says ∙ ap Ok (sym c.constant.ensures.meaning), c.constant.ensures.finished c.args.place)

pub expression_form-returns-in-Var : goal.expression_form-returns-in-Var
expression_form-returns-in-Var t c =
    let says : flat_expression c.args.e.now ≡ tree.Variable c.in-Var.var c.in-Var.at = ap flat_expression c.in-Var.is ∙ flat_expression-Var c.in-Var.var c.in-Var.at in
    said c.args.place (context_of c.args.place c.args.solved.now) (tree.Variable c.in-Var.var c.in-Var.at) (flat_expression c.args.e.now) c.form_of_variable.result says c.form_of_variable.ensures

pub expression_form-returns-in-Pre : goal.expression_form-returns-in-Pre
expression_form-returns-in-Pre t c =
    let says : flat_expression c.args.e.now ≡ tree.Previous c.in-Pre.var c.in-Pre.at = ap flat_expression c.in-Pre.is ∙ flat_expression-Pre c.in-Pre.var c.in-Pre.at in
    said c.args.place (context_of c.args.place c.args.solved.now) (tree.Previous c.in-Pre.var c.in-Pre.at) (flat_expression c.args.e.now) c.form_of_previous.result says c.form_of_previous.ensures

pub expression_form-returns-in-Time : goal.expression_form-returns-in-Time
expression_form-returns-in-Time t c =
    let says : flat_expression c.args.e.now ≡ tree.Now c.in-Time.at = ap flat_expression c.in-Time.is ∙ flat_expression-Time c.in-Time.at in
    said c.args.place (context_of c.args.place c.args.solved.now) (tree.Now c.in-Time.at) (flat_expression c.args.e.now) c.time.result says c.time.ensures

pub expression_form-returns-in-Sum : goal.expression_form-returns-in-Sum
expression_form-returns-in-Sum t c =
    let ts = flat_terms_of (map flat_signed c.deref.result.now) in
    let says : flat_expression c.args.e.now ≡ tree.Sum ts =
    ap flat_expression c.in-Sum.is ∙ flat_expression-Sum c.in-Sum.terms ∙ ap (λ (ts : List FlatTerm). tree.Sum (flat_terms_of (map flat_signed ts))) (sym c.deref.ensures.value) in
    said c.args.place (context_of c.args.place c.args.solved.now) (tree.Sum ts) (flat_expression c.args.e.now) c.form_of_terms.result says c.form_of_terms.ensures

pub expression_form-returns-in-Product : goal.expression_form-returns-in-Product
expression_form-returns-in-Product t c =
    let fs = flat_factors_of (map flat_scaled c.deref-in-Product.result.now) in
    let says : flat_expression c.args.e.now ≡ tree.Product fs =
    ap flat_expression c.in-Product.is ∙ flat_expression-Product c.in-Product.factors ∙ ap (λ (fs : List FlatFactor). tree.Product (flat_factors_of (map flat_scaled fs))) (sym c.deref-in-Product.ensures.value) in
    said c.args.place (context_of c.args.place c.args.solved.now) (tree.Product fs) (flat_expression c.args.e.now) c.form_of_factors.result says c.form_of_factors.ensures

pub expression_form-returns-in_err-base-in-Pow : goal.expression_form-returns-in_err-base-in-Pow
expression_form-returns-in_err-base-in-Pow t c =
    let x : Context = context_of c.args.place c.args.solved.now in
    let base = flat_expression c.deref-in-Pow.result.now in
    let says : flat_expression c.args.e.now ≡ tree.Power base c.in-Pow.exp c.in-Pow.at =
    ap flat_expression c.in-Pow.is ∙ flat_expression-Pow c.in-Pow.base c.in-Pow.exp c.in-Pow.at ∙ ap (λ (e : FlatExpr). tree.Power (flat_expression e) c.in-Pow.exp c.in-Pow.at) (sym c.deref-in-Pow.ensures) in
    let p = err_from_is_err_and c.from_residual.result c.from_residual.ensures.1 in
    rw (p.1, p.2) (said c.args.place x (tree.Power base c.in-Pow.exp c.in-Pow.at) (flat_expression c.args.e.now) (Err c.in_err-base-in-Pow.field-0.0) says
    (fault_passes c.args.place (form_of x base) (form_of x (tree.Power base c.in-Pow.exp c.in-Pow.at)) c.in_err-base-in-Pow.field-0.0 (λ fault e. power_fault x base c.in-Pow.exp c.in-Pow.at fault e) c.in_err-base-in-Pow.ensures))

pub expression_form-returns-in_ok-base-in-Pow : goal.expression_form-returns-in_ok-base-in-Pow
expression_form-returns-in_ok-base-in-Pow t c =
    let x : Context = context_of c.args.place c.args.solved.now in
    let base = flat_expression c.deref-in-Pow.result.now in
    let says : flat_expression c.args.e.now ≡ tree.Power base c.in-Pow.exp c.in-Pow.at =
    ap flat_expression c.in-Pow.is ∙ flat_expression-Pow c.in-Pow.base c.in-Pow.exp c.in-Pow.at ∙ ap (λ (e : FlatExpr). tree.Power (flat_expression e) c.in-Pow.exp c.in-Pow.at) (sym c.deref-in-Pow.ensures) in
    said c.args.place x (tree.Power base c.in-Pow.exp c.in-Pow.at) (flat_expression c.args.e.now) c.raise_to_power.result says
    (subst (λ (r : Result AffineForm _). IsAnswer c.args.place r c.raise_to_power.result) (sym (power_is x base c.in-Pow.exp c.in-Pow.at (form_meaning c.in_ok-base-in-Pow.base) c.in_ok-base-in-Pow.ensures.0)) c.raise_to_power.ensures)

pub form_of_terms-loop-term-init : goal.form_of_terms-loop-term-init
form_of_terms-loop-term-init t c = record {
  rest = ap (λ (f : AffineForm). sum_form (context_of c.args.place c.args.solved.now) (Ok f) (terms_left c.args.terms.now 0)) c.new-total.ensures.meaning;
  reduced = c.new-total.ensures.reduced;
  over = subst (IsOver c.args.place) (sym c.new-total.ensures.meaning) (IsOver-constant c.args.place none);
  numbered = c.requires.numbered;
}

pub form_of_terms-expression_form-requires : goal.form_of_terms-expression_form-requires
form_of_terms-expression_form-requires t c =
    let d = c.decreases in
    let is = c.term-item.is in
    let within = c.loop-term-test.true in
    (search (rules, the_lemmas, d, is, within), (c.requires.solved, (c.requires.sizes, (terms_numbered_at c.args.place (length c.args.solved.now) c.args.terms.now c.loop-term.term-index c.term-item.result within is c.loop-term.invariant.numbered).0)))

pub form_of_terms-join_expression_term-requires-clause-form : goal.form_of_terms-join_expression_term-requires-clause-form
form_of_terms-join_expression_term-requires-clause-form t c = c.in_ok-form.ensures.1

pub form_of_terms-loop-term-preserved : goal.form_of_terms-loop-term-preserved
form_of_terms-loop-term-preserved t c =
    let x : Context = context_of c.args.place c.args.solved.now in
    record {
      rest = sym (sum_more x c.args.terms.now c.loop-term.term-index c.term-item.result (sum_meaning c.loop-term.total) (sum_meaning c.join_expression_term.new.total) (form_meaning c.in_ok-form.form) c.loop-term-test.true c.term-item.is c.in_ok-form.ensures.0 c.in_ok-join_expression_term.ensures.0) ∙ c.loop-term.invariant.rest;
      reduced = c.in_ok-join_expression_term.ensures.1;
      over = c.in_ok-join_expression_term.ensures.2;
      numbered = (terms_numbered_at c.args.place (length c.args.solved.now) c.args.terms.now c.loop-term.term-index c.term-item.result c.loop-term-test.true c.term-item.is c.loop-term.invariant.numbered).1;
    }

pub form_of_terms-returns-in_err-form : goal.form_of_terms-returns-in_err-form
form_of_terms-returns-in_err-form t c =
    let x : Context = context_of c.args.place c.args.solved.now in
    let p = err_from_is_err_and c.from_residual.result c.from_residual.ensures.1 in
    rw (p.1, p.2) (fault_passes c.args.place (form_of x (flat_expression (out-FlatTerm c.term-item.result).value)) (sum_form x (Ok (constant_form none)) (flat_terms_of (map flat_signed c.args.terms.now))) c.in_err-form.field-0.0
    (λ fault e. sym c.loop-term.invariant.rest ∙ sum_fails_at x c.args.terms.now c.loop-term.term-index c.term-item.result (sum_meaning c.loop-term.total) fault c.loop-term-test.true c.term-item.is e)
    c.in_err-form.ensures)

pub form_of_terms-returns-in_err-join_expression_term : goal.form_of_terms-returns-in_err-join_expression_term
form_of_terms-returns-in_err-join_expression_term t c =
    let x : Context = context_of c.args.place c.args.solved.now in
    let item = out-FlatTerm c.term-item.result in
    let p = err_from_is_err_and c.from_residual-in_err-join_expression_term.result c.from_residual-in_err-join_expression_term.ensures.1 in
    rw (p.1, p.2) (fault_passes c.args.place (join_forms c.args.place item.minus item.at (sum_meaning c.loop-term.total) (form_meaning c.in_ok-form.form)) (sum_form x (Ok (constant_form none)) (flat_terms_of (map flat_signed c.args.terms.now))) c.in_err-join_expression_term.field-0.0
    (λ fault e. sym c.loop-term.invariant.rest ∙ sum_join_fails_at x c.args.terms.now c.loop-term.term-index c.term-item.result (sum_meaning c.loop-term.total) (form_meaning c.in_ok-form.form) fault c.loop-term-test.true c.term-item.is c.in_ok-form.ensures.0 e)
    c.in_err-join_expression_term.ensures)

pub form_of_terms-returns-in_err-form-2 : goal.form_of_terms-returns-in_err-form-2
form_of_terms-returns-in_err-form-2 t c =
    let p = err_from_is_err_and c.from_residual-in_err-form-2.result c.from_residual-in_err-form-2.ensures.1 in
    rw (p.1, p.2) tt

pub form_of_terms-returns : goal.form_of_terms-returns
form_of_terms-returns t c =
    let x : Context = context_of c.args.place c.args.solved.now in
    sum_answer c.args.place (sum_form x (Ok (constant_form none)) (flat_terms_of (map flat_signed c.args.terms.now))) c.loop-term.total c.in_ok-form-2.form
    (sym (at_drop_all (λ (ts : List FlatTerm). sum_form x (Ok (sum_meaning c.loop-term.total)) (flat_terms_of (map flat_signed ts))) c.args.terms.now c.loop-term.term-index c.loop-term-test.false) ∙ c.loop-term.invariant.rest)
    c.loop-term.invariant.over c.in_ok-form-2.ensures

pub form_of_factors-loop-factor-init : goal.form_of_factors-loop-factor-init
form_of_factors-loop-factor-init t c = record {
  rest = ap (λ (f : AffineForm). product_of (context_of c.args.place c.args.solved.now) (Ok f) (factors_left c.args.factors.now 0)) (c.constant-total.ensures.meaning ∙ ap constant_form c.whole.ensures);
  finished = c.constant-total.ensures.finished c.args.place;
  numbered = c.requires.numbered;
}

pub form_of_factors-expression_form-requires : goal.form_of_factors-expression_form-requires
form_of_factors-expression_form-requires t c =
    let d = c.decreases in
    let is = c.factor-item.is in
    let within = c.loop-factor-test.true in
    (search (rules, the_lemmas, d, is, within), (c.requires.solved, (c.requires.sizes, (factors_numbered_at c.args.place (length c.args.solved.now) c.args.factors.now c.loop-factor.factor-index c.factor-item.result within is c.loop-factor.invariant.numbered).0)))

pub form_of_factors-take_expression_factor-requires-clause-form : goal.form_of_factors-take_expression_factor-requires-clause-form
form_of_factors-take_expression_factor-requires-clause-form t c = c.in_ok-form.ensures.1

pub form_of_factors-loop-factor-preserved : goal.form_of_factors-loop-factor-preserved
form_of_factors-loop-factor-preserved t c =
    let x : Context = context_of c.args.place c.args.solved.now in
    record {
      rest = sym (product_more x c.args.factors.now c.loop-factor.factor-index c.factor-item.result (form_meaning c.loop-factor.total) (form_meaning c.in_ok-total.total) (form_meaning c.in_ok-form.form) c.loop-factor-test.true c.factor-item.is c.in_ok-form.ensures.0 c.in_ok-total.ensures.0) ∙ c.loop-factor.invariant.rest;
      finished = c.in_ok-total.ensures.1;
      numbered = (factors_numbered_at c.args.place (length c.args.solved.now) c.args.factors.now c.loop-factor.factor-index c.factor-item.result c.loop-factor-test.true c.factor-item.is c.loop-factor.invariant.numbered).1;
    }

pub form_of_factors-returns-in_err-form : goal.form_of_factors-returns-in_err-form
form_of_factors-returns-in_err-form t c =
    let x : Context = context_of c.args.place c.args.solved.now in
    let p = err_from_is_err_and c.from_residual.result c.from_residual.ensures.1 in
    rw (p.1, p.2) (fault_passes c.args.place (form_of x (flat_expression (out-FlatFactor c.factor-item.result).value)) (product_of x (Ok (constant_form (whole (pos 1)))) (flat_factors_of (map flat_scaled c.args.factors.now))) c.in_err-form.field-0.0
    (λ fault e. sym c.loop-factor.invariant.rest ∙ product_fails_at x c.args.factors.now c.loop-factor.factor-index c.factor-item.result (form_meaning c.loop-factor.total) fault c.loop-factor-test.true c.factor-item.is e)
    c.in_err-form.ensures)

pub form_of_factors-returns-in_err-total : goal.form_of_factors-returns-in_err-total
form_of_factors-returns-in_err-total t c =
    let x : Context = context_of c.args.place c.args.solved.now in
    let item = out-FlatFactor c.factor-item.result in
    let p = err_from_is_err_and c.from_residual-in_err-total.result c.from_residual-in_err-total.ensures.1 in
    rw (p.1, p.2) (fault_passes c.args.place (multiply_forms c.args.place item.divide item.at (form_meaning c.loop-factor.total) (form_meaning c.in_ok-form.form)) (product_of x (Ok (constant_form (whole (pos 1)))) (flat_factors_of (map flat_scaled c.args.factors.now))) c.in_err-total.field-0.0
    (λ fault e. sym c.loop-factor.invariant.rest ∙ product_part_fails_at x c.args.factors.now c.loop-factor.factor-index c.factor-item.result (form_meaning c.loop-factor.total) (form_meaning c.in_ok-form.form) fault c.loop-factor-test.true c.factor-item.is c.in_ok-form.ensures.0 e)
    c.in_err-total.ensures)

pub form_of_factors-returns : goal.form_of_factors-returns
form_of_factors-returns t c =
    let x : Context = context_of c.args.place c.args.solved.now in (
      sym c.loop-factor.invariant.rest ∙ at_drop_all (λ (fs : List FlatFactor). product_of x (Ok (form_meaning c.loop-factor.total)) (flat_factors_of (map flat_scaled fs))) c.args.factors.now c.loop-factor.factor-index c.loop-factor-test.false,
      c.loop-factor.invariant.finished,
    )
