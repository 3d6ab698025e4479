use Rattle.mu_affine.proofs.Common
use Common.{[], ◌==◌, ◌∙◌, ◌≡◌, ◌⊎◌, ap, false≢true, form_meaning, inl, inr, IsFinished, length, Ok}
use Common.{subst, sym, true}
use Rattle.mu_affine.proofs.Showing.{not_true, not_false}
use Rattle.mu_affine.proofs.Walking.{name_is, MayStand-below, algebraic_is, algebraic_refused}
use Rattle.mu_affine.proofs.Walking.{finished_anywhere, place_at, fits_place, pairs_left}
use Rattle.mu_affine.proofs.Walking.{empty_list}
use Rattle.mu_affine.proofs.expression_form.form_of_variable.Goals.{else-not-place-via-then-not-place+else-not-is_empty}
use Rattle.mu_affine.proofs.expression_form.form_of_variable.Goals.{else-not-place-via-else-not-place}
use Rattle.mu_affine.proofs.expression_form.form_of_variable.Goals as goal

pub returns-then-var-place : goal.returns-then-var-place
returns-then-var-place c =
    (name_is c.args.place c.args.solved.now c.args.var c.args.at c.if-var-place.true ∙ ap Ok (sym c.in_ok-form.ensures.meaning), c.in_ok-form.ensures.finished c.args.place (MayStand-below c.args.place c.args.var c.if-var-place.true))

pub returns-then-not-is_empty : goal.returns-then-not-is_empty
returns-then-not-is_empty c =
    let f = c.index-solved-var.result in
    let there = place_at c.args.solved.now c.args.var f c.requires.within c.index-solved-var.is in
    let outside = not_true c.args.place.in_equation c.if-not-place.true in
    algebraic_refused c.args.place c.args.solved.now c.args.var c.args.at f c.if-var-place.false there
    (pairs_left c.args.place f (c.requires.solved c.args.var f there) (λ e. false≢true (c.if-not-is_empty.ensures ∙ ap (λ xs. length xs == 0) (c.as_slice.ensures ∙ e)))) outside

pub returns : goal.returns
returns c =
    let f = c.index-solved-var.result in
    let there = place_at c.args.solved.now c.args.var f c.requires.within c.index-solved-var.is in
    let fits : (c.args.place.in_equation ≡ true) ⊎ (f.products ≡ []) = elim c.else-not-place.branch [
      | else-not-place-via-then-not-place+else-not-is_empty w ↦ inr (sym w.as_slice.ensures ∙ empty_list w.as_slice.result.now w.if-not-is_empty.ensures)
      | else-not-place-via-else-not-place w ↦ inl (not_false c.args.place.in_equation w.if-not-place.false)
    ] in
    let same : c.in_ok-copy.copy ≡ f = c.in_ok-copy.ensures in (
      algebraic_is c.args.place c.args.solved.now c.args.var c.args.at f c.if-var-place.false there (fits_place c.args.place f fits) ∙ ap (λ x. Ok (form_meaning x)) (sym same),
      subst (IsFinished c.args.place) (sym same) (finished_anywhere c.args.place f (c.requires.solved c.args.var f there) fits),
    )
