use Rattle.mu_affine.proofs.Common.{◌∙◌, ap, Err, err_from_is_err_and, length, sym, with_more}
use Rattle.mu_affine.proofs.Counts.{names_fault, pairs_fault, counted_timeless, counted_timed}
use Rattle.mu_affine.proofs.normal_forms.count_coefficients.Goals as goal

pub returns-in_err-with_names : goal.returns-in_err-with_names
returns-in_err-with_names c = λ p finished.
    let q = err_from_is_err_and c.from_residual.result c.from_residual.ensures.1 in
    q.1 ∙ sym (names_fault p c.args.form.now c.args.count q.0 finished (ap (λ xs. with_more c.args.count (length xs)) (sym c.as_slice.ensures) ∙ sym c.in_err-with_names.ensures ∙ ap Err (sym q.2)))

pub returns-in_err-with_pairs : goal.returns-in_err-with_pairs
returns-in_err-with_pairs c = λ p finished.
    let q = err_from_is_err_and c.from_residual-in_err-with_pairs.result c.from_residual-in_err-with_pairs.ensures.1 in
    q.1 ∙ sym (pairs_fault p c.args.form.now c.args.count c.in_ok-with_names.with_names q.0 finished
    (ap (λ xs. with_more c.args.count (length xs)) (sym c.as_slice.ensures) ∙ sym c.in_ok-with_names.ensures)
    (ap (λ xs. with_more c.in_ok-with_names.with_names (length xs)) (sym c.as_slice-2.ensures) ∙ sym c.in_err-with_pairs.ensures ∙ ap Err (sym q.2)))

pub returns-then-has_time_coefficient : goal.returns-then-has_time_coefficient
returns-then-has_time_coefficient c = λ p finished.
    c.add_to_normal_count-then-has_time_coefficient.ensures ∙ counted_timed p c.args.form.now c.args.count c.in_ok-with_names.with_names c.in_ok-with_pairs.with_pairs finished
    (ap (λ xs. with_more c.args.count (length xs)) (sym c.as_slice.ensures) ∙ sym c.in_ok-with_names.ensures)
    (ap (λ xs. with_more c.in_ok-with_names.with_names (length xs)) (sym c.as_slice-2.ensures) ∙ sym c.in_ok-with_pairs.ensures)
    (sym c.if-has_time_coefficient.ensures)

pub returns-else-has_time_coefficient : goal.returns-else-has_time_coefficient
returns-else-has_time_coefficient c = λ p finished.
    sym (counted_timeless p c.args.form.now c.args.count c.in_ok-with_names.with_names c.in_ok-with_pairs.with_pairs finished
    (ap (λ xs. with_more c.args.count (length xs)) (sym c.as_slice.ensures) ∙ sym c.in_ok-with_names.ensures)
    (ap (λ xs. with_more c.in_ok-with_names.with_names (length xs)) (sym c.as_slice-2.ensures) ∙ sym c.in_ok-with_pairs.ensures)
    (sym c.if-has_time_coefficient.ensures))
