use Rattle.mu_affine.proofs.Common
use Common.{◌≡◌, checks, Coefficient, first_failed, map, None, rounded_row, row_fits, take}
use Rattle.mu_affine.proofs.rounded_form.round_form_rows.Given as goal

-- the rows so far, of which none is past a limit
abbrev pub invariant-loop-place : goal.invariant-loop-place
invariant-loop-place l = record {
  so_far : l.rows.items ≡ map (rounded_row l.units.p l.units.f) (take l.place l.forms);
  none : first_failed (checks (λ form. row_fits (rounded_row l.units.p l.units.f form)) Coefficient 1 (take l.place l.forms)) ≡ None;
}
