use Rattle.mu_affine.proofs.Common
use Common.{◌≡◌, checks, first_failed, None, rounded_row, row_fits_at_start, Start, take}
use Rattle.mu_affine.proofs.rounded_form.check_start_row_sums.Given as goal

-- no row so far weighs too much
abbrev pub invariant-loop-place : goal.invariant-loop-place
invariant-loop-place l = first_failed (checks (λ form. row_fits_at_start l.units.f l.levels l.values (rounded_row l.units.p l.units.f form)) Start 0 (take l.place l.forms)) ≡ None
