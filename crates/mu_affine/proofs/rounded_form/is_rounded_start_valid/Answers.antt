use Rattle.mu_affine.proofs.Common.{IsRow, length, subst, sym}
use Rattle.mu_affine.proofs.RowLaws.{row_is}
use Rattle.mu_affine.proofs.rounded_form.is_rounded_start_valid.Goals as goal

pub is_row_in_limits-requires-clause-row : goal.is_row_in_limits-requires-clause-row
is_row_in_limits-requires-clause-row c =
    let some = rw c.in-Some.is at c.in_ok-row.ensures.some in
    let n = length c.args.levels.now in
    let g = length c.args.values.now in
    subst (IsRow n g) (sym some.0) (row_is n g c.args.units.p c.args.units.f c.args.form.now c.requires.form (rw some.0 at some.1))
