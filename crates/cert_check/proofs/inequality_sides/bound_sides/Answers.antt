use Rattle.cert_check.proofs.Common
use Common.{◌∙◌, certificate_data, diagonal_surplus, FitsSigned, refl, rules, sym, table, to_z-of_z}
use Common.{w128}
use Rattle.cert_check.proofs.Rowwise.{beside-row, in_range-row}
use Rattle.cert_check.proofs.inequality_sides.bound_sides.Goals as goal

pub returns-in_err-sides-clause-in_range : goal.returns-in_err-sides-clause-in_range
returns-in_err-sides-clause-in_range c =
    let never = rw (c.in_ok-rows.ensures.size, c.as_matrix.ensures) at c.in_err-sides.ensures.in_range.1 in (
      λ some. let no = rw c.from_residual-in_err-sides.ensures at some in cc,
      λ within. let no = never (in_range-row c.args.m.now.n c.args.x.now.h1 (diagonal_surplus (certificate_data c.args.x.now)) (table c.in_ok-rows.rows) (table c.args.x.now.g1) c.args.i
          (λ j l. sym (c.in_ok-rows.ensures.value j l)) within.row) in cc,
    )

pub returns-clause-in_range : goal.returns-clause-in_range
returns-clause-in_range c =
    let row = rw (c.in_ok-rows.ensures.size, c.as_matrix.ensures) at (c.in_ok-sides.ensures.in_range.0 refl) in (
      λ _. record {
        parts = c.in_ok-rows.ensures.in_range.0 refl;
        row = in_range-row c.args.m.now.n c.args.x.now.h1 (table c.in_ok-rows.rows) (diagonal_surplus (certificate_data c.args.x.now)) (table c.args.x.now.g1) c.args.i c.in_ok-rows.ensures.value row;
      },
      λ _. refl,
    )

pub returns-clause-right : goal.returns-clause-right
returns-clause-right c =
    let fits : FitsSigned w128 c.in_ok-sides.sides.right = search rules in
    let right = rw (c.in_ok-rows.ensures.size, c.as_matrix.ensures) at c.in_ok-sides.ensures.right in
    rw to_z-of_z (right ∙ beside-row c.args.m.now.n c.args.x.now.h1 (table c.in_ok-rows.rows) (diagonal_surplus (certificate_data c.args.x.now)) (table c.args.x.now.g1) c.args.i c.in_ok-rows.ensures.value)
