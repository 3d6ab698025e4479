use Rattle.cert_check.proofs.Common
use Common.{◌∙◌, FitsSigned, refl, rules, scaled_offset, sym, table, take, to_z-of_z, vector, w128}
use Rattle.cert_check.proofs.Gaps.{taken, form-same, form_range-same}
use Rattle.cert_check.proofs.inequality_sides.gap_sides.Goals as goal

pub returns-in_err-left-clause-in_range : goal.returns-in_err-left-clause-in_range
returns-in_err-left-clause-in_range c =
    let never = rw (c.as_matrix.ensures, c.requires.form) at c.in_err-left.ensures.in_range.1 in
    let same = taken c.args.m.now.n c.in_ok-gaps.gaps (scaled_offset (vector c.args.start.now) c.args.factor.now (vector c.args.base.now)) c.in_ok-gaps.ensures.value in (
      λ some. let no = rw c.from_residual-in_err-left.ensures at some in cc,
      λ within. let no = never (form_range-same c.args.m.now.n (table c.args.x.now.pm) (scaled_offset (vector c.args.start.now) c.args.factor.now (vector c.args.base.now))
          (vector (take c.args.m.now.n c.in_ok-gaps.gaps)) (λ k l. sym (same k l)) within.form) in cc,
    )

pub returns-in_err-square-clause-in_range : goal.returns-in_err-square-clause-in_range
returns-in_err-square-clause-in_range c =
    let unit : FitsSigned w128 c.args.m.now.unit = search rules in
    let never = (simp to_z-of_z at c.in_err-square.ensures.in_range).1 in
    (λ some. let no = rw c.from_residual-in_err-square.ensures at some in cc, λ within. let no = never within.square in cc)

pub returns-in_err-right-clause-in_range : goal.returns-in_err-right-clause-in_range
returns-in_err-right-clause-in_range c =
    let square : FitsSigned w128 c.in_ok-square.square = search rules in
    let unit : FitsSigned w128 c.args.m.now.unit = search rules in
    let bound : FitsSigned w128 c.args.bound.now = search rules in
    let value = simp to_z-of_z at c.in_ok-square.ensures.value in
    let never = rw value at ((simp to_z-of_z at c.in_err-right.ensures.in_range).1) in
    (λ some. let no = rw c.from_residual-in_err-right.ensures at some in cc, λ within. let no = never within.right in cc)

pub returns-clause-in_range : goal.returns-clause-in_range
returns-clause-in_range c =
    let square : FitsSigned w128 c.in_ok-square.square = search rules in
    let unit : FitsSigned w128 c.args.m.now.unit = search rules in
    let bound : FitsSigned w128 c.args.bound.now = search rules in
    let value = simp to_z-of_z at c.in_ok-square.ensures.value in
    let same = taken c.args.m.now.n c.in_ok-gaps.gaps (scaled_offset (vector c.args.start.now) c.args.factor.now (vector c.args.base.now)) c.in_ok-gaps.ensures.value in
    let form = rw (c.as_matrix.ensures, c.requires.form) at (c.in_ok-left.ensures.in_range.0 refl) in (
      λ _. record {
        parts = c.in_ok-gaps.ensures.in_range.0 refl;
        form = form_range-same c.args.m.now.n (table c.args.x.now.pm) (vector (take c.args.m.now.n c.in_ok-gaps.gaps))
            (scaled_offset (vector c.args.start.now) c.args.factor.now (vector c.args.base.now)) same form;
        square = (simp to_z-of_z at c.in_ok-square.ensures.in_range).0 refl;
        right = rw value at ((simp to_z-of_z at c.in_ok-right.ensures.in_range).0 refl);
      },
      λ _. refl,
    )

pub returns-clause-left : goal.returns-clause-left
returns-clause-left c =
    let fits : FitsSigned w128 c.in_ok-left.left = search rules in
    let same = taken c.args.m.now.n c.in_ok-gaps.gaps (scaled_offset (vector c.args.start.now) c.args.factor.now (vector c.args.base.now)) c.in_ok-gaps.ensures.value in
    let left = rw (c.as_matrix.ensures, c.requires.form) at c.in_ok-left.ensures.value in
    rw to_z-of_z (left ∙ form-same c.args.m.now.n (table c.args.x.now.pm) (vector (take c.args.m.now.n c.in_ok-gaps.gaps))
    (scaled_offset (vector c.args.start.now) c.args.factor.now (vector c.args.base.now)) same)
