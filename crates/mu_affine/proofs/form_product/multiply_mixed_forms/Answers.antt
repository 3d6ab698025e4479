use Rattle.mu_affine.proofs.Common.{◌∙◌, ap, IsOver, Ok, subst, sym}
use Rattle.mu_affine.specs.FormParts.{placed}
use Rattle.mu_affine.proofs.Crossing.{IsCrossing, crossed_passes, crossed_reduced, crossed_over}
use Rattle.mu_affine.proofs.Crossing.{crossed_fails}
use Rattle.mu_affine.proofs.form_product.multiply_mixed_forms.Goals as goal

pub running_product-requires : goal.running_product-requires
running_product-requires c = record { states = c.requires.left.canonical.names.rising; discretes = c.requires.right.canonical.names.rising }

pub finish-requires : goal.finish-requires
finish-requires c =
    let crossing : IsCrossing c.args.place c.args.states.now c.args.discretes.now = record { in_equation = c.requires.in_equation; left = c.requires.left; right = c.requires.right; states = c.requires.states; discretes = c.requires.discretes; positive_left = c.den.ensures.positive; positive_right = c.den-2.ensures.positive } in
    let crossed = rw c.in-Ok.is at c.in_ok-all.ensures in
    crossed_reduced c.args.place c.args.states.now c.args.discretes.now c.in-Ok.all crossing crossed

pub returns-in_ok-product-in-Ok : goal.returns-in_ok-product-in-Ok
returns-in_ok-product-in-Ok c =
    let crossing : IsCrossing c.args.place c.args.states.now c.args.discretes.now = record { in_equation = c.requires.in_equation; left = c.requires.left; right = c.requires.right; states = c.requires.states; discretes = c.requires.discretes; positive_left = c.den.ensures.positive; positive_right = c.den-2.ensures.positive } in
    let crossed = rw c.in-Ok.is at c.in_ok-all.ensures in
    let finished = c.in_ok-product-in-Ok.ensures in (
      ap (placed c.args.at) (crossed_passes c.args.place c.args.states.now c.args.discretes.now c.in-Ok.all crossing crossed) ∙ ap Ok (sym finished.meaning),
      record { canonical = finished.canonical; over = subst (IsOver c.args.place) (sym finished.meaning) (crossed_over c.args.place c.args.states.now c.args.discretes.now c.in-Ok.all crossing crossed) },
    )

pub returns-in-Err : goal.returns-in-Err
returns-in-Err c =
    let crossing : IsCrossing c.args.place c.args.states.now c.args.discretes.now = record { in_equation = c.requires.in_equation; left = c.requires.left; right = c.requires.right; states = c.requires.states; discretes = c.requires.discretes; positive_left = c.den.ensures.positive; positive_right = c.den-2.ensures.positive } in
    let failed = rw c.in-Err.is at c.in_ok-all.ensures in
    ap (placed c.args.at) (crossed_fails c.args.place c.args.states.now c.args.discretes.now c.in-Err.fault crossing failed)
