-- To wrap on the way changes nothing.
use Rattle.qss_cross.proofs.Common
use Common.{◌*ℤ◌, ◌+ℤ◌, ◌∙◌, ◌≡◌, ap, arith, FitsSigned, ints, pos, to_z-of_z, w128}
use Rattle.std.specs.Int.{int_wrap}
use Rattle.std.proofs.lemmas.Int.{int_wrap_fits, int_wrap-add_right, wrapping_add_is}
use Rattle.qss_cross.proofs.detector.move_detector_value.Goals as goal

pub returns : goal.returns
returns c =
    let fits : FitsSigned w128 (c.args.value +ℤ pos c.args.ticks *ℤ c.args.speed) = omega (arith, ints, c.requires) in
    let end = int_wrap_fits w128 (c.args.value +ℤ pos c.args.ticks *ℤ c.args.speed) fits in
    let through = int_wrap-add_right w128 c.args.value (pos c.args.ticks *ℤ c.args.speed) in
    let of_speed = c.ranges.speed in
    let of_ticks : FitsSigned w128 (pos c.args.ticks) = omega (arith, ints, c.ranges.ticks) in
    let of_gain : FitsSigned w128 c.detector_gain.result = record { sfits = c.detector_gain.type_inv } in
    let add = wrapping_add_is w128 c.args.value c.detector_gain.result c.ranges.value of_gain in
    let gain : c.detector_gain.result ≡ int_wrap w128 (pos c.args.ticks *ℤ c.args.speed) = simp to_z-of_z at (rw c.from.ensures at c.detector_gain.ensures) in
    add ∙ ap (λ z. int_wrap w128 (c.args.value +ℤ z)) gain ∙ through ∙ end
