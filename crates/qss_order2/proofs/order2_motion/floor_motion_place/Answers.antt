-- The unit is positive.
use Rattle.qss_order2.proofs.Common
use Common.{◌<ℤ◌, ◌≡◌, ap, arith, FitsSigned, ints, level_unit, pos, to_z-of_z, unit_fits}
use Common.{unsigned_abs, w128}
use Rattle.qss_order2.proofs.FixedFacts.{wide}
use Rattle.qss_order2.proofs.order2_motion.floor_motion_place.Goals as goal

pub floor_div-requires : goal.floor_div-requires
floor_div-requires c =
    let f = c.args.f.now in
    let u = unit_fits f.machine in
    let unit : f.unit ≡ level_unit f.machine = f.is_fixed.own_unit in
    let of_unit : FitsSigned w128 f.unit = wide f.unit (omega (
      arith,
      ap unsigned_abs unit,
      u.within,
    )) in
    let low : pos 0 <ℤ f.unit = omega (arith, ints, unit, u.from_one) in
    simp to_z-of_z low
