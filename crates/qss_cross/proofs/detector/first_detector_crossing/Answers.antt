-- The value crosses on the side on which it is.
use Rattle.qss_cross.proofs.Common.{◌-ℤ◌, ◌<ℤ◌, ◌≤ℤ◌, arith, FitsSigned, ints, pos, to_z-of_z, w128}
use Rattle.qss_cross.proofs.Across.{across_down, across_up}
use Rattle.qss_cross.proofs.detector.first_detector_crossing.Goals as goal

pub returns-then-value-bound : goal.returns-then-value-bound
returns-then-value-bound c =
    let of_value = c.ranges.value in
    let of_speed = c.ranges.speed in
    let of_bound = c.ranges.bound in
    let side : c.args.bound ≤ℤ c.args.value = omega (arith, ints) in
    let of_dist : FitsSigned w128 (c.args.value -ℤ c.args.bound) = omega (arith, ints, c.requires.low, c.requires.high, c.requires.value) in
    let of_back : FitsSigned w128 (pos 0 -ℤ c.args.speed) = omega (arith, ints, c.requires.speed) in
    across_down c.args.value c.args.bound c.args.speed (pos 0 -ℤ c.args.speed) _ (omega (arith, ints)) side (simp to_z-of_z at c.first_tick_beyond.ensures)

pub returns-else-value-bound : goal.returns-else-value-bound
returns-else-value-bound c =
    let of_value = c.ranges.value in
    let of_speed = c.ranges.speed in
    let of_bound = c.ranges.bound in
    let side : c.args.value <ℤ c.args.bound = omega (arith, ints) in
    let of_less : FitsSigned w128 (c.args.bound -ℤ pos 1) = omega (arith, ints, c.requires.low, c.requires.high) in
    let of_dist : FitsSigned w128 ((c.args.bound -ℤ pos 1) -ℤ c.args.value) = omega (arith, ints, c.requires.low, c.requires.high, c.requires.value) in
    across_up c.args.value c.args.bound c.args.speed _ side (simp to_z-of_z at c.first_tick_beyond-else-value-bound.ensures)
