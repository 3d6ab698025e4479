-- The state leaves on the side to which it moves.
use Rattle.qss_quant.proofs.Common
use Common.{◌*ℤ◌, ◌+ℤ◌, ◌-ℤ◌, ◌≡◌, arith, FitsSigned, ints, pos, to_z-of_z, w128}
use Rattle.qss_quant.proofs.Leaving.{leaves_above, leaves_below}
use Rattle.qss_quant.proofs.integrator.first_integrator_leaving.Goals as goal

pub returns-then-speed-lt0 : goal.returns-then-speed-lt0
returns-then-speed-lt0 c =
    let of_x = c.ranges.x in
    let of_level = c.ranges.level in
    let of_speed = c.ranges.speed in
    let of_quantum = c.ranges.quantum in
    let of_unit = c.ranges.unit in
    let gap = c.args.x -ℤ c.args.unit *ℤ c.args.level in
    let limit = c.args.unit *ℤ c.args.quantum in
    let of_room : FitsSigned w128 c.room_below.result = record { sfits = c.room_below.type_inv } in
    let of_back : FitsSigned w128 (pos 0 -ℤ c.args.speed) = omega (arith, ints, c.requires.speed) in
    let room : c.room_below.result ≡ limit +ℤ gap = simp to_z-of_z at c.room_below.ensures.value in
    leaves_below gap c.args.speed (pos 0 -ℤ c.args.speed) limit _ (omega (arith, ints)) (omega (arith, ints)) c.requires.near (rw room at (simp to_z-of_z at c.first_tick.ensures))

pub returns-else-speed-lt0 : goal.returns-else-speed-lt0
returns-else-speed-lt0 c =
    let of_x = c.ranges.x in
    let of_level = c.ranges.level in
    let of_speed = c.ranges.speed in
    let of_quantum = c.ranges.quantum in
    let of_unit = c.ranges.unit in
    let gap = c.args.x -ℤ c.args.unit *ℤ c.args.level in
    let limit = c.args.unit *ℤ c.args.quantum in
    let of_room : FitsSigned w128 c.room_above.result = record { sfits = c.room_above.type_inv } in
    let room : c.room_above.result ≡ limit -ℤ gap = simp to_z-of_z at c.room_above.ensures.value in
    leaves_above gap c.args.speed limit _ (omega (arith, ints)) c.requires.near (rw room at (simp to_z-of_z at c.first_tick-else-speed-lt0.ensures))
