-- The tests of the code are those of the definition.
use Rattle.qss_components.proofs.Common
use Common.{ℤ, ◌*ℤ◌, ◌-ℤ◌, ◌∙◌, ◌≡◌, ap, FitsSigned, int_lt, pos, to_z-of_z, unsigned_abs, w128}
use Rattle.qss_components.proofs.integrator_model.is_inside_quantum.Goals as goal

pub returns : goal.returns
returns c =
    let of_x = c.ranges.x in
    let of_level = c.ranges.level in
    let of_quantum = c.ranges.quantum in
    let of_unit = c.ranges.unit in
    let of_place : FitsSigned w128 c.levels_in_units-place.result = record { sfits = c.levels_in_units-place.type_inv } in
    let of_limit : FitsSigned w128 c.levels_in_units-limit.result = record { sfits = c.levels_in_units-limit.type_inv } in
    let of_distance : FitsSigned w128 c.distance_from_level.result = record { sfits = c.distance_from_level.type_inv } in
    let place : c.levels_in_units-place.result ≡ c.args.unit *ℤ c.args.level = simp to_z-of_z at c.levels_in_units-place.ensures.value in
    let limit : c.levels_in_units-limit.result ≡ c.args.unit *ℤ c.args.quantum = simp to_z-of_z at c.levels_in_units-limit.ensures.value in
    let distance : c.distance_from_level.result ≡ pos (unsigned_abs (c.args.x -ℤ c.levels_in_units-place.result)) = simp to_z-of_z at c.distance_from_level.ensures in
    simp to_z-of_z
    (ap (λ (d : ℤ). int_lt d c.levels_in_units-limit.result) (distance ∙ ap (λ (p : ℤ). pos (unsigned_abs (c.args.x -ℤ p))) place)
    ∙ ap (λ (l : ℤ). int_lt (pos (unsigned_abs (c.args.x -ℤ c.args.unit *ℤ c.args.level))) l) limit)
