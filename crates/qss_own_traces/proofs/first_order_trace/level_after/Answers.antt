-- The level unit is within its limits, and a state that is not close leaves its level.
use Rattle.qss_own_traces.proofs.Common
use Common.{ℤ, ◌*ℤ◌, ◌-ℤ◌, ◌∙◌, ◌≡◌, ap, arith, Bool, FitsSigned, floor_level, floor_of}
use Common.{if◌then◌else◌, int_lt, ints, is_within_quantum, level_unit, pos, subst, sym, to_z-of_z}
use Common.{unit_fits, w128}
use Rattle.mu_num.specs.Sizes.{IsPositiveWithin}
use mir.Syntax.{w64}
use Rattle.std.specs.Int.RustNames.{unsigned_abs}
use Rattle.qss_machine.specs.Machines.{quantum_of}
use Rattle.qss_own_traces.proofs.first_order_trace.level_after.Goals as goal

pub is_close-requires-clause-unit : goal.is_close-requires-clause-unit
is_close-requires-clause-unit c =
    let of_unit : FitsSigned w128 c.level_unit-unit.result =
    record { sfits = c.level_unit-unit.type_inv } in
    rw (to_z-of_z w128 c.level_unit-unit.result of_unit)
    (subst (IsPositiveWithin 44) (sym c.level_unit-unit.ensures) (unit_fits c.args.m.now))

pub returns-else-is_close : goal.returns-else-is_close
returns-else-is_close c =
    let m = c.args.m.now in
    let x = c.args.x in
    let unit = c.level_unit-unit.result in
    let level = c.args.level in
    let of_unit : FitsSigned w128 unit = record { sfits = c.level_unit-unit.type_inv } in
    let of_x : FitsSigned w128 x = record { sfits = c.ranges.x.sfits } in
    let of_level : FitsSigned w128 level = record { sfits = c.ranges.level.sfits } in
    let short : FitsSigned w64 level = omega (arith, ints, c.requires.small_level) in
    let of_quantum : FitsSigned w64 c.quantum_at.result = record { sfits = c.quantum_at.type_inv } in
    let fits : FitsSigned w128 c.floor_div.result = record { sfits = c.floor_div.type_inv } in
    let quantum : c.quantum_at.result ≡ quantum_of m c.args.state level = simp to_z-of_z at c.quantum_at.ensures in
    let close : c.is_close.result ≡ int_lt (pos (unsigned_abs (x -ℤ unit *ℤ level)))
    (unit *ℤ c.quantum_at.result) = simp to_z-of_z at c.is_close.ensures in
    let near : c.is_close.result ≡ is_within_quantum m c.args.state x level =
    close ∙ ap (λ (q : ℤ). int_lt (pos (unsigned_abs (x -ℤ unit *ℤ level))) (unit *ℤ q)) quantum
    ∙ ap (λ (u : ℤ). int_lt (pos (unsigned_abs (x -ℤ u *ℤ level)))
    (u *ℤ quantum_of m c.args.state level)) c.level_unit-unit.ensures in
    let own : c.floor_div.result ≡ floor_of x unit = simp to_z-of_z at c.floor_div.ensures.value in
    to_z-of_z w128 c.floor_div.result fits ∙ own
    ∙ ap (λ (u : ℤ). floor_of x u) c.level_unit-unit.ensures
    ∙ sym (ap (λ (b : Bool). if b then level else floor_level (level_unit m) x level)
    (sym near ∙ c.if-is_close.false))
