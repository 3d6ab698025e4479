-- The unit is positive, and the slope is that at the levels.
use Rattle.qss_own_traces.proofs.Common
use Common.{ℤ, ◌<ℤ◌, ◌∙◌, ◌≡◌, ap, ap₂, arith, Bool, false, FitsSigned, flag_at, get_or_read}
use Common.{if◌then◌else◌, int_at, ints, IsWithin, level_unit, nearest_change, pos, rise_at, subst}
use Common.{sym, to_z-of_z, true, unit_positive, w128}
use Rattle.mu_num.specs.Rounding.{nearest_of}
use Rattle.qss_own_traces.proofs.SecondSums.{unit_is}
use Rattle.qss_own_traces.proofs.second_order_trace.SecondPlace.next_change.Goals as goal

pub near_div-requires : goal.near_div-requires
near_div-requires c =
    let unit = unit_is c.args.m.now c.args.a.now c.requires.fits in
    let small : IsWithin 44 c.args.a.now.unit = c.requires.fits.small.unit in
    let low : pos 0 <ℤ c.args.a.now.unit = subst (λ (u : ℤ). pos 0 <ℤ u) (sym unit) (unit_positive c.args.m.now) in
    let of_unit : FitsSigned w128 c.args.a.now.unit = omega (arith, ints, small) in
    simp to_z-of_z low

pub returns-then-index : goal.returns-then-index
returns-then-index c =
    let m = c.args.m.now in
    let p = c.args.self.now in
    let j = c.args.state in
    let unit = unit_is m c.args.a.now c.requires.fits in
    let small : IsWithin 44 c.args.a.now.unit = c.requires.fits.small.unit in
    let of_unit : FitsSigned w128 c.args.a.now.unit = omega (arith, ints, small) in
    let of_rise : FitsSigned w128 c.rise.result = record { sfits = c.rise.type_inv } in
    let fits : FitsSigned w128 c.near_div.result = record { sfits = c.near_div.type_inv } in
    let own : c.near_div.result ≡ nearest_of c.rise.result c.args.a.now.unit =
    simp to_z-of_z at c.near_div.ensures.value in
    let left : flag_at p.left.items j ≡ true =
    sym (get_or_read p.left.items j _
    (omega (arith, c.requires.state, c.requires.sized.left)) c.index.ensures false)
    ∙ c.if-index.true in
    to_z-of_z w128 c.near_div.result fits ∙ own ∙ ap₂ nearest_of c.rise.ensures.value unit
    ∙ sym (ap (λ (b : Bool). if b then nearest_change (level_unit m)
    (rise_at m j p.levels.items) else int_at p.changes.items j) left)
