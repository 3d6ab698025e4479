-- The nearest change is close.
use Rattle.qss_order2.proofs.Common
use Common.{◌<ℤ◌, ◌≡◌, arith, FitsSigned, FreeChange, ints, IsAnswer, pos, subst, sym, to_z-of_z}
use Common.{true, w128}
use Rattle.mu_num.specs.Rounding.{nearest_of}
use Rattle.qss_order2.proofs.Settlings.{nearest_is_free}
use Rattle.qss_order2.proofs.slope_rule.nearest_level_slope.Goals as goal

pub returns : goal.returns
returns c =
    let a = c.args in
    let of_rise = c.ranges.rise in
    let of_unit = c.ranges.unit in
    let fits : FitsSigned w128 c.near_div.result = record { sfits = c.near_div.type_inv } in
    let value : c.near_div.result ≡ nearest_of a.rise a.unit =
    simp to_z-of_z at c.near_div.ensures.value in
    let low : pos 0 <ℤ a.unit = omega (arith, ints, c.requires.small_unit.from_one) in
    let own : IsAnswer true a.rise a.unit c.near_div.result =
    record {
      close = subst (FreeChange a.unit a.rise) (sym value)
          (nearest_is_free a.unit a.rise low);
      named = λ e. value;
    } in
    simp to_z-of_z own
