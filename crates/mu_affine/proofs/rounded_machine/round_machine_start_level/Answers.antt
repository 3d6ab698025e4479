use Rattle.mu_affine.proofs.Common
use Common.{◌+◌, ◌∙◌, ◌≡◌, and_from, ap, exceeds, false, FitsSigned, IsWithin, not, rounded}
use Common.{start_level, subst, sym, to_z-of_z, w128}
use Rattle.mu_affine.proofs.KeptNumbers.{cast_level}
use Rattle.mu_affine.proofs.RowLaws.{within}
use Rattle.mu_affine.proofs.rounded_machine.round_machine_start_level.Goals as goal

pub returns-clause-some : goal.returns-clause-some
returns-clause-some c =
    let u = c.args.units in
    let state = c.round_form_number-state.result in
    let level = c.floor_div-level.result in
    let state_fits : FitsSigned w128 state = record { sfits = c.round_form_number-state.type_inv } in
    let level_fits : FitsSigned w128 level = record { sfits = c.floor_div-level.type_inv } in
    let unit_fits : FitsSigned w128 c.unit.result = record { sfits = c.unit.type_inv } in
    let first = rw (to_z-of_z w128 state state_fits, c.round_form_number-state.ensures) at c.exceeds_power_of_two.ensures in
    let second = rw (to_z-of_z w128 level level_fits) at c.exceeds_power_of_two-else-exceeds_power_of_two.ensures in
    let value = rw (to_z-of_z w128 state state_fits, to_z-of_z w128 c.unit.result unit_fits, c.round_form_number-state.ensures, c.unit.ensures) at c.floor_div-level.ensures.value in
    let low : exceeds 43 level ≡ false = sym second ∙ c.if-exceeds_power_of_two-2.false in
    let kept = cast_level level low in
    let small : exceeds 43 (start_level u.p u.k u.f c.args.start) ≡ false = ap (exceeds 43) (sym value) ∙ low in (
      and_from (not (exceeds 88 (rounded (u.f + u.p + u.k) c.args.start))) (not (exceeds 43 (start_level u.p u.k u.f c.args.start))) (ap not (sym first ∙ c.if-exceeds_power_of_two.false)) (ap not small),
      kept ∙ value,
      subst (IsWithin 43) (sym kept) (within 43 level (ap not low)),
    )
