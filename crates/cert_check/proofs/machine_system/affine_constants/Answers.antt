use Rattle.cert_check.proofs.Common
use Common.{[], ℤ, ◌++◌, ◌<◌, ◌∙◌, ◌∷◌, ◌≡◌, ap, ap₂, arith, constant_part, FitsSigned, length}
use Common.{length-map-range_with_len, List, rules, SlopeRow, start_constant_part, start_discretes}
use Common.{state_count, sym, to_z-of_z, w128}
use Rattle.std.proofs.lemmas.List.FromFn.{map-range_with_len_more}
use Rattle.cert_check.proofs.StartRows.{row-is}
use Rattle.cert_check.proofs.machine_system.affine_constants.Goals as goal

pub push-requires : goal.push-requires
push-requires c =
    omega (
      arith,
      ap length c.loop-row.invariant,
      length-map-range_with_len (start_constant_part c.args.m.now) 0 c.loop-row.row-index,
      c.loop-row-test.true,
      ap length c.as_slice-row-items.ensures,
      c.args.m.now.has_rows.one_each,
      c.requires.few,
    )

pub loop-row-preserved : goal.loop-row-preserved
loop-row-preserved c =
    let m = c.args.m.now in
    let fits : FitsSigned w128 c.slope_at_zero_levels.result = search rules in
    let changed = simp to_z-of_z at c.push.ensures in
    let many = ap length c.as_slice-row-items.ensures in
    let within : c.loop-row.row-index < state_count m =
    omega (arith, c.loop-row-test.true, many, m.has_rows.one_each) in
    let row = row-is m c.as_slice-row-items.result.now c.loop-row.row-index c.row-item.result
    c.as_slice-row-items.ensures within c.row-item.is in
    let value : c.slope_at_zero_levels.result ≡ start_constant_part m c.loop-row.row-index =
    c.slope_at_zero_levels.ensures
    ∙ ap (λ (r : SlopeRow). constant_part (state_count m) r (start_discretes m)) row in
    rw changed (ap₂ (λ (a : List ℤ) (b : ℤ). a ++ b ∷ []) c.loop-row.invariant value
    ∙ sym (map-range_with_len_more (start_constant_part m) 0 c.loop-row.row-index c.loop-row.row-index (omega arith)))
