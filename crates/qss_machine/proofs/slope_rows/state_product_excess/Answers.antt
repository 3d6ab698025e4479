use Rattle.qss_machine.proofs.Common
use Common.{◌*ℤ◌, ◌-ℤ◌, ◌^◌, ◌∙◌, ◌≡◌, ◌≤◌, abs_of, ap, arith, coefficient_of, FitsSigned, int_at}
use Common.{ints, length, mode_coefficient, pos, to_z-of_z, unsigned_abs, w128, w64}
use Rattle.qss_machine.proofs.ModeTests.{fits_at}
use Rattle.qss_machine.proofs.Distinct.{coefficient_small}
use Rattle.qss_machine.proofs.slope_rows.state_product_excess.Goals.{After-from}
use Rattle.qss_machine.proofs.slope_rows.state_product_excess.Goals as goal

pub search_slope_coefficient-own-requires : goal.search_slope_coefficient-own-requires
search_slope_coefficient-own-requires c = record { rising = rw c.as_slice.ensures c.requires.row.entries.rising }

pub row_mode_coefficient_from-mode-requires-clause-own : goal.row_mode_coefficient_from-mode-requires-clause-own
row_mode_coefficient_from-mode-requires-clause-own c =
    let fits : FitsSigned w64 c.search_slope_coefficient-own.result = record { sfits = c.search_slope_coefficient-own.type_inv } in
    to_z-of_z w64 c.search_slope_coefficient-own.result fits ∙ (rw c.as_slice.ensures at c.search_slope_coefficient-own.ensures)

-- the coefficient without products
own_is : (c : After-from) → c.from.result ≡ coefficient_of c.args.row.now.entries c.args.state
own_is c =
    let fits : FitsSigned w64 c.search_slope_coefficient-own.result = record { sfits = c.search_slope_coefficient-own.type_inv } in
    let same : c.from.result ≡ c.search_slope_coefficient-own.result = simp to_z-of_z at c.from.ensures in
    same ∙ (rw c.as_slice.ensures at c.search_slope_coefficient-own.ensures)

pub slope_coefficient_excess-requires-clause-mode : goal.slope_coefficient_excess-requires-clause-mode
slope_coefficient_excess-requires-clause-mode c =
    let n = length c.args.levels.now in
    let fits : FitsSigned w128 c.row_mode_coefficient_from-mode.result = record { sfits = c.row_mode_coefficient_from-mode.type_inv } in
    rw (to_z-of_z w128 c.row_mode_coefficient_from-mode.result fits, c.row_mode_coefficient_from-mode.ensures.value)
    (fits_at n c.args.state (mode_coefficient c.args.level_bits n c.args.row.now c.args.discretes.now) c.requires.state c.requires.modes)

pub slope_coefficient_excess-requires-clause-own : goal.slope_coefficient_excess-requires-clause-own
slope_coefficient_excess-requires-clause-own c =
    let fits : FitsSigned w128 c.from.result = record { sfits = c.from.type_inv } in
    rw (to_z-of_z w128 c.from.result fits, own_is (goal.at.slope_coefficient_excess-requires-clause-own c).After-from)
    (coefficient_small c.args.row.now.entries c.args.state c.requires.row.entries.rising c.requires.row.coefficients)

pub returns-clause-value : goal.returns-clause-value
returns-clause-value c =
    let row = c.args.row.now in
    let fits : FitsSigned w128 c.wide_slope_term.result = record { sfits = c.wide_slope_term.type_inv } in
    let mode : FitsSigned w128 c.row_mode_coefficient_from-mode.result = record { sfits = c.row_mode_coefficient_from-mode.type_inv } in
    let own : FitsSigned w128 c.from.result = record { sfits = c.from.type_inv } in
    let more : FitsSigned w128 c.slope_coefficient_excess.result = record { sfits = c.slope_coefficient_excess.type_inv } in
    let level : FitsSigned w64 c.slope_level_size.result = record { sfits = c.slope_level_size.type_inv } in
    let product = rw (to_z-of_z w128 c.slope_coefficient_excess.result more, to_z-of_z w64 c.slope_level_size.result level) at c.wide_slope_term.ensures.value in
    let excess_value = rw (to_z-of_z w128 c.row_mode_coefficient_from-mode.result mode, c.row_mode_coefficient_from-mode.ensures.value, to_z-of_z w128 c.from.result own, own_is (goal.at.returns-clause-value c).After-from) at c.slope_coefficient_excess.ensures.value in
    let held = int_at c.args.levels.now c.args.state in
    let small : unsigned_abs held ≤ 2 ^ 43 = c.requires.levels c.args.state (pos 0) c.requires.state in
    let held_fits : FitsSigned w64 held = omega (arith, ints, small) in
    let level_value = rw (to_z-of_z w64 held held_fits) at c.slope_level_size.ensures.value in
    to_z-of_z w128 c.wide_slope_term.result fits ∙ product
    ∙ ap (λ z. z *ℤ c.slope_level_size.result) excess_value
    ∙ ap (λ z. (abs_of (mode_coefficient c.args.level_bits (length c.args.levels.now) row c.args.discretes.now c.args.state) -ℤ abs_of (coefficient_of row.entries c.args.state)) *ℤ z) level_value
