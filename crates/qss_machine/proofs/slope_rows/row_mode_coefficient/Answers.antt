use Rattle.qss_machine.proofs.Common.{◌∙◌, FitsSigned, to_z-of_z, w64}
use Rattle.qss_machine.proofs.slope_rows.row_mode_coefficient.Goals as goal

pub search_slope_coefficient-own-requires : goal.search_slope_coefficient-own-requires
search_slope_coefficient-own-requires c = record { rising = rw c.as_slice.ensures c.requires.row.entries.rising }

pub row_mode_coefficient_from-requires-clause-own : goal.row_mode_coefficient_from-requires-clause-own
row_mode_coefficient_from-requires-clause-own c =
    let fits : FitsSigned w64 c.search_slope_coefficient-own.result = record { sfits = c.search_slope_coefficient-own.type_inv } in
    to_z-of_z w64 c.search_slope_coefficient-own.result fits ∙ (rw c.as_slice.ensures at c.search_slope_coefficient-own.ensures)
