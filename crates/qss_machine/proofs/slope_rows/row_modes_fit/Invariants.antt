use Rattle.qss_machine.proofs.Common.{ℕ, ◌<◌, ◌≡◌, ◌≤◌, exceeds, false, mode_coefficient}
use Rattle.qss_machine.proofs.ProductStates.{AreBelow}
use Rattle.qss_machine.proofs.slope_rows.row_modes_fit.Given as goal

-- the coefficients of the states so far are within the limit
abbrev pub invariant-loop-product : goal.invariant-loop-product
invariant-loop-product l = record {
  fit : (state : ℕ) → state < l.past → exceeds 44 (mode_coefficient l.level_bits l.state_count l.row l.discretes state) ≡ false;
  few : l.past ≤ l.state_count;
  below : AreBelow l.row.products l.product-index l.past;
}
