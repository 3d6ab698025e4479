use Rattle.cert_check.proofs.Common.{◌≡◌, start_constant_part, tabulate}
use Rattle.cert_check.proofs.machine_system.affine_constants.Given as goal

abbrev pub invariant-loop-row : goal.invariant-loop-row
invariant-loop-row l = l.constant ≡ tabulate l.row-index (start_constant_part l.m)
