-- The affine system of a machine.
use Rattle.std.specs.Prelude.{ℕ, List, pos, ℤ}
use Rattle.qss_machine.specs.declared.compiled_machine.Machine.{Machine}
use Rattle.mu_num.specs.IndexedSums.{tabulate}
use Rattle.qss_machine.specs.Machines.{state_count, level_unit, quanta}
use Rattle.qss_machine.specs.Legitimate.{start_coefficient, start_constant_part}
use Rattle.cert_matrix.specs.Matrix.{vector, table}
use Rattle.cert_check.specs.Inequalities.{System}

-- the matrix of the coefficients between states, at the start's discrete values
abbrev pub start_matrix : Machine → List (List ℤ)
start_matrix m = tabulate (state_count m) (λ j. tabulate (state_count m) (start_coefficient m j))

-- the constant part of each slope, at the start's discrete values
abbrev pub start_drives : Machine → List ℤ
start_drives m = tabulate (state_count m) (start_constant_part m)

-- the affine system of a machine, at the start's discrete values
abbrev pub system_of : Machine → System
system_of m = record {
  n = state_count m;
  coef = table (start_matrix m);
  constant = vector (start_drives m);
  quantum = vector (quanta m);
  unit = level_unit m;
  share = pos m.relative;
}
