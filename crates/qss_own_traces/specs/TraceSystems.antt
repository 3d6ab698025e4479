-- The affine system of a machine, and the absolute row sums of its rows.
use Rattle.std.specs.Prelude.{◌≡◌, ℕ, ◌+◌, ◌*◌, List, Option, ℤ, pos, ◌+ℤ◌, ◌*ℤ◌, unsigned_abs}
use Rattle.qss_machine.specs.declared.compiled_machine.Machine.{Machine}
use Rattle.mu_num.specs.IndexedSums.{int_at, abs_of, first_exceeding, sum_below, tabulate}
use Rattle.mu_num.specs.Limits.{bits_of_second_state}
use Rattle.qss_machine.specs.Machines.{state_count}
use Rattle.qss_machine.specs.Legitimate.{start_coefficient, start_constant_part}
use Rattle.cert_matrix.specs.Matrix.{table, vector, weight}
use Rattle.cert_check.specs.declared.affine_data.AffineSystem.{AffineSystem}
use Rattle.cert_check.specs.CertificateData.{system}
use Rattle.cert_check.specs.Systems.{system_of}
use Rattle.qss_trace.specs.TraceSums.{IsSmall}

-- a system is the machine's, and within the limits of the checker
pub record Fits (m : Machine) (a : AffineSystem) : Type 0 where
  pub same_size : a.n ≡ state_count m
  pub same : system a ≡ system_of m
  pub small : IsSmall a

-- the absolute row sum of a row at some numbers, with `share` times the constant part
abbrev pub row_weight : Machine → ℕ → List ℤ → ℕ → ℤ
row_weight m share numbers j = sum_below (state_count m) (λ i. abs_of (start_coefficient m j i *ℤ int_at numbers i)) +ℤ pos share *ℤ abs_of (start_constant_part m j)

-- the least row whose absolute row sum at these numbers exceeds its limit
abbrev pub heavy_row : Machine → ℕ → List ℤ → Option ℕ
heavy_row m share numbers = first_exceeding bits_of_second_state
    (tabulate (state_count m) (row_weight m share numbers))

-- the absolute row sum computed from a system
abbrev pub system_weight : AffineSystem → ℕ → List ℤ → ℕ → ℕ
system_weight a share numbers j = unsigned_abs (vector a.constant j) * share + weight a.n (vector numbers) (λ i. abs_of (table a.coef j i))
