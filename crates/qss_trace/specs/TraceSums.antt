-- The ranges by which the sums of the facts fit in 128 bits.
use Rattle.std.specs.Prelude.{◌≡◌, ℕ, ◌<◌, ◌≤◌, length}
use Rattle.mu_num.specs.Sizes.{IsWithin}
use Rattle.qss_machine.specs.declared.compiled_machine.Machine.{Machine}
use Rattle.qss_machine.specs.Machines.{state_count}
use Rattle.cert_matrix.specs.Matrix.{table, vector}
use Rattle.cert_check.specs.declared.affine_data.AffineSystem.{AffineSystem}
use Rattle.cert_check.specs.CertificateData.{system}
use Rattle.cert_check.specs.Systems.{system_of}
use Rattle.qss_trace.specs.declared.trace.Trace.{Trace}

-- at most 16 states, coefficients of at most 2^44 and constants of at most 2^101
pub record IsSmall (a : AffineSystem) : Type 0 where
  pub few : a.n ≤ 16
  pub square : length a.coef ≡ a.n
  pub coefficients : (j k : ℕ) → j < a.n → k < a.n → IsWithin 44 (table a.coef j k)
  pub constants : (j : ℕ) → j < a.n → IsWithin 101 (vector a.constant j)
  pub unit : IsWithin 44 a.unit

-- the affine system is the machine's, and the trace has as many states
pub record MatchesMachine (m : Machine) (a : AffineSystem) (t : Trace) : Type 0 where
  pub size : t.n ≡ state_count m
  pub same : a.n ≡ t.n
  pub system : system a ≡ system_of m
  pub small : IsSmall a
