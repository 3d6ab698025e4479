-- The state of the reader of a trace after some records.
use Rattle.std.specs.Prelude.{◌≡◌, ℕ, ◌-◌, ◌*◌, ◌≤◌, List, [], ◌++◌, take, length, ℤ, All}
use Rattle.std.specs.List.{AllZip}
use Rattle.mu_num.specs.Sizes.{IsWithin}
use Rattle.cert_check.specs.CertificateLines.{ParsesAs}
use Rattle.qss_trace.specs.TraceLimits.{IsFactor, AreQuanta}
use Rattle.qss_trace.specs.TraceLines.{lines_of}
use Rattle.qss_trace.specs.ExpectedFields.{trace_fault, fault_from}

-- these records are a prefix of a trace for n states without fault, and these are their numbers
pub record Kept (n : ℕ) (seen : List (List (List ℕ))) (scale refine : ℕ) (q states levels : List ℤ) : Type 0 where
  -- the fault of the whole text is the fault of the rest
  pub fine : (more : List (List (List ℕ))) → trace_fault n (seen ++ more) ≡ fault_from n (length seen) more
  pub spelt : AllZip ParsesAs seen (take (length seen) (lines_of n scale refine q states levels))
  pub some_scale : 2 ≤ length seen → IsFactor scale
  pub some_refinement : 3 ≤ length seen → IsFactor refine
  pub no_quanta : length seen ≤ 3 → q ≡ []
  pub quanta : 4 ≤ length seen → AreQuanta n q
  pub state_count : length states ≡ (length seen - 4) * n
  pub level_count : length levels ≡ (length seen - 4) * n
  pub small_states : All (IsWithin 108) states
  pub small_levels : All (IsWithin 64) levels
