-- The guarantee of an accepted certificate about a machine's legitimate runs.
use Rattle.std.specs.Prelude.{◌≡◌, ℕ, ◌*◌, ◌<◌, ◌⊎◌, List, [], length, ℤ, pos, ◌-ℤ◌, ◌*ℤ◌, ◌≤ℤ◌, slice_index_or}
use Rattle.qss_machine.specs.declared.compiled_machine.Machine.{Machine}
use Rattle.mu_num.specs.IndexedSums.{int_at, abs_of}
use Rattle.qss_machine.specs.Machines.{state_count, level_unit, start_states}
use Rattle.qss_machine.specs.Ticks.{Snapshot, start_snapshot}
use Rattle.qss_machine.specs.Runs.{IsFreeExecution}
use Rattle.qss_machine.specs.RunLaws.{states_from, levels_from}
use Rattle.qss_machine.specs.Legitimate.{IsLegitimate, entry_at, scaled_slope}
use Rattle.cert_matrix.specs.Form.{Vector, form}
use Rattle.cert_matrix.specs.Matrix.{table, vector}
use Rattle.cert_check.specs.declared.certificate.Certificate.{Certificate}
use Rattle.cert_check.specs.Inequalities.{Holds, slope_limit}
use Rattle.cert_check.specs.CertificateData.{certificate_data}
use Rattle.cert_check.specs.Systems.{system_of}

-- a legitimate run from one of the certificate's two starts, with its quanta
pub record IsCertifiedRun (m : Machine) (c : Certificate) (scale refinement : ℕ) (states levels : List (List ℤ)) : Type 0 where
  pub start : List ℤ
  pub certified : (start ≡ c.start1) ⊎ (start ≡ c.start2)
  pub legitimate : IsLegitimate m start c.q scale refinement states levels

-- the size of a level in units of a run's states, which are `scale` times finer than the machine's
abbrev pub scaled_unit : Machine → ℕ → ℤ
scaled_unit m scale = pos scale *ℤ level_unit m

-- a run's state less the centre, in the units of the run's states
abbrev pub from_centre : Machine → Certificate → ℕ → List (List ℤ) → ℕ → Vector
from_centre m c scale states i j = entry_at states i j -ℤ scaled_unit m scale *ℤ vector c.c j

-- the difference of the states of two runs, in a common unit
abbrev pub scaled_difference : ℕ → List (List ℤ) → ℕ → ℕ → List (List ℤ) → ℕ → Vector
scaled_difference scale states i scale' states' i' j = pos scale' *ℤ entry_at states i j -ℤ pos scale *ℤ entry_at states' i' j

-- the size of a level in this common unit
abbrev pub common_unit : Machine → ℕ → ℕ → ℤ
common_unit m scale scale' = pos scale *ℤ pos scale' *ℤ level_unit m

-- the guarantee of the certificate about legitimate runs of any scale and refinement
pub record BoundsAreGuaranteed (m : Machine) (c : Certificate) : Type 0 where
  -- invariant set: V(x - c) is at most R for the states x of a run
  pub basin : (s r : ℕ) (xs ms : List (List ℤ)) → IsCertifiedRun m c s r xs ms → (i : ℕ) → i < length xs →
      form (state_count m) (table c.pm) (from_centre m c s xs i) ≤ℤ (scaled_unit m s *ℤ scaled_unit m s *ℤ c.r)
  -- the absolute value of each slope of a run is at most its bound
  pub slopes : (s r : ℕ) (xs ms : List (List ℤ)) → IsCertifiedRun m c s r xs ms → (i j : ℕ) → i < length xs → j < state_count m →
      abs_of (scaled_slope m s j (slice_index_or ms i [])) ≤ℤ (pos s *ℤ slope_limit (system_of m) (certificate_data c) j)
  -- at each common time V of the difference of two runs is at most C
  pub inside : (s r s' r' : ℕ) (xs ms xs' ms' : List (List ℤ)) → IsCertifiedRun m c s r xs ms → IsCertifiedRun m c s' r' xs' ms' →
      (i i' : ℕ) → i < length xs → i' < length xs' → i * r' ≡ i' * r →
      form (state_count m) (table c.pm) (scaled_difference s xs i s' xs' i') ≤ℤ (common_unit m s s' *ℤ common_unit m s s' *ℤ c.cc)
  -- at each common time two runs differ in each state by at most E levels
  pub distances : (s r s' r' : ℕ) (xs ms xs' ms' : List (List ℤ)) → IsCertifiedRun m c s r xs ms → IsCertifiedRun m c s' r' xs' ms' →
      (i i' j : ℕ) → i < length xs → i' < length xs' → i * r' ≡ i' * r → j < state_count m →
      abs_of (scaled_difference s xs i s' xs' i' j) ≤ℤ (common_unit m s s' *ℤ vector c.e j)

-- if one of the certificate's starts is the machine's, the machine's own runs are certified runs,
-- under every rule and with quanta relative to their levels
abbrev pub CoversOwnRuns : Machine → Certificate → Type 0
CoversOwnRuns m c =
    (start_states m ≡ c.start1) ⊎ (start_states m ≡ c.start2) → (snapshots : List Snapshot) → IsFreeExecution m 0 (start_snapshot m) snapshots →
    IsLegitimate m (start_states m) c.q 1 1 (states_from (start_snapshot m) snapshots) (levels_from (start_snapshot m) snapshots)

-- soundness: if the inequalities hold for a machine without clauses, the bounds are guaranteed
pub record CertificatesAreSound : Type 0 where
  pub promised : (m : Machine) (c : Certificate) → Holds (system_of m) (certificate_data c) → BoundsAreGuaranteed m c
  pub admitted : (m : Machine) (c : Certificate) → m.clauses ≡ [] → Holds (system_of m) (certificate_data c) → CoversOwnRuns m c

-- a run that is legitimate with some quanta is legitimate with greater quanta
abbrev pub SmallerQuantaAreLegitimate : Type 0
SmallerQuantaAreLegitimate =
    (m : Machine) (start smaller greater : List ℤ) (s r : ℕ) (xs ms : List (List ℤ)) →
    ((j : ℕ) → j < state_count m → int_at smaller j ≤ℤ int_at greater j) → IsLegitimate m start smaller s r xs ms → IsLegitimate m start greater s r xs ms
