-- The comparison of two traces at their common times: the greatest V of their difference.
use Rattle.std.specs.Prelude.{◌≡◌, ℕ, ◌+◌, ◌*◌, ◌<◌, ◌≤◌, ◌⊎◌, Bool, List, ℤ, pos, ◌*ℤ◌, ◌≤ℤ◌}
use Rattle.std.specs.Prelude.{◌<ℤ◌, unsigned_abs, count_by, ◌==◌}
use Rattle.std.specs.List.{list_any, range_with_len}
use Rattle.mu_num.specs.Limits.{sum_limit}
use Rattle.cert_matrix.specs.Form.{Vector, form}
use Rattle.cert_matrix.specs.Matrix.{table, IsFormInRange}
use Rattle.cert_check.specs.Bounds.{scaled_difference}
use Rattle.qss_machine.specs.Legitimate.{entry_at}
use Rattle.qss_trace.specs.declared.trace.Trace.{Trace}
use Rattle.qss_trace.specs.declared.trace_comparison.Greatest.{Greatest}
use Rattle.qss_trace.specs.declared.trace_comparison.Greatest.TheVariants.{Found, Range}
use Rattle.qss_trace.specs.Trace.{count_of, states_of}

-- these places of two traces are at the same time
pub record AreCommon (t1 t2 : Trace) (i1 i2 : ℕ) : Type 0 where
  pub first : i1 < count_of t1
  pub second : i2 < count_of t2
  pub tick : i1 * t2.refine ≡ i2 * t1.refine

-- whether a place of the first trace is at the time of a place of the second
abbrev pub is_shared : Trace → Trace → ℕ → Bool
is_shared t1 t2 i1 = list_any (λ i2. i1 * t2.refine == i2 * t1.refine) (range_with_len 0 (count_of t2))

-- the number of common times
abbrev pub common_count : Trace → Trace → ℕ
common_count t1 t2 = count_by (is_shared t1 t2) (range_with_len 0 (count_of t1))

-- the difference at two places, in the common unit
abbrev pub difference : Trace → Trace → ℕ → ℕ → Vector
difference t1 t2 i1 i2 = scaled_difference t1.scale (states_of t1) i1 t2.scale (states_of t2) i2

-- V of this difference
abbrev pub value_of : List (List ℤ) → Trace → Trace → ℕ → ℕ → ℤ
value_of p t1 t2 i1 i2 = form t1.n (table p) (difference t1 t2 i1 i2)

-- the sums that compute V at two places are in range
pub record IsPairInRange (p : List (List ℤ)) (t1 t2 : Trace) (i1 i2 : ℕ) : Type 0 where
  pub parts : (j : ℕ) → j < t1.n → t2.scale * unsigned_abs (entry_at (states_of t1) i1 j) + t1.scale * unsigned_abs (entry_at (states_of t2) i2 j) ≤ sum_limit
  pub form : IsFormInRange t1.n (table p) (difference t1 t2 i1 i2)

-- the size of a level in the common unit
abbrev pub both_units : Trace → Trace → ℤ → ℤ
both_units t1 t2 k = pos t1.scale *ℤ pos t2.scale *ℤ k

-- the bound of V that a certificate guarantees
abbrev pub bound_of : ℤ → ℤ → Trace → Trace → ℤ
bound_of c k t1 t2 = both_units t1 t2 k *ℤ both_units t1 t2 k *ℤ c

-- the products that compute the bound, from the left, are at most 2^126 in absolute value
pub record IsBoundInRange (c k : ℤ) (t1 t2 : Trace) : Type 0 where
  pub scales : unsigned_abs (pos t1.scale) * unsigned_abs (pos t2.scale) ≤ sum_limit
  pub unit : unsigned_abs (pos t1.scale *ℤ pos t2.scale) * unsigned_abs k ≤ sum_limit
  pub square : unsigned_abs (both_units t1 t2 k) * unsigned_abs (both_units t1 t2 k) ≤ sum_limit
  pub whole : unsigned_abs (both_units t1 t2 k *ℤ both_units t1 t2 k) * unsigned_abs c ≤ sum_limit

-- V is greatest at these places, and less at each earlier common time
pub record AreGreatest (p : List (List ℤ)) (t1 t2 : Trace) (i1 i2 : ℕ) : Type 0 where
  pub common : AreCommon t1 t2 i1 i2
  pub most : (j1 j2 : ℕ) → AreCommon t1 t2 j1 j2 → value_of p t1 t2 j1 j2 ≤ℤ value_of p t1 t2 i1 i2
  pub first : (j1 j2 : ℕ) → AreCommon t1 t2 j1 j2 → j1 < i1 → value_of p t1 t2 j1 j2 <ℤ value_of p t1 t2 i1 i2

-- all sums are in range, and these are the result: count, first places of the greatest V, V, bound
pub record IsGreatestFound (p : List (List ℤ)) (c k : ℤ) (t1 t2 : Trace) (common place1 place2 : ℕ) (value bound : ℤ) : Type 0 where
  pub bound_in_range : IsBoundInRange c k t1 t2
  pub pairs_in_range : (i1 i2 : ℕ) → AreCommon t1 t2 i1 i2 → IsPairInRange p t1 t2 i1 i2
  pub count : common ≡ common_count t1 t2
  pub greatest : AreGreatest p t1 t2 place1 place2
  pub value_is : value ≡ value_of p t1 t2 place1 place2
  pub bound_is : bound ≡ bound_of c k t1 t2

-- these are the first places at which a sum is out of range
pub record AreFirstOut (p : List (List ℤ)) (t1 t2 : Trace) (i1 i2 : ℕ) : Type 0 where
  pub common : AreCommon t1 t2 i1 i2
  pub out : IsPairInRange p t1 t2 i1 i2 → ⊥
  pub before : (j1 j2 : ℕ) → AreCommon t1 t2 j1 j2 → j1 < i1 → IsPairInRange p t1 t2 j1 j2

-- the result of the comparison; places 0 and 0 denote that the bound is out of range
abbrev pub IsGreatest : List (List ℤ) → ℤ → ℤ → Trace → Trace → Greatest → Type 0
IsGreatest p c k t1 t2 (Found common place1 place2 value bound) = IsGreatestFound p c k t1 t2 common place1 place2 value bound
IsGreatest p c k t1 t2 (Range place1 place2) =
    ((place1 ≡ 0) × (place2 ≡ 0) × (IsBoundInRange c k t1 t2 → ⊥)) ⊎ (IsBoundInRange c k t1 t2 × AreFirstOut p t1 t2 place1 place2)
