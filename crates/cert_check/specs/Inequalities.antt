-- The conditions on the numbers of a certificate, in thirteen groups, which imply its bounds.
use Rattle.std.specs.Prelude.{ℕ, ◌<◌, ℤ, pos, ◌+ℤ◌, ◌-ℤ◌, ◌*ℤ◌, neg_ℤ, ◌≤ℤ◌}
use Rattle.mu_num.specs.IndexedSums.{sum_below, abs_of}
use Rattle.mu_num.specs.Limits.{relative_unit}
use Rattle.cert_matrix.specs.Form.{Vector, Table, times, product, form, diagonal, minus_gram, IsSymmetric, IsDominant}

-- an affine system of n states: in a tick a state moves by coef times the levels, plus constant
-- unit is the size of a level in units of a state; share is the relative quantum, in 4096ths
pub record System : Type 0 where
  pub n : ℕ
  pub coef : Table
  pub constant : Vector
  pub quantum : Vector
  pub unit : ℤ
  pub share : ℤ

-- the numbers of a certificate, as vectors and matrices
-- V is the quadratic form of the matrix pm. A covered run is a legitimate run from start1 or start2
-- with quanta at most q. K is the size of a level in units of a state.
pub record CertificateData : Type 0 where
  -- the matrix P of V
  pub pm : Table
  -- lower bound of V: V(y) is at least the sum of p[i] y[i]^2
  pub p : Vector
  -- decrease of V: -2 y^T P A y is at least the sum of mu[i] y[i]^2, plus lambda V(y)
  pub mu : Vector
  pub lambda : ℤ
  -- witness of the lower bound of V: a factor and the matrix G1 (condition 3)
  pub h1 : ℤ
  pub g1 : Table
  -- witness of the decrease of V: a factor and the matrix G2 (condition 4)
  pub h2 : ℤ
  pub g2 : Table
  -- the centre of the invariant set, in levels
  pub c : Vector
  -- R: the invariant set is the set of states x with V(x - K c) at most K^2 R
  pub r : ℤ
  -- in the invariant set, state j is at most z[j] levels from the centre
  pub z : Vector
  -- in the invariant set, state j of a covered run changes by at most s[j] levels in a tick
  pub s : Vector
  -- bound of the effect of the disturbance on V of the difference of a run and the centre
  pub sigma_r : Vector
  -- C: V of the difference of two covered runs is at most K^2 C
  pub cc : ℤ
  -- bound of the effect of the disturbance on V of the difference of two runs
  pub sigma_c : Vector
  -- the bounds E: two covered runs differ in state j by at most e[j] levels
  pub e : Vector
  -- the two starts, in units of states
  pub start1 : Vector
  pub start2 : Vector
  -- the greatest quanta of covered runs, in levels
  pub q : Vector

-- P - diag(p)
abbrev pub diagonal_surplus : CertificateData → Table
diagonal_surplus x i j = x.pm i j -ℤ diagonal x.p i j

-- -(P A + A^T P) - diag(mu) - lambda P, where A is coef
abbrev pub decrease_matrix : System → CertificateData → Table
decrease_matrix m x i j =
    neg_ℤ (product m.n x.pm m.coef i j +ℤ product m.n x.pm m.coef j i) -ℤ diagonal x.mu i j -ℤ x.lambda *ℤ x.pm i j

-- a vector less a factor times another vector
abbrev pub scaled_offset : Vector → ℤ → Vector → Vector
scaled_offset start factor base k = start k -ℤ factor *ℤ base k

-- the slope if all levels are at the centre
abbrev pub centre_slope : System → CertificateData → Vector
centre_slope m x j = times m.n m.coef x.c j +ℤ m.constant j

-- the largest distance of a state from its level one tick before, in levels
abbrev pub level_error : CertificateData → Vector
level_error x j = x.q j +ℤ x.s j

-- the bound T of a slope in the invariant set
abbrev pub slope_limit : System → CertificateData → Vector
slope_limit m x j = sum_below m.n (λ k. abs_of (m.coef j k) *ℤ (x.z k +ℤ x.q k)) +ℤ abs_of (centre_slope m x j)

-- the sum of the absolute values of row i of P A, each times the level error
abbrev pub weighted_level_error : System → CertificateData → Vector
weighted_level_error m x i = sum_below m.n (λ j. abs_of (product m.n x.pm m.coef i j) *ℤ level_error x j)

-- the disturbance bound gR about the centre, per tick
abbrev pub centre_disturbance : System → CertificateData → Vector
centre_disturbance m x i = weighted_level_error m x i +ℤ abs_of (times m.n x.pm (centre_slope m x) i)

-- the disturbance bound gC of the difference of two runs, per tick
abbrev pub pair_disturbance : System → CertificateData → Vector
pair_disturbance m x i = pos 2 *ℤ weighted_level_error m x i

-- the largest absolute value of level j in the invariant set
abbrev pub level_range : CertificateData → Vector
level_range x j = abs_of (x.c j) +ℤ x.z j +ℤ x.q j

-- the numbers that must be at least 1, and the numbers that must be at least 0
pub record HasSigns (n : ℕ) (x : CertificateData) : Type 0 where
  pub p : (i : ℕ) → i < n → pos 1 ≤ℤ x.p i
  pub mu : (i : ℕ) → i < n → pos 1 ≤ℤ x.mu i
  pub lambda : pos 1 ≤ℤ x.lambda
  pub h1 : pos 1 ≤ℤ x.h1
  pub h2 : pos 1 ≤ℤ x.h2
  pub r : pos 0 ≤ℤ x.r
  pub z : (i : ℕ) → i < n → pos 0 ≤ℤ x.z i
  pub s : (i : ℕ) → i < n → pos 0 ≤ℤ x.s i
  pub sigma_r : (i : ℕ) → i < n → pos 0 ≤ℤ x.sigma_r i
  pub cc : pos 0 ≤ℤ x.cc
  pub sigma_c : (i : ℕ) → i < n → pos 0 ≤ℤ x.sigma_c i
  pub e : (i : ℕ) → i < n → pos 0 ≤ℤ x.e i

-- all conditions hold; the comments number the groups of docs/CERTIFICATES.md
pub record Holds (m : System) (x : CertificateData) : Type 0 where
  -- 1
  pub signs : HasSigns m.n x
  -- 2
  pub symmetric : IsSymmetric m.n x.pm
  -- 3: lower bound of V
  pub bounded_below : IsDominant m.n (minus_gram m.n x.h1 (diagonal_surplus x) x.g1)
  -- 4: decrease of V
  pub decays : IsDominant m.n (minus_gram m.n x.h2 (decrease_matrix m x) x.g2)
  -- 5: the starts are in the invariant set
  pub first_start : form m.n x.pm (λ k. x.start1 k -ℤ m.unit *ℤ x.c k) ≤ℤ (m.unit *ℤ m.unit *ℤ x.r)
  pub second_start : form m.n x.pm (λ k. x.start2 k -ℤ m.unit *ℤ x.c k) ≤ℤ (m.unit *ℤ m.unit *ℤ x.r)
  -- 5: V of the difference of the starts is at most K^2 C
  pub starts_apart : form m.n x.pm (λ k. x.start1 k -ℤ x.start2 k) ≤ℤ (m.unit *ℤ m.unit *ℤ x.cc)
  -- 6
  pub reach : (k : ℕ) → k < m.n → x.r ≤ℤ (x.p k *ℤ (x.z k *ℤ x.z k))
  -- 7
  pub slopes : (j : ℕ) → j < m.n → slope_limit m x j ≤ℤ (m.unit *ℤ x.s j)
  -- 8
  pub centre_gains : (i : ℕ) → i < m.n → (centre_disturbance m x i *ℤ centre_disturbance m x i) ≤ℤ (x.mu i *ℤ x.sigma_r i)
  -- 9
  pub centre_sum : sum_below m.n x.sigma_r ≤ℤ (x.lambda *ℤ x.r)
  -- 10
  pub pair_gains : (i : ℕ) → i < m.n → (pair_disturbance m x i *ℤ pair_disturbance m x i) ≤ℤ (x.mu i *ℤ x.sigma_c i)
  -- 11
  pub pair_sum : sum_below m.n x.sigma_c ≤ℤ (x.lambda *ℤ x.cc)
  -- 12
  pub distances : (k : ℕ) → k < m.n → x.cc ≤ℤ (x.p k *ℤ (x.e k *ℤ x.e k))
  -- 13
  pub quanta : (j : ℕ) → j < m.n → m.quantum j ≤ℤ x.q j
  pub shares : (j : ℕ) → j < m.n → (m.share *ℤ level_range x j) ≤ℤ (pos relative_unit *ℤ x.q j)
