-- The ranges of the numbers that the steps of a proposal require and guarantee.
use Rattle.std.specs.Prelude.{◌≡◌, ℕ, ◌<◌, ◌≤◌, length, ℤ, pos, ◌≤ℤ◌}
use Rattle.mu_num.specs.Sizes.{IsWithin}
use Rattle.mu_num.specs.Limits.{sum_limit}
use Rattle.cert_matrix.specs.Form.{Vector}
use Rattle.cert_matrix.specs.Matrix.{vector}
use Rattle.cert_check.specs.Inequalities.{System}
use Rattle.cert_check.specs.declared.affine_data.AffineSystem.{AffineSystem}
use Rattle.cert_check.specs.CertificateLimits.{IsNumber, IsVector, IsSquareTable}
use Rattle.cert_propose.specs.declared.candidate_bounds.Bounds.{Bounds}
use Rattle.cert_propose.specs.declared.candidate_basin.Reach.{Reach}
use Rattle.cert_propose.specs.declared.candidate_basin.Basin.{Basin}
use Rattle.cert_propose.specs.declared.candidate_ellipsoid.Ellipsoid.{Ellipsoid}
use Rattle.cert_propose.specs.declared.certificate_proposal.Numbers.{Numbers}

-- the system has 1 to 16 states and one row of coefficients for each
pub record IsFormed (m : AffineSystem) : Type 0 where
  pub some : 1 ≤ m.n
  pub few : m.n ≤ 16
  pub coef : length m.coef ≡ m.n

-- the coefficients are at most 2^44 in absolute value
abbrev pub AreSmall : System → Type 0
AreSmall m = (i j : ℕ) → i < m.n → j < m.n → IsWithin 44 (m.coef i j)

-- from 0 to 2^126
pub record IsBound (z : ℤ) : Type 0 where
  pub from_zero : pos 0 ≤ℤ z
  pub at_most : z ≤ℤ pos sum_limit

-- the first n numbers are at least 1
abbrev pub ArePositive : ℕ → Vector → Type 0
ArePositive n f = (k : ℕ) → k < n → pos 1 ≤ℤ f k

-- the bounds of n states are at least 1
pub record AreBounds (n : ℕ) (b : Bounds) : Type 0 where
  pub few : n ≤ 16
  pub pa : length b.pa ≡ n
  pub p : ArePositive n (vector b.p)
  pub mu : ArePositive n (vector b.mu)
  pub lambda : pos 1 ≤ℤ b.lambda

-- the bounds are at least 1 and in range
pub record AreKept (n : ℕ) (b : Bounds) : Type 0 where
  pub bounds : AreBounds n b
  pub p : IsVector n b.p
  pub mu : IsVector n b.mu
  pub lambda : IsNumber b.lambda

-- the bounds that follow from R are in range
pub record IsReach (n : ℕ) (x : Reach) : Type 0 where
  pub z : IsVector n x.z
  pub s : IsVector n x.s
  pub sigma : IsVector n x.sigma

-- the invariant set has numbers in range
pub record IsBasin (n : ℕ) (x : Basin) : Type 0 where
  pub r : IsBound x.r
  pub reach : IsReach n x.reach

-- the ellipsoid has numbers in range
pub record IsEllipsoid (n : ℕ) (x : Ellipsoid) : Type 0 where
  pub cc_ : IsNumber x.cc
  pub sigma : IsVector n x.sigma
  pub e : IsVector n x.e

-- all numbers of the candidate are in range
pub record AreFit (n : ℕ) (x : Numbers) : Type 0 where
  pub c : IsVector n x.c
  pub pm : IsSquareTable n x.pm
  pub bounds : AreKept n x.bounds
  pub basin : IsBasin n x.basin
  pub ellipsoid : IsEllipsoid n x.ellipsoid
