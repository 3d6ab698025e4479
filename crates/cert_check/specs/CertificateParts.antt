-- The parts of a certificate, and the rows of numbers that contain them.
use Rattle.std.specs.Prelude.{◌≡◌, ℕ, ◌+◌, ◌*◌, List, [], ◌∷◌, take, drop, slice_index_or, ℤ}
use Rattle.cert_check.specs.CertificateLimits.{IsNumber, IsVector, IsSquareTable}
use Rattle.cert_check.specs.declared.certificate_assembly.Bound.{Bound}
use Rattle.cert_check.specs.declared.certificate_assembly.Roots.{Roots}
use Rattle.cert_check.specs.declared.certificate_assembly.Basin.{Basin}
use Rattle.cert_check.specs.declared.certificate_assembly.Ellipsoid.{Ellipsoid}

-- the list is row k and has one number for each state
pub record IsRow (n : ℕ) (rows : List (List ℤ)) (k : ℕ) (numbers : List ℤ) : Type 0 where
  pub is : numbers ≡ slice_index_or rows k []
  pub within : IsVector n numbers

-- row k contains exactly this number
pub record IsSingle (rows : List (List ℤ)) (k : ℕ) (number : ℤ) : Type 0 where
  pub is : slice_index_or rows k [] ≡ number ∷ []
  pub within : IsNumber number

-- the matrix has the n rows from row k on
pub record IsBlock (n : ℕ) (rows : List (List ℤ)) (k : ℕ) (matrix : List (List ℤ)) : Type 0 where
  pub is : matrix ≡ take n (drop k rows)
  pub within : IsSquareTable n matrix

pub record IsBound (n : ℕ) (rows : List (List ℤ)) (part : Bound) : Type 0 where
  pub pm : IsBlock n rows 1 part.pm
  pub p : IsRow n rows (n + 1) part.p
  pub mu : IsRow n rows (n + 1 + 1) part.mu
  pub lambda : IsSingle rows (n + 1 + 2) part.lambda
  pub h1 : IsSingle rows (n + 1 + 3) part.h1

pub record AreRoots (n : ℕ) (rows : List (List ℤ)) (part : Roots) : Type 0 where
  pub g1 : IsBlock n rows (n + 1 + 4) part.g1
  pub h2 : IsSingle rows (2 * n + 5) part.h2
  pub g2 : IsBlock n rows (2 * n + 5 + 1) part.g2

pub record IsBasin (n : ℕ) (rows : List (List ℤ)) (part : Basin) : Type 0 where
  pub centre : IsRow n rows (3 * n + 6) part.c
  pub r : IsSingle rows (3 * n + 6 + 1) part.r
  pub z : IsRow n rows (3 * n + 6 + 2) part.z
  pub s : IsRow n rows (3 * n + 6 + 3) part.s
  pub sigma_r : IsRow n rows (3 * n + 6 + 4) part.sigma_r

pub record IsEllipsoid (n : ℕ) (rows : List (List ℤ)) (part : Ellipsoid) : Type 0 where
  pub cc : IsSingle rows (3 * n + 6 + 5) part.cc
  pub sigma_c : IsRow n rows (3 * n + 6 + 6) part.sigma_c
  pub e : IsRow n rows (3 * n + 6 + 7) part.e
  pub start1 : IsRow n rows (3 * n + 6 + 8) part.start1
  pub start2 : IsRow n rows (3 * n + 6 + 9) part.start2
  pub q : IsRow n rows (3 * n + 6 + 10) part.q
