-- Runs of an affine system, and the guarantee of an accepted certificate about them.
use Rattle.cert_check.proofs.Common
use Common.{ℕ, ℤ, ◌*ℤ◌, ◌*◌, ◌+ℤ◌, ◌-ℤ◌, ◌<ℤ◌, ◌<◌, ◌≡◌, ◌≤ℤ◌, ◌≤◌, ◌⊎◌, abs_of, CertificateData}
use Common.{form, Holds, pos, slope_limit, suc, System, times, Vector}

-- a run: its states and levels at the places 0 to last, in units `scale` times finer and on a grid of `refinement` places to a tick
pub record Run : Type 0 where
  pub scale : ℕ
  pub refinement : ℕ
  pub last : ℕ
  pub states : ℕ → Vector
  pub levels : ℕ → Vector

-- the slope of state j at place i
abbrev pub slope_at : System → Run → ℕ → Vector
slope_at m w i j = times m.n m.coef (w.levels i) j +ℤ pos w.scale *ℤ m.constant j

-- from the start, each state moves by its slope and stays within its quantum of its level
pub record IsLegitimate (m : System) (quanta start : Vector) (w : Run) : Type 0 where
  pub scaled : 1 ≤ w.scale
  pub refined : 1 ≤ w.refinement
  pub starts : (j : ℕ) → j < m.n → w.states 0 j ≡ pos w.scale *ℤ start j
  pub moves : (i j : ℕ) → i < w.last → j < m.n
      → pos w.refinement *ℤ (w.states (suc i) j -ℤ w.states i j) ≡ slope_at m w i j
  pub near : (i j : ℕ) → i ≤ w.last → j < m.n
      → abs_of (w.states i j -ℤ m.unit *ℤ w.levels i j) ≤ℤ (pos w.scale *ℤ m.unit *ℤ quanta j)

-- the vector is one of the two starts of the certificate, at each state
abbrev pub IsCertifiedStart : System → CertificateData → Vector → Type 0
IsCertifiedStart m x start = ((j : ℕ) → j < m.n → start j ≡ x.start1 j) ⊎ ((j : ℕ) → j < m.n → start j ≡ x.start2 j)

-- the form of the distance from the centre is at most R
abbrev pub IsInBasin : System → CertificateData → ℕ → Vector → Type 0
IsInBasin m x scale state =
    form m.n x.pm (λ j. state j -ℤ pos scale *ℤ m.unit *ℤ x.c j) ≤ℤ ((pos scale *ℤ m.unit) *ℤ (pos scale *ℤ m.unit) *ℤ x.r)

-- the two places are at the same time
abbrev pub IsCommonTick : Run → Run → ℕ → ℕ → Type 0
IsCommonTick v w i k = i * w.refinement ≡ k * v.refinement

-- the difference of two states, each in the units of both
abbrev pub difference : Run → Run → ℕ → ℕ → Vector
difference v w i k j = pos w.scale *ℤ v.states i j -ℤ pos v.scale *ℤ w.states k j

-- the product of both scales and the unit
abbrev pub common_unit : System → Run → Run → ℤ
common_unit m v w = pos v.scale *ℤ pos w.scale *ℤ m.unit

-- the difference is in the certified ellipsoid
abbrev pub IsInside : System → CertificateData → Run → Run → ℕ → ℕ → Type 0
IsInside m x v w i k =
    form m.n x.pm (difference v w i k) ≤ℤ (common_unit m v w *ℤ common_unit m v w *ℤ x.cc)

-- the guarantee of an accepted certificate about the system's runs
pub record Promises (m : System) (x : CertificateData) : Type 0 where
  pub basin : (start : Vector) (w : Run) → IsCertifiedStart m x start → IsLegitimate m x.q start w
      → (i : ℕ) → i ≤ w.last → IsInBasin m x w.scale (w.states i)
  pub slopes : (start : Vector) (w : Run) → IsCertifiedStart m x start → IsLegitimate m x.q start w
      → (i j : ℕ) → i ≤ w.last → j < m.n → abs_of (slope_at m w i j) ≤ℤ (pos w.scale *ℤ slope_limit m x j)
  pub inside : (y z : Vector) (v w : Run) → IsCertifiedStart m x y → IsCertifiedStart m x z → IsLegitimate m x.q y v → IsLegitimate m x.q z w
      → (i k : ℕ) → i ≤ v.last → k ≤ w.last → IsCommonTick v w i k → IsInside m x v w i k
  pub distances : (y z : Vector) (v w : Run) → IsCertifiedStart m x y → IsCertifiedStart m x z → IsLegitimate m x.q y v → IsLegitimate m x.q z w
      → (i k : ℕ) → i ≤ v.last → k ≤ w.last → IsCommonTick v w i k
      → (j : ℕ) → j < m.n → abs_of (difference v w i k j) ≤ℤ (common_unit m v w *ℤ x.e j)

-- a certificate whose inequalities hold guarantees its bounds, for every system with a positive unit
abbrev pub KeepsPromises : Type 0
KeepsPromises = (m : System) (x : CertificateData) → pos 0 <ℤ m.unit → Holds m x → Promises m x

-- q is a quantum of state j at this level: its own, or one within the relative quantum, in 4096ths of the level
abbrev pub IsQuantumAt : System → ℕ → ℤ → ℤ → Type 0
IsQuantumAt m j level q = (q ≡ m.quantum j) ⊎ ((pos 4096 *ℤ q) ≤ℤ (m.share *ℤ abs_of level))

-- a run of whole ticks whose levels are new, and then within one level of the state, or kept while the state is within a quantum of them
pub record KeepsLevels (m : System) (start : Vector) (w : Run) : Type 0 where
  pub scale : w.scale ≡ 1
  pub refinement : w.refinement ≡ 1
  pub starts : (j : ℕ) → j < m.n → w.states 0 j ≡ start j
  pub moves : (i j : ℕ) → i < w.last → j < m.n
      → w.states (suc i) j -ℤ w.states i j ≡ times m.n m.coef (w.levels i) j +ℤ m.constant j
  pub first : (j : ℕ) → j < m.n → abs_of (w.states 0 j -ℤ m.unit *ℤ w.levels 0 j) ≤ℤ m.unit
  pub next : (i j : ℕ) → i < w.last → j < m.n
      → (abs_of (w.states (suc i) j -ℤ m.unit *ℤ w.levels (suc i) j) ≤ℤ m.unit)
      ⊎ ((q : ℤ) × IsQuantumAt m j (w.levels i j) q × (w.levels (suc i) j ≡ w.levels i j)
      × (abs_of (w.states (suc i) j -ℤ m.unit *ℤ w.levels (suc i) j) ≤ℤ (m.unit *ℤ q)))

-- such a run from a certified start is legitimate with the quanta of the certificate
abbrev pub AdmitsShares : Type 0
AdmitsShares =
    (m : System) (x : CertificateData) → pos 0 <ℤ m.unit → pos 0 ≤ℤ m.share → ((j : ℕ) → j < m.n → pos 1 ≤ℤ m.quantum j) → Holds m x
    → (start : Vector) (w : Run) → IsCertifiedStart m x start → KeepsLevels m start w → IsLegitimate m x.q start w
