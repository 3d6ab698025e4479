-- The table of the inequalities: number, places, relation, sides, and the first failure in order.
use Rattle.std.specs.Prelude.{◌≡◌, ℕ, zero, suc, Bool, true, false, ◌+◌, ◌*◌, ◌<◌, ◌≤◌, List, [], ◌∷◌, Option, Some, None, IsSome, ℤ, pos, ◌*ℤ◌, ◌⊎◌, if◌then◌else◌, length}
use Rattle.std.specs.Ordering.{int_eq}
use Rattle.mu_num.specs.IndexedSums.{sum_below}
use Rattle.mu_num.specs.Limits.{relative_unit}
use Rattle.cert_check.specs.declared.inequality_checker.Fault.{Fault}
use Rattle.cert_check.specs.declared.inequality_checker.Relation.{Relation}
use Rattle.cert_check.specs.declared.inequality_checker.Relation.TheVariants.{AtLeast, AtMost, Equal}
use Rattle.cert_check.specs.declared.inequality_sides.Stage.TheVariants.{Bounded, Decaying}
use Rattle.cert_matrix.specs.Form.{Vector, form, minus_gram, off_diagonal_sum}
use Rattle.cert_check.specs.declared.inequality_checker.Fault.TheVariants.{Rejected, Range}
use Rattle.cert_check.specs.declared.inequality_checker.Verdict.{Verdict}
use Rattle.cert_check.specs.declared.inequality_checker.Verdict.TheVariants.{Accepted, Rejected as VRejected, Range as VRange}
use Rattle.cert_check.specs.FirstFailures.{IsFirstFault}
use Rattle.cert_check.specs.Pairs.{pairs, pair_of}
use Rattle.cert_check.specs.declared.certificate.Certificate.{Certificate}
use Rattle.cert_check.specs.declared.affine_data.AffineSystem.{AffineSystem}
use Rattle.cert_check.specs.declared.inequality_sides.Inequality.{Inequality}
use Rattle.cert_check.specs.declared.inequality_sides.Inequality.TheVariants.{SignP, SignMu, SignLambda, SignH1, SignH2, SignR, SignZ, SignS, SignSigmaR, SignC, SignSigmaC, SignE, Symmetric, BoundParts, Bound, DecayProducts, DecayParts, Decay, FirstStart, SecondStart, StartsApart, Reach, Slope, CentreGain, CentreSum, PairGain, PairSum, Distance, Quantum, Share}
use Rattle.cert_check.specs.Inequalities.{System, CertificateData, scaled_offset, slope_limit, centre_disturbance, pair_disturbance, level_range}
use Rattle.cert_check.specs.Ranges.{IsSquareInRange, IsSumBoundInRange, IsSlopeSidesInRange, IsCentreSidesInRange, IsPairSidesInRange, IsShareInRange, ArePartsInRange, AreProductsInRange, IsStageInRange, IsGapInRange, matrix_of, factor_of, root_of}

-- the matrices of the system and of the certificate have the same number of rows
pub record IsWellFormed (m : AffineSystem) (x : Certificate) : Type 0 where
  pub coef : length m.coef ≡ m.n
  pub form : length x.pm ≡ m.n
  pub gram1 : length x.g1 ≡ m.n
  pub gram2 : length x.g2 ≡ m.n
  pub few : m.n ≤ 16

-- the number of places of an inequality for n states
abbrev pub places_of : ℕ → Inequality → ℕ
places_of n SignLambda = 1
places_of n SignH1 = 1
places_of n SignH2 = 1
places_of n SignR = 1
places_of n SignC = 1
places_of n CentreSum = 1
places_of n PairSum = 1
places_of n Symmetric = pairs n
places_of n FirstStart = 1
places_of n SecondStart = 1
places_of n StartsApart = 1
places_of n _ = n

-- the number of an inequality, from 1 to 13
abbrev pub number_of : Inequality → ℕ
number_of SignP = 1
number_of SignMu = 1
number_of SignLambda = 1
number_of SignH1 = 1
number_of SignH2 = 1
number_of SignR = 1
number_of SignZ = 1
number_of SignS = 1
number_of SignSigmaR = 1
number_of SignC = 1
number_of SignSigmaC = 1
number_of SignE = 1
number_of Symmetric = 2
number_of BoundParts = 3
number_of Bound = 3
number_of DecayProducts = 4
number_of DecayParts = 4
number_of Decay = 4
number_of FirstStart = 5
number_of SecondStart = 5
number_of StartsApart = 5
number_of Reach = 6
number_of Slope = 7
number_of CentreGain = 8
number_of CentreSum = 9
number_of PairGain = 10
number_of PairSum = 11
number_of Distance = 12
number_of Quantum = 13
number_of Share = 13

-- the offset of the places of an inequality, whose first place has this number plus 1
abbrev pub start_of : ℕ → Inequality → ℕ
start_of n SignMu = n
start_of n SignLambda = 2 * n
start_of n SignH1 = 2 * n + 1
start_of n SignH2 = 2 * n + 2
start_of n SignR = 2 * n + 3
start_of n SignZ = 2 * n + 4
start_of n SignS = 3 * n + 4
start_of n SignSigmaR = 4 * n + 4
start_of n SignC = 5 * n + 4
start_of n SignSigmaC = 5 * n + 5
start_of n SignE = 6 * n + 5
start_of n Share = n
start_of n SecondStart = 1
start_of n StartsApart = 2
start_of n _ = 0

-- the relation that the two sides of an inequality must satisfy
abbrev pub relation_of : Inequality → Relation
relation_of Symmetric = Equal
relation_of FirstStart = AtMost
relation_of SecondStart = AtMost
relation_of StartsApart = AtMost
relation_of _ = AtLeast

-- whether the first n numbers of two vectors are equal
abbrev pub is_same_below : ℕ → Vector → Vector → Bool
is_same_below zero f g = true
is_same_below (suc n) f g = if int_eq (f n) (g n) then is_same_below n f g else false

-- the sums of an inequality at a place are in range
abbrev pub IsPlaceInRange : System → CertificateData → Inequality → ℕ → Type 0
IsPlaceInRange m x SignP k = Unit {0}
IsPlaceInRange m x SignMu k = Unit {0}
IsPlaceInRange m x SignLambda k = Unit {0}
IsPlaceInRange m x SignH1 k = Unit {0}
IsPlaceInRange m x SignH2 k = Unit {0}
IsPlaceInRange m x SignR k = Unit {0}
IsPlaceInRange m x SignZ k = Unit {0}
IsPlaceInRange m x SignS k = Unit {0}
IsPlaceInRange m x SignSigmaR k = Unit {0}
IsPlaceInRange m x SignC k = Unit {0}
IsPlaceInRange m x SignSigmaC k = Unit {0}
IsPlaceInRange m x SignE k = Unit {0}
IsPlaceInRange m x Symmetric k = Unit {0}
IsPlaceInRange m x BoundParts k = ArePartsInRange m x Bounded k
IsPlaceInRange m x Bound k = IsStageInRange m x Bounded k
IsPlaceInRange m x DecayProducts k = AreProductsInRange m x k
IsPlaceInRange m x DecayParts k = ArePartsInRange m x Decaying k
IsPlaceInRange m x Decay k = IsStageInRange m x Decaying k
IsPlaceInRange m x FirstStart k = IsGapInRange m x x.start1 m.unit x.c x.r
IsPlaceInRange m x SecondStart k = IsGapInRange m x x.start2 m.unit x.c x.r
IsPlaceInRange m x StartsApart k = (is_same_below m.n x.start1 x.start2 ≡ true) ⊎ IsGapInRange m x x.start1 (pos 1) x.start2 x.cc
IsPlaceInRange m x Reach k = IsSquareInRange (x.p k) (x.z k)
IsPlaceInRange m x Slope k = IsSlopeSidesInRange m x k
IsPlaceInRange m x CentreGain k = IsCentreSidesInRange m x k
IsPlaceInRange m x CentreSum k = IsSumBoundInRange m.n x.lambda x.r x.sigma_r
IsPlaceInRange m x PairGain k = IsPairSidesInRange m x k
IsPlaceInRange m x PairSum k = IsSumBoundInRange m.n x.lambda x.cc x.sigma_c
IsPlaceInRange m x Distance k = IsSquareInRange (x.p k) (x.e k)
IsPlaceInRange m x Quantum k = Unit {0}
IsPlaceInRange m x Share k = (m.share ≡ pos 0) ⊎ IsShareInRange m x k

-- all sums that compute the inequalities are in range
abbrev pub AreSumsInRange : System → CertificateData → Type 0
AreSumsInRange m x = (i : Inequality) (k : ℕ) → k < places_of m.n i → IsPlaceInRange m x i k

-- the left side of an inequality at a place
abbrev pub left_of : System → CertificateData → Inequality → ℕ → ℤ
left_of m x SignP k = x.p k
left_of m x SignMu k = x.mu k
left_of m x SignLambda k = x.lambda
left_of m x SignH1 k = x.h1
left_of m x SignH2 k = x.h2
left_of m x SignR k = x.r
left_of m x SignZ k = x.z k
left_of m x SignS k = x.s k
left_of m x SignSigmaR k = x.sigma_r k
left_of m x SignC k = x.cc
left_of m x SignSigmaC k = x.sigma_c k
left_of m x SignE k = x.e k
left_of m x Symmetric k = x.pm (pair_of m.n k).0 (pair_of m.n k).1
left_of m x BoundParts k = pos 0
left_of m x Bound k = minus_gram m.n (factor_of x Bounded) (matrix_of m x Bounded) (root_of x Bounded) k k
left_of m x DecayProducts k = pos 0
left_of m x DecayParts k = pos 0
left_of m x Decay k = minus_gram m.n (factor_of x Decaying) (matrix_of m x Decaying) (root_of x Decaying) k k
left_of m x FirstStart k = form m.n x.pm (scaled_offset x.start1 m.unit x.c)
left_of m x SecondStart k = form m.n x.pm (scaled_offset x.start2 m.unit x.c)
left_of m x StartsApart k = if is_same_below m.n x.start1 x.start2 then pos 0 else form m.n x.pm (scaled_offset x.start1 (pos 1) x.start2)
left_of m x Reach k = x.p k *ℤ (x.z k *ℤ x.z k)
left_of m x Slope k = m.unit *ℤ x.s k
left_of m x CentreGain k = x.mu k *ℤ x.sigma_r k
left_of m x CentreSum k = x.lambda *ℤ x.r
left_of m x PairGain k = x.mu k *ℤ x.sigma_c k
left_of m x PairSum k = x.lambda *ℤ x.cc
left_of m x Distance k = x.p k *ℤ (x.e k *ℤ x.e k)
left_of m x Quantum k = x.q k
left_of m x Share k = if int_eq m.share (pos 0) then pos 0 else pos relative_unit *ℤ x.q k

-- the right side of an inequality at a place
abbrev pub right_of : System → CertificateData → Inequality → ℕ → ℤ
right_of m x SignP k = pos 1
right_of m x SignMu k = pos 1
right_of m x SignLambda k = pos 1
right_of m x SignH1 k = pos 1
right_of m x SignH2 k = pos 1
right_of m x SignR k = pos 0
right_of m x SignZ k = pos 0
right_of m x SignS k = pos 0
right_of m x SignSigmaR k = pos 0
right_of m x SignC k = pos 0
right_of m x SignSigmaC k = pos 0
right_of m x SignE k = pos 0
right_of m x Symmetric k = x.pm (pair_of m.n k).1 (pair_of m.n k).0
right_of m x BoundParts k = pos 0
right_of m x Bound k = off_diagonal_sum m.n (minus_gram m.n (factor_of x Bounded) (matrix_of m x Bounded) (root_of x Bounded)) k
right_of m x DecayProducts k = pos 0
right_of m x DecayParts k = pos 0
right_of m x Decay k = off_diagonal_sum m.n (minus_gram m.n (factor_of x Decaying) (matrix_of m x Decaying) (root_of x Decaying)) k
right_of m x FirstStart k = m.unit *ℤ m.unit *ℤ x.r
right_of m x SecondStart k = m.unit *ℤ m.unit *ℤ x.r
right_of m x StartsApart k = if is_same_below m.n x.start1 x.start2 then pos 0 else m.unit *ℤ m.unit *ℤ x.cc
right_of m x Reach k = x.r
right_of m x Slope k = slope_limit m x k
right_of m x CentreGain k = centre_disturbance m x k *ℤ centre_disturbance m x k
right_of m x CentreSum k = sum_below m.n x.sigma_r
right_of m x PairGain k = pair_disturbance m x k *ℤ pair_disturbance m x k
right_of m x PairSum k = sum_below m.n x.sigma_c
right_of m x Distance k = x.cc
right_of m x Quantum k = m.quantum k
right_of m x Share k = if int_eq m.share (pos 0) then pos 0 else m.share *ℤ level_range x k

-- the first failure of an inequality, or none
abbrev pub IsFaultOf : System → CertificateData → Inequality → Option Fault → Type 0
IsFaultOf m x i fault =
    IsFirstFault (number_of i) (start_of m.n i) (places_of m.n i) (IsPlaceInRange m x i) (relation_of i) (left_of m x i) (right_of m x i) fault

-- the first failure of these inequalities in order, or none
abbrev pub IsFirstFaultOf : System → CertificateData → List Inequality → Option Fault → Type 0
IsFirstFaultOf m x [] fault = fault ≡ None
IsFirstFaultOf m x (i ∷ rest) fault = (IsFaultOf m x i None × IsFirstFaultOf m x rest fault) ⊎ (IsSome fault × IsFaultOf m x i fault)

-- all inequalities, in the order of the check
abbrev pub inequalities : List Inequality
inequalities =
    SignP ∷ SignMu ∷ SignLambda ∷ SignH1 ∷ SignH2 ∷ SignR ∷ SignZ ∷ SignS ∷ SignSigmaR ∷ SignC ∷ SignSigmaC ∷ SignE ∷ Symmetric ∷ BoundParts ∷ Bound
    ∷ DecayProducts ∷ DecayParts ∷ Decay ∷ FirstStart ∷ SecondStart ∷ StartsApart ∷ Reach ∷ Slope ∷ CentreGain ∷ CentreSum ∷ PairGain ∷ PairSum
    ∷ Distance ∷ Quantum ∷ Share ∷ []

-- the failure that a verdict reports
abbrev pub fault_of : Verdict → Option Fault
fault_of Accepted = None
fault_of (VRejected number place left right) = Some (Rejected number place left right)
fault_of (VRange number place) = Some (Range number place)
