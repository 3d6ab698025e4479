-- The first failure among the places of an inequality.
use Rattle.std.specs.Prelude.{◌≡◌, ℕ, ◌+◌, ◌<◌, ℤ, ◌≤ℤ◌, Bool, true, Option, Some, None, if◌then◌else◌, int_lt}
use Rattle.cert_check.specs.declared.inequality_checker.Sides.{Sides}
use Rattle.cert_check.specs.declared.inequality_checker.Relation.{Relation}
use Rattle.cert_check.specs.declared.inequality_checker.Relation.TheVariants.{AtLeast, AtMost, Equal}
use Rattle.cert_check.specs.declared.inequality_checker.Fault.{Fault}
use Rattle.cert_check.specs.declared.inequality_checker.Fault.TheVariants.{Rejected, Range}

-- the two sides satisfy the relation
abbrev pub IsMet : Relation → ℤ → ℤ → Type 0
IsMet AtLeast left right = right ≤ℤ left
IsMet AtMost left right = left ≤ℤ right
IsMet Equal left right = left ≡ right

-- whether the two sides violate the relation
abbrev pub fails_by : Relation → ℤ → ℤ → Bool
fails_by AtLeast left right = int_lt left right
fails_by AtMost left right = int_lt right left
fails_by Equal left right = if int_lt left right then true else int_lt right left

-- the failure of a place: no sides means out of range, sides that violate the relation are rejected
abbrev pub judgement : ℕ → ℕ → Relation → Option Sides → Option Fault
judgement number place relation None = Some (Range number place)
judgement number place relation (Some sides) =
    if fails_by relation sides.left sides.right then Some (Rejected number place sides.left sides.right) else None

-- at each place below n the sums are in range and the sides satisfy the relation
abbrev pub AllPass : ℕ → (ℕ → Type 0) → Relation → (ℕ → ℤ) → (ℕ → ℤ) → Type 0
AllPass n InRange relation left right = (k : ℕ) → k < n → InRange k × IsMet relation (left k) (right k)

-- the first failure of the places below n, which have the numbers from start + 1 on, or none
abbrev pub IsFirstFault : ℕ → ℕ → ℕ → (ℕ → Type 0) → Relation → (ℕ → ℤ) → (ℕ → ℤ) → Option Fault → Type 0
IsFirstFault number start n InRange relation left right None = AllPass n InRange relation left right
IsFirstFault number start n InRange relation left right (Some (Range number' place)) =
    (k : ℕ) × (k < n) × (number' ≡ number) × (place ≡ start + k + 1) × AllPass k InRange relation left right × (InRange k → ⊥)
IsFirstFault number start n InRange relation left right (Some (Rejected number' place left' right')) =
    (k : ℕ) × (k < n) × (number' ≡ number) × (place ≡ start + k + 1) × AllPass k InRange relation left right
    × InRange k × (left' ≡ left k) × (right' ≡ right k) × (IsMet relation left' right' → ⊥)
