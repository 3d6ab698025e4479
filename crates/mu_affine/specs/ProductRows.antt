-- Assignment of products to coefficient maps, where each key is set once.
use Rattle.std.specs.Prelude.{ℕ, ◌≡◌, List, [], map, Option, Some, None, slice_get, Result, Ok, Err}
use Rattle.std.specs.Ordering.{nat_cmp}
use Rattle.std.specs.declared.cmp.Ordering.{Ordering}
use Rattle.std.specs.BTreeMap.{is_at}
use Rattle.std.specs.Map.{lookup}
use Rattle.mu_num.specs.declared.NumErr.{NumErr}
use Rattle.mu_num.specs.Fraction.{Fraction, product, checked}
use Rattle.mu_affine.specs.declared.exact_form.ExactEntry.{ExactEntry}
use Rattle.mu_affine.specs.declared.exact_form.ExactForm.{ExactForm}
use Rattle.mu_affine.specs.declared.form_sum.RunningForm.{RunningForm}
use Rattle.mu_affine.specs.AffineForm.{none}
use Rattle.mu_affine.specs.FormRows.{named, pair_cmp, value_at}

-- a discrete variable's entry, keyed by the pair with a state
abbrev pub beside : ℕ → ExactEntry → (ℕ × ℕ) × Fraction
beside s e = ((s, e.var), e.coef)

-- the new value of a key: its coefficient in a list times a number, or the old value if the list
-- has none
abbrev pub IsSet : Option Fraction → (by old new : Fraction) → Type 0
IsSet None by old new = new ≡ old
IsSet (Some a) by old new = checked (product a by) ≡ Ok new

-- every key of the list is set to its coefficient times a number, and all other keys are unchanged
abbrev pub SetsAll : {K : Type 0} → (K → K → Ordering) → Fraction → (old new cs : List (K × Fraction)) → Type 0
SetsAll {K} cmp by old new cs = (k : K) → IsSet (lookup (is_at (cmp k)) cs) by (value_at cmp old k) (value_at cmp new k)

-- setting some entry of the list fails
abbrev pub ListFails : {K : Type 0} → Fraction → List (K × Fraction) → NumErr → Type 0
ListFails {K} by cs fault = (i : ℕ) × (c : K × Fraction) × (slice_get cs i ≡ Some c) × (checked (product c.1 by) ≡ Err fault)

-- the result of setting a list, and the new map
abbrev pub SetsList : {K : Type 0} → (K → K → Ordering) → Fraction → (old new cs : List (K × Fraction)) → Result (Unit {0}) NumErr → Type 0
SetsList cmp by old new cs (Ok done) = SetsAll cmp by old new cs
SetsList cmp by old new cs (Err fault) = ListFails by cs fault

-- the new value of a pair after all products of the states and discrete variables are set
abbrev pub IsPairSet : Option Fraction → Option Fraction → (old new : Fraction) → Type 0
IsPairSet None d old new = new ≡ old
IsPairSet (Some a) d old new = IsSet d a old new

-- the product of some state's and some discrete variable's coefficients fails
pub record TableFails (states discretes : List (ℕ × Fraction)) (fault : NumErr) : Type 0 where
  pub i : ℕ
  pub j : ℕ
  pub state : ℕ × Fraction
  pub discrete : ℕ × Fraction
  pub state_at : slice_get states i ≡ Some state
  pub discrete_at : slice_get discretes j ≡ Some discrete
  pub fails : checked (product discrete.1 state.1) ≡ Err fault

-- the result of setting all products, and the new map
abbrev pub SetsTable : (old new : List ((ℕ × ℕ) × Fraction)) → (states discretes : List (ℕ × Fraction)) → Result (Unit {0}) NumErr → Type 0
SetsTable old new states discretes (Ok done) =
    (s d : ℕ) → IsPairSet (lookup (is_at (nat_cmp s)) states) (lookup (is_at (nat_cmp d)) discretes) (value_at pair_cmp old (s, d)) (value_at pair_cmp new (s, d))
SetsTable old new states discretes (Err fault) = TableFails states discretes fault

-- a running sum that is the product of a form of states and a form of discrete variables
pub record IsCrossed (f g : ExactForm) (r : RunningForm) : Type 0 where
  pub between : List (ℕ × Fraction)
  pub firsts : SetsAll nat_cmp g.constant [] between (map named f.entries)
  pub seconds : SetsAll nat_cmp f.constant between r.names.entries (map named g.entries)
  pub pairs : (s d : ℕ) → IsPairSet (lookup (is_at (nat_cmp s)) (map named f.entries)) (lookup (is_at (nat_cmp d)) (map named g.entries)) none (value_at pair_cmp r.pairs.entries (s, d))
  pub time : r.time ≡ none
  pub constant : checked (product f.constant g.constant) ≡ Ok r.constant

-- the product has a number out of range
pub data CrossFails (f g : ExactForm) (fault : NumErr) : Type 0 where
  OfStates : ListFails g.constant (map named f.entries) fault → CrossFails f g fault
  OfDiscretes : ListFails f.constant (map named g.entries) fault → CrossFails f g fault
  OfPairs : TableFails (map named f.entries) (map named g.entries) fault → CrossFails f g fault
  OfConstants : checked (product f.constant g.constant) ≡ Err fault → CrossFails f g fault

-- the result of multiplying the two forms
abbrev pub Crosses : (f g : ExactForm) → Result RunningForm NumErr → Type 0
Crosses f g (Ok r) = IsCrossed f g r
Crosses f g (Err fault) = CrossFails f g fault
