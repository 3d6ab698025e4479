-- Coefficient maps, keyed by a variable's number or by a pair of numbers, as sorted lists.
use Rattle.std.specs.Prelude.{ℕ, Bool, true, false, ◌≡◌, if◌then◌else◌, List, Some, unwrap_or}
use Rattle.std.specs.Prelude.{slice_get, Result, Ok, Err}
use Rattle.std.specs.declared.cmp.Ordering.{Ordering}
use Rattle.std.specs.Ordering.{nat_cmp, ordering_then, is_eq}
use Rattle.std.specs.BTreeMap.{is_at}
use Rattle.std.specs.List.Sorted.{IsStrictlySortedBy}
use Rattle.std.specs.Map.{lookup, keys_of}
use Rattle.mu_num.specs.declared.NumErr.{NumErr}
use Rattle.mu_num.specs.Fraction.{Fraction, sum, difference, checked, IsReduced}
use Rattle.mu_affine.specs.declared.exact_form.ExactEntry.{ExactEntry}
use Rattle.mu_affine.specs.declared.exact_form.ExactProduct.{ExactProduct}
use Rattle.mu_affine.specs.AffineForm.{none}

-- the lexicographic order of pairs
abbrev pub pair_cmp : ℕ × ℕ → ℕ × ℕ → Ordering
pair_cmp a b = ordering_then (nat_cmp a.0 b.0) (nat_cmp a.1 b.1)

-- the entry as a key and a coefficient
abbrev pub named : ExactEntry → ℕ × Fraction
named e = (e.var, e.coef)

-- the product as a pair of keys and a coefficient
abbrev pub paired : ExactProduct → (ℕ × ℕ) × Fraction
paired p = ((p.state, p.discrete), p.coef)

-- the coefficient of a key, 0 if it has none
abbrev pub value_at : {K : Type 0} → (K → K → Ordering) → List (K × Fraction) → K → Fraction
value_at cmp cs k = unwrap_or (lookup (is_at (cmp k)) cs) none

-- the sum or difference of two fractions
abbrev pub joined : Bool → Fraction → Fraction → Fraction
joined false a b = sum a b
joined true a b = difference a b

-- the coefficient of one key became this one, and all other coefficients are unchanged
abbrev pub ChangesAt : {K : Type 0} → (K → K → Ordering) → (old new : List (K × Fraction)) → K → Fraction → Type 0
ChangesAt {K} cmp old new k a = (q : K) → value_at cmp new q ≡ (if is_eq (cmp k q) then a else value_at cmp old q)

-- the result of adding to the coefficient of one key, and the new map
abbrev pub JoinsAt : {K : Type 0} → (K → K → Ordering) → (minus : Bool) → (old new : List (K × Fraction)) → K → Fraction → Result (Unit {0}) NumErr → Type 0
JoinsAt cmp minus old new k a (Ok done) = (total : Fraction) × (checked (joined minus (value_at cmp old k) a) ≡ Ok total) × ChangesAt cmp old new k total
JoinsAt cmp minus old new k a (Err fault) = checked (joined minus (value_at cmp old k) a) ≡ Err fault

-- every coefficient of the list was added
abbrev pub JoinsAll : {K : Type 0} → (K → K → Ordering) → (minus : Bool) → (old new cs : List (K × Fraction)) → Type 0
JoinsAll {K} cmp minus old new cs = (k : K) → checked (joined minus (value_at cmp old k) (value_at cmp cs k)) ≡ Ok (value_at cmp new k)

-- adding some coefficient of the list fails
abbrev pub SomeFails : {K : Type 0} → (K → K → Ordering) → (minus : Bool) → (old cs : List (K × Fraction)) → NumErr → Type 0
SomeFails {K} cmp minus old cs fault =
    (i : ℕ) × (c : K × Fraction) × (slice_get cs i ≡ Some c) × (checked (joined minus (value_at cmp old c.0) (value_at cmp cs c.0)) ≡ Err fault)

-- the result of adding a list, and the new map; after an error the map contains a part of the list
abbrev pub JoinsList : {K : Type 0} → (K → K → Ordering) → (minus : Bool) → (old new cs : List (K × Fraction)) → Result (Unit {0}) NumErr → Type 0
JoinsList cmp minus old new cs (Ok done) = JoinsAll cmp minus old new cs
JoinsList cmp minus old new cs (Err fault) = SomeFails cmp minus old cs fault

-- the keys are strictly increasing
abbrev pub IsRising : {K : Type 0} → (K → K → Ordering) → List (K × Fraction) → Type 0
IsRising cmp cs = IsStrictlySortedBy cmp (keys_of cs)

-- every coefficient is in lowest terms
abbrev pub AreReduced : {K : Type 0} → (K → K → Ordering) → List (K × Fraction) → Type 0
AreReduced {K} cmp cs = (k : K) → IsReduced (value_at cmp cs k)
