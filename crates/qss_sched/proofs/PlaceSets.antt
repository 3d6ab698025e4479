-- Sets of places: those are listed that are marked.
use Rattle.qss_sched.proofs.Common
use Common.{[], ℕ, ◌++◌, ◌+◌, ◌<◌, ◌||◌, ◌∙◌, ◌∷◌, ◌≡◌, ◌≢◌, ◌≤◌, ◌⊎◌, All, among_push, ap, arith}
use Common.{Bool, cases_Bool, cases_eq, cases_lt, eqb, false, flag_at, get_or, get_or-set_other}
use Common.{get_or-set_same, get_or_past, if◌then◌else◌, inl, inr, is_listed, IsPlaceSet, IsWritten}
use Common.{length, length-replicate, length_push, List, PlaceList, refl, replicate}
use Common.{slice_set as set, suc, sym, true, zero}
use Rattle.std.proofs.lemmas.Bool.{or_left, or_right}
use Rattle.std.proofs.lemmas.List.{length-set, get_or-replicate}
use Rattle.std.proofs.lemmas.List.Elements.{All-from_get_or}
use Rattle.std.proofs.lemmas.List.Sums.{sum_by-cons}
use Rattle.mu_num.proofs.Tests.{eqb-yes, eqb-no}
use Rattle.qss_sched.specs.PlaceSets.{set_count}
use Rattle.mu_num.proofs.Writes.{among_at}

or_false : (b : Bool) → (b || false) ≡ b
or_false true = refl
or_false false = refl

-- equal places and counts
pub same_set : (a b : PlaceList) → a.places ≡ b.places → a.count ≡ b.count → a ≡ b
same_set a b places count = ap (λ (l : List ℕ). record a { places = l }) places ∙ ap (λ (n : ℕ). record b { count = n }) count

abbrev one : Bool → ℕ
one flag = if flag then 1 else 0

-- at most all flags are set
few_set : (flags : List Bool) → set_count flags ≤ length flags
few_set [] = let own : set_count [] ≡ 0 = refl in omega (arith, own)
few_set (true ∷ flags) = let own : set_count (true ∷ flags) ≡ 1 + set_count flags = sum_by-cons one true flags in omega (arith, own, few_set flags)
few_set (false ∷ flags) = let own : set_count (false ∷ flags) ≡ 0 + set_count flags = sum_by-cons one false flags in omega (arith, own, few_set flags)

-- one more flag is set
set_more : (flags : List Bool) (i : ℕ) → i < length flags → flag_at flags i ≡ false → set_count (set flags i true) ≡ set_count flags + 1
set_more [] i h e = absurd (omega (arith, h))
set_more (true ∷ flags) zero h e = let both : true ≡ false = e in absurd (cc)
set_more (false ∷ flags) zero h e =
    let new : set_count (true ∷ flags) ≡ 1 + set_count flags = sum_by-cons one true flags in
    let old : set_count (false ∷ flags) ≡ 0 + set_count flags = sum_by-cons one false flags in
    omega (arith, new, old)
set_more (flag ∷ flags) (suc i) h e =
    let new : set_count (flag ∷ set flags i true) ≡ one flag + set_count (set flags i true) = sum_by-cons one flag (set flags i true) in
    let old : set_count (flag ∷ flags) ≡ one flag + set_count flags = sum_by-cons one flag flags in
    omega (arith, new, old, set_more flags i (omega (arith, h)) e)

-- adding a place that is already in a list changes no membership
pub there_already : (places : List ℕ) (place other : ℕ) → is_listed places place ≡ true → is_listed places other ≡ (is_listed places other || eqb place other)
there_already places place other there = by (cases_eq place other)
  where
    by : (place ≡ other) ⊎ (place ≢ other) → is_listed places other ≡ (is_listed places other || eqb place other)
    by (inl same) = let here : is_listed places other ≡ true = ap (λ k. is_listed places k) (sym same) ∙ there in here ∙ sym (or_left (is_listed places other) (eqb place other) here)
    by (inr ne) = sym (ap (λ b. is_listed places other || b) (eqb-no place other ne) ∙ or_false (is_listed places other))

-- a place is added at the end
pub came_last : (places : List ℕ) (place other : ℕ) → is_listed (places ++ place ∷ []) other ≡ (is_listed places other || eqb place other)
came_last places place other = among_push places place other ∙ ap (λ b. is_listed places other || b) (or_false (eqb place other))

-- no places
pub empty_set : (count room : ℕ) → count ≤ room → IsPlaceSet [] (replicate count false) room
empty_set count room h = record {
  own = λ place. sym (none place (cases_lt place count));
  few = omega arith;
  all = omega (arith, h, length-replicate count false);
}
  where
    none : (place : ℕ) → (place < count) ⊎ (count ≤ place) → flag_at (replicate count false) place ≡ false
    none place (inl inside) = get_or-replicate count place false false inside
    none place (inr past) = get_or_past (replicate count false) place false (omega (arith, past, length-replicate count false))

module _ (listed : List ℕ) (among : List Bool) (room : ℕ) (is : IsPlaceSet listed among room) where
  -- there is room for a place that is not there
  pub has_room : (place : ℕ) → place < length among → is_listed listed place ≡ false → length listed < room
  has_room place inside absent =
      omega (arith, set_more among place inside (sym (is.own place) ∙ absent), few_set (set among place true), length-set among place true, is.few, is.all)

  -- a place that is not in the set is added
  pub added : (place : ℕ) → place < length among → is_listed listed place ≡ false → IsPlaceSet (listed ++ place ∷ []) (set among place true) room
  added place inside absent = record {
    own = λ other. own other (cases_eq place other);
    few = omega (arith, length_push listed place, set_more among place inside (sym (is.own place) ∙ absent), is.few);
    all = omega (arith, length-set among place true, is.all);
  }
    where
      own : (other : ℕ) → (place ≡ other) ⊎ (place ≢ other) → is_listed (listed ++ place ∷ []) other ≡ flag_at (set among place true) other
      own other (inl same) =
          came_last listed place other
          ∙ or_right (is_listed listed other) (eqb place other) (eqb-yes place other same)
          ∙ sym (ap (λ k. flag_at (set among place true) k) (sym same) ∙ get_or-set_same among place true false inside)
      own other (inr ne) =
          came_last listed place other
          ∙ ap (λ b. is_listed listed other || b) (eqb-no place other ne)
          ∙ or_false (is_listed listed other)
          ∙ is.own other
          ∙ sym (get_or-set_other among place other true false (λ q. ne (sym q)))

  -- places in the set are below its count
  pub below_count : All (λ place. place < length among) listed
  below_count = All-from_get_or (λ place. place < length among) listed 0 (λ k h. inside (get_or listed k 0) (among_at listed k h) (cases_lt (get_or listed k 0) (length among)))
    where
      inside : (place : ℕ) → is_listed listed place ≡ true → (place < length among) ⊎ (length among ≤ place) → place < length among
      inside place there (inl below) = below
      inside place there (inr past) = let both : true ≡ false = sym there ∙ is.own place ∙ get_or_past among place false past in absurd (cc)

  -- its places are not there any more
  pub emptied : (new : List Bool) → IsWritten false (λ place flag. flag ≡ false) listed among new → IsPlaceSet [] new room
  emptied new written = record {
    own = λ place. sym (none place (cases_Bool (is_listed listed place)));
    few = omega arith;
    all = omega (arith, written.as_many, is.all);
  }
    where
      none : (place : ℕ) → (is_listed listed place ≡ true) ⊎ (is_listed listed place ≡ false) → flag_at new place ≡ false
      none place (inl there) = written.each place there
      none place (inr absent) = written.others place absent ∙ sym (is.own place) ∙ absent
