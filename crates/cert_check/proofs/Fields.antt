-- The fields of a record, and the first that is not a number.
use Rattle.cert_check.proofs.Common
use Common.{[], ℕ, ℤ, ◌++◌, ◌+◌, ◌-◌, ◌<◌, ◌==◌, ◌∙◌, ◌∷◌, ◌≡◌, ◌≤◌, ◌⊎◌, ap, ap₂, arith, bytes_eq}
use Common.{cases_lt, drop, drop_more, false, get_or, get_or-drop, get_or_append_left, get_or_at}
use Common.{inl, inr, is_no_number, is_none, IsNumber, IsVector, keyword_of, length, length-append}
use Common.{length-drop, List, map, map-append, ne_eqb, None, number_in, Option, position_from}
use Common.{refl, Some, subst, suc, sym, take, take_more, zero}
use Rattle.csv.specs.Records.{field_at}

pub field-at : (fields : List (List ℕ)) (i : ℕ) → i < length fields → field_at fields i ≡ Some (get_or fields i [])
unfolding field_at
field-at [] i h = absurd (omega arith)
field-at (f ∷ fs) zero h = refl
field-at (f ∷ fs) (suc i) h = field-at fs i (omega arith)

pub field-is : (fields : List (List ℕ)) (i : ℕ) (x : List ℕ) → i < length fields → Some x ≡ field_at fields i → get_or fields i [] ≡ x
field-is fields i x h e = let a = field-at fields i h in cc

pub field-never : (fields : List (List ℕ)) (i : ℕ) → i < length fields → ◌≡◌ {A = Option (List ℕ)} None (field_at fields i) → ⊥
field-never fields i h e = let a = field-at fields i h in cc

pub first-is : (fields : List (List ℕ)) (x : List ℕ) → Some x ≡ field_at fields 0 → keyword_of fields ≡ x
unfolding field_at
first-is [] x e = absurd (cc)
first-is (f ∷ fs) x e = cc

pub first-none : (fields : List (List ℕ)) → ◌≡◌ {A = Option (List ℕ)} None (field_at fields 0) → keyword_of fields ≡ []
unfolding field_at
first-none [] e = refl
first-none (f ∷ fs) e = absurd (cc)

-- one more number
module _ (fields : List (List ℕ)) (place : ℕ) (low : 1 ≤ place) (high : place < length fields) where
  at-place : get_or (drop 1 fields) (place - 1) [] ≡ get_or fields place []
  at-place = get_or-drop 1 fields (place - 1) [] ∙ ap (λ k. get_or fields k []) (omega arith)

  pub spelt-more : (row : List ℤ) (z : ℤ) → map number_in (take (place - 1) (drop 1 fields)) ≡ map (λ z. Some z) row → number_in (get_or fields place []) ≡ Some z
      → map number_in (take (place + 1 - 1) (drop 1 fields)) ≡ map (λ z. Some z) (row ++ z ∷ [])
  spelt-more row z before e =
      let within : place - 1 < length (drop 1 fields) = omega (arith, length-drop 1 fields) in
      let k : place + 1 - 1 ≡ (place - 1) + 1 = omega arith in
      ap (λ k. map number_in (take k (drop 1 fields))) k
      ∙ ap (map number_in) (take_more (drop 1 fields) (place - 1) [] within)
      ∙ map-append number_in (take (place - 1) (drop 1 fields)) (get_or (drop 1 fields) (place - 1) [] ∷ [])
      ∙ ap₂ (λ (a : List (Option ℤ)) b. a ++ b ∷ []) before (ap number_in at-place ∙ e)
      ∙ sym (map-append (λ (z : ℤ). Some z) row (z ∷ []))

  pub faults-more : (z : ℤ) → number_in (get_or fields place []) ≡ Some z
      → position_from is_no_number (place + 1) (drop place fields) ≡ position_from is_no_number (place + 1 + 1) (drop (place + 1) fields)
  faults-more z e = rw (drop_more fields place [] high, e) refl

  pub fault-here : number_in (get_or fields place []) ≡ None → position_from is_no_number (place + 1) (drop place fields) ≡ Some (place + 1)
  fault-here e = rw (drop_more fields place [] high, e) refl

-- one more number of a row
pub vector-more : (n : ℕ) (row : List ℤ) (z : ℤ) → IsVector n row → IsNumber z → IsVector (n + 1) (row ++ z ∷ [])
vector-more n row z before small = record {
  one_each = omega (arith, length-append row (z ∷ []), before.one_each);
  each = λ k d h. by k d (omega (arith, length-append row (z ∷ []), h)) (cases_lt k (length row));
}
  where
    by : (k : ℕ) (d : ℤ) → k < length row + 1 → (k < length row) ⊎ (length row ≤ k) → IsNumber (get_or (row ++ z ∷ []) k d)
    by k d h (inl l) = rw (get_or_append_left row (z ∷ []) d k l) (before.each k d l)
    by k d h (inr l) = let e : length row ≡ k = omega arith in rw (get_or_at row z [] d k e) small

-- if some field after the keyword and all before it are numbers, the first one is
pub first-number : (fields : List (List ℕ)) (place : ℕ) (z : ℤ) → 1 ≤ place → (1 < place → is_no_number (get_or fields 1 []) ≡ false)
    → number_in (get_or fields place []) ≡ Some z → is_no_number (get_or fields 1 []) ≡ false
first-number fields place z low before e = by (cases_lt 1 place)
  where
    by : (1 < place) ⊎ (place ≤ 1) → is_no_number (get_or fields 1 []) ≡ false
    by (inl h) = before h
    by (inr h) =
        let here : place ≡ 1 = omega arith in
        let P : ℕ → Type 0 = λ k. is_no_number (get_or fields k []) ≡ false in
        subst P here (ap is_none e)

-- no bytes are only the same as none
pub empty-same : (keyword : List ℕ) → (length keyword == 0) ≡ bytes_eq [] keyword
empty-same [] = refl
empty-same (b ∷ rest) = ne_eqb (length (b ∷ rest)) 0 (λ e. cc)
