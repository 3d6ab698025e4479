-- Numbers among others, and lists that are written at some places.
use Rattle.mu_num.proofs.Common
use Common.{[], ℕ, ◌++◌, ◌+◌, ◌<◌, ◌∙◌, ◌∷◌, ◌≡◌, ◌≢◌, ◌≤◌, ◌⊎◌, arith, both_ways, cases_Bool}
use Common.{cases_eq, eq-eqb, eqb-true, false, get_or, inl, inr, is_listed, length, List}
use Common.{nat_eq as eqb, or_cases, refl, subst, suc, sym, take, true}
use Rattle.std.proofs.Common.{◌||◌, set}
use Rattle.std.proofs.lemmas.Bool.{eqb-false, or_parts, or_left, or_right}
use Rattle.std.proofs.lemmas.List.{length-set, get_or-set_same, get_or-set_other, take_all}
use Rattle.std.proofs.lemmas.List.Folds.{list_any_more, list_any-append, list_any_at}
use Rattle.mu_num.specs.Writes.{IsWritten}

-- one more number, as at a step of a loop
pub among_more : (places : List ℕ) (i place : ℕ) → i < length places → is_listed (take (i + 1) places) place ≡ (is_listed (take i places) place || eqb (get_or places i 0) place)
among_more places i place h = list_any_more (λ k. eqb k place) places i 0 h

-- one number more at the end
pub among_push : (places : List ℕ) (last place : ℕ) → is_listed (places ++ last ∷ []) place ≡ (is_listed places place || (eqb last place || false))
among_push places last place = list_any-append (λ k. eqb k place) places (last ∷ [])

-- a number in a list is among its numbers
pub among_at : (places : List ℕ) (i : ℕ) → i < length places → is_listed places (get_or places i 0) ≡ true
among_at places i h = list_any_at (λ k. eqb k (get_or places i 0)) places i 0 h (eq-eqb (get_or places i 0) (get_or places i 0) refl)

-- the first of some numbers, and one of the rest, are among them
pub among_head : (first : ℕ) (places : List ℕ) → is_listed (first ∷ places) first ≡ true
among_head first places = or_left (eqb first first) (is_listed places first) (eq-eqb first first refl)

pub among_rest : (first : ℕ) (places : List ℕ) (place : ℕ) → is_listed places place ≡ true → is_listed (first ∷ places) place ≡ true
among_rest first places place e = or_right (eqb first place) (is_listed places place) e

-- a number among others has an index
pub index_of : (places : List ℕ) (place : ℕ) → is_listed places place ≡ true → (i : ℕ) × (i < length places) × (get_or places i 0 ≡ place)
index_of [] place e = absurd (both_ways false refl e)
index_of (p ∷ places) place e = by_first (λ there. index_of places place there) (or_cases (eqb p place) (is_listed places place) e)
  where
    by_first : (is_listed places place ≡ true → (i : ℕ) × (i < length places) × (get_or places i 0 ≡ place)) → (eqb p place ≡ true) ⊎ (is_listed places place ≡ true) →
        (i : ℕ) × (i < length (p ∷ places)) × (get_or (p ∷ places) i 0 ≡ place)
    by_first rest (inl here) = (0, omega arith, eqb-true p place here)
    by_first rest (inr there) = let found = rest there in (suc found.0, omega (arith, found.1), found.2)

-- one more place is written
pub written_more : {X : Type 0} (d : X) (Has : ℕ → X → Type 0) (places : List ℕ) (old xs : List X) (i : ℕ) (v : X) → i < length places → get_or places i 0 < length xs →
    IsWritten d Has (take i places) old xs → Has (get_or places i 0) v → IsWritten d Has (take (i + 1) places) old (set xs (get_or places i 0) v)
written_more {X} d Has places old xs i v h inside before here = record {
  as_many = length-set xs at v ∙ before.as_many;
  each = λ place e. each_at place (or_cases (is_listed (take i places) place) (eqb at place) (sym (among_more places i place h) ∙ e));
  others = λ place e. other_at place (or_parts (is_listed (take i places) place) (eqb at place) (sym (among_more places i place h) ∙ e));
}
  where
    at : ℕ
    at = get_or places i 0

    here_at : (place : ℕ) → at ≡ place → Has place (get_or (set xs at v) place d)
    here_at place e = subst (λ k. Has k (get_or (set xs at v) k d)) e (subst (Has at) (sym (get_or-set_same xs at v d inside)) here)

    before_at : (place : ℕ) → is_listed (take i places) place ≡ true → (at ≡ place) ⊎ (at ≢ place) → Has place (get_or (set xs at v) place d)
    before_at place among (inl e) = here_at place e
    before_at place among (inr ne) = subst (Has place) (sym (get_or-set_other xs at place v d (λ e. ne (sym e)))) (before.each place among)

    each_at : (place : ℕ) → (is_listed (take i places) place ≡ true) ⊎ (eqb at place ≡ true) → Has place (get_or (set xs at v) place d)
    each_at place (inr e) = here_at place (eqb-true at place e)
    each_at place (inl among) = before_at place among (cases_eq at place)

    other_at : (place : ℕ) → (is_listed (take i places) place ≡ false) × (eqb at place ≡ false) → get_or (set xs at v) place d ≡ get_or old place d
    other_at place both = let ne : at ≢ place = eqb-false at place both.1 in get_or-set_other xs at place v d (λ e. ne (sym e)) ∙ before.others place both.0

-- all places are written
pub written_all : {X : Type 0} (d : X) (Has : ℕ → X → Type 0) (places : List ℕ) (old new : List X) (i : ℕ) → length places ≤ i → IsWritten d Has (take i places) old new →
    IsWritten d Has places old new
written_all d Has places old new i h written = subst (λ these. IsWritten d Has these old new) (take_all i places h) written

-- a list that is written at some places and then at others
pub written_on : {X : Type 0} (z : X) (Has : ℕ → X → Type 0) (places others : List ℕ) (old mid new : List X) → IsWritten z Has places old mid → IsWritten z Has others mid new →
    IsWritten z Has (places ++ others) old new
written_on z Has places others old mid new first second = record {
  as_many = second.as_many ∙ first.as_many;
  each = λ place e. elim (cases_Bool (is_listed others place)) [
    | inl among ↦ second.each place among
    | inr none ↦
        subst (Has place) (sym (second.others place none))
        (first.each place (elim (or_cases (is_listed places place) (is_listed others place) (sym (list_any-append _ places others) ∙ e)) [
          | inl sooner ↦ sooner
          | inr later ↦ absurd (cc)
        ]))
  ];
  others = λ place e.
      let parts = or_parts (is_listed places place) (is_listed others place) (sym (list_any-append _ places others) ∙ e) in
      second.others place parts.1 ∙ first.others place parts.0;
}
