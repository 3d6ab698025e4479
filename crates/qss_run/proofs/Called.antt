-- Conditions that became true during the handlers, scheduled for a tick.
use Rattle.qss_run.proofs.Common
use Common.{[], ℕ, ◌&&◌, ◌+◌, ◌<◌, ◌∙◌, ◌≡◌, ◌≢◌, ◌≤◌, ◌⊎◌, ap, AreAlikeBut, AreRisenDue, arith}
use Common.{became_true, Bool, cases_Bool, cases_eq, Conditions, due_at, eqb, eqb-true, false}
use Common.{flag_at, get_or, get_or-set_other, get_or-set_same, index_of, inl, inr, is_listed}
use Common.{length, length-set, List, None, not, Option, or_cases, refl, set, Some, sym, take}
use Common.{take_all, true}
use Rattle.mu_num.proofs.Writes.{among_more}

not_risen : (at_arrival after_handlers : Bool) → at_arrival ≡ after_handlers → (after_handlers && not at_arrival) ≡ false
not_risen true true e = refl
not_risen true false e = refl
not_risen false true e = let both : true ≡ false = sym e in absurd (cc)
not_risen false false e = refl

-- where none of these became true, and the others are as on arrival, none did
pub none_but_these : (places : List ℕ) (at_arrival after_handlers : List Bool) → AreAlikeBut places at_arrival after_handlers →
    ((k : ℕ) → k < length places → became_true at_arrival after_handlers (get_or places k 0) ≡ false) → (place : ℕ) → became_true at_arrival after_handlers place ≡ false
none_but_these places at_arrival after_handlers alike none place =
    elim (cases_Bool (is_listed places place)) [
      | inl there ↦
          let found = index_of places place there in
          ap (λ k. became_true at_arrival after_handlers k) (sym found.2) ∙ none found.0 found.1
      | inr not_there ↦ not_risen (flag_at at_arrival place) (flag_at after_handlers place) (alike place not_there)
    ]

-- the conditions at these indices are scheduled
pub record AreCalled (n tick : ℕ) (places : List ℕ) (at_arrival after_handlers : List Bool) (old new : List (Option ℕ)) : Type 0 where
  pub as_many : length new ≡ length old
  pub states : (j : ℕ) → j < n → due_at new j ≡ due_at old j
  pub risen : (place : ℕ) → is_listed places place ≡ true → became_true at_arrival after_handlers place ≡ true → due_at new (n + place) ≡ Some tick
  pub others : (place : ℕ) → became_true at_arrival after_handlers place ≡ false → due_at new (n + place) ≡ due_at old (n + place)

pub none_called : (n tick : ℕ) (at_arrival after_handlers : List Bool) (due : List (Option ℕ)) → AreCalled n tick [] at_arrival after_handlers due due
none_called n tick at_arrival after_handlers due = record {
  as_many = refl;
  states = λ j h. refl;
  risen = λ place there e. absurd (cc);
  others = λ place e. refl;
}

module _ (n tick : ℕ) (places : List ℕ) (i : ℕ) (at_arrival after_handlers : List Bool) (old new : List (Option ℕ)) (inside : i < length places) (are : AreCalled n tick (take i places) at_arrival after_handlers old new) where
  abbrev at : ℕ
  at = get_or places i 0

  kept : (place : ℕ) (due : Option ℕ) (other : ℕ) → place ≢ other → due_at (set new place due) other ≡ due_at new other
  kept place due other ne = get_or-set_other new place other due None (λ q. ne (sym q))

  among : (place : ℕ) → is_listed (take (i + 1) places) place ≡ true → (is_listed (take i places) place ≡ true) ⊎ (at ≡ place)
  among place there = elim (or_cases (is_listed (take i places) place) (eqb at place) (sym (among_more places i place inside) ∙ there)) [ inl before ↦ inl before | inr last ↦ inr (eqb-true at place last) ]

  -- one more is scheduled
  pub called_more : n + at < length new → became_true at_arrival after_handlers at ≡ true → AreCalled n tick (take (i + 1) places) at_arrival after_handlers old (set new (n + at) (Some tick))
  called_more within true_there = record {
    as_many = length-set new (n + at) (Some tick) ∙ are.as_many;
    states = λ j h. kept (n + at) (Some tick) j (omega (arith, h)) ∙ are.states j h;
    risen = λ place there e. by_here place e (among place there) (cases_eq at place);
    others = λ place e.
        let ne : at ≢ place = λ q. let both : true ≡ false = sym true_there ∙ ap (became_true at_arrival after_handlers) q ∙ e in absurd (cc) in
        kept (n + at) (Some tick) (n + place) (omega (arith, ne)) ∙ are.others place e;
  }
    where
      here : (place : ℕ) → at ≡ place → due_at (set new (n + at) (Some tick)) (n + place) ≡ Some tick
      here place same = ap (λ k. due_at (set new (n + at) (Some tick)) (n + k)) (sym same) ∙ get_or-set_same new (n + at) (Some tick) None within

      by_here : (place : ℕ) → became_true at_arrival after_handlers place ≡ true → (is_listed (take i places) place ≡ true) ⊎ (at ≡ place) → (at ≡ place) ⊎ (at ≢ place) →
          due_at (set new (n + at) (Some tick)) (n + place) ≡ Some tick
      by_here place e known (inl same) = here place same
      by_here place e (inl before) (inr ne) = kept (n + at) (Some tick) (n + place) (omega (arith, ne)) ∙ are.risen place before e
      by_here place e (inr same) (inr ne) = here place same

  -- one more did not become true
  pub called_same : became_true at_arrival after_handlers at ≡ false → AreCalled n tick (take (i + 1) places) at_arrival after_handlers old new
  called_same false_there = record {
    as_many = are.as_many;
    states = are.states;
    risen = λ place there e. elim (among place there) [
      | inl before ↦ are.risen place before e
      | inr same ↦ (let both : true ≡ false = sym e ∙ ap (became_true at_arrival after_handlers) (sym same) ∙ false_there in absurd (cc))
    ];
    others = are.others;
  }

-- all that became true are scheduled, and the index after the conditions has none
pub called_all : (n tick : ℕ) (places : List ℕ) (i : ℕ) (all : Conditions) (old new : List (Option ℕ)) → length places ≤ i → AreAlikeBut places all.at_arrival.items all.after_handlers.items →
    AreCalled n tick (take i places) all.at_arrival.items all.after_handlers.items old new → n + length all.after_handlers.items < length new → AreRisenDue n tick all old (set new (n + length all.after_handlers.items) None)
called_all n tick places i all old new past alike are within = record {
  as_many = length-set new (n + length all.after_handlers.items) None ∙ are.as_many;
  states = λ j h. kept j (omega (arith, h)) ∙ are.states j h;
  risen = λ place h e. kept (n + place) (omega (arith, h)) ∙ are.risen place (ap (λ (these : List ℕ). is_listed these place) (take_all i places past) ∙ listed place e (cases_Bool (is_listed places place))) e;
  others = λ place h e. kept (n + place) (omega (arith, h)) ∙ are.others place e;
  behind = get_or-set_same new (n + length all.after_handlers.items) None None within;
}
  where
    kept : (other : ℕ) → n + length all.after_handlers.items ≢ other → due_at (set new (n + length all.after_handlers.items) None) other ≡ due_at new other
    kept other ne = get_or-set_other new (n + length all.after_handlers.items) other None None (λ q. ne (sym q))

    listed : (place : ℕ) → became_true all.at_arrival.items all.after_handlers.items place ≡ true → (is_listed places place ≡ true) ⊎ (is_listed places place ≡ false) → is_listed places place ≡ true
    listed place e (inl there) = there
    listed place e (inr none) =
        let both : true ≡ false = sym e ∙ not_risen (flag_at all.at_arrival.items place) (flag_at all.after_handlers.items place) (alike place none) in absurd (cc)
