-- Numbers that arrive one after another.
use Rattle.qss_run.proofs.Common
use Common.{ℕ, ℤ, ◌+◌, ◌<◌, ◌==◌, ◌||◌, ◌∙◌, ◌≡◌, ◌≤◌, ap, AreArrived, arith, Bool, cases_Bool}
use Common.{FitsSigned, get_or, get_or-set_other, get_or-set_same, get_or_default, get_or_past, inl}
use Common.{inr, int_at, int_at-states_at, IsWithin, length, length-set, Line, List, list_any}
use Common.{list_any_more, of_z, or_cases, or_parts, pos, refl, set, state_at, states_at, subst}
use Common.{sym, take, to_z, to_z-of_z, w128}
use Rattle.mu_num.proofs.Tests.{eqb-true, eqb-false}
use Rattle.std.specs.List.{All}
use Rattle.qss_events.specs.Schedules.{no_line}

-- some arrive, then others
pub arrived_then : (first then both : ℕ → Bool) (states old mid new : List ℤ) → ((j : ℕ) → both j ≡ (first j || then j)) →
    AreArrived first states old mid → AreArrived then states mid new → AreArrived both states old new
arrived_then first then both states old mid new are a b = record {
  as_many = b.as_many ∙ a.as_many;
  own = λ j e. elim (cases_Bool (then j)) [
    | inl later ↦ b.own j later
    | inr not ↦ elim (or_cases (first j) (then j) (sym (are j) ∙ e)) [ inl sooner ↦ b.others j not ∙ a.own j sooner | inr later ↦ absurd (cc) ]
  ];
  others = λ j e. let parts = or_parts (first j) (then j) (sym (are j) ∙ e) in b.others j parts.1 ∙ a.others j parts.0;
}

-- one arrives
pub arrived_one : (var : ℕ) (states xs : List ℤ) (z : ℤ) → var < length xs → z ≡ int_at states var → AreArrived (λ j. var == j) states xs (set xs var z)
arrived_one var states xs z inside is = record {
  as_many = length-set xs var z;
  own = λ j e. subst (λ k. int_at (set xs var z) k ≡ int_at states k) (eqb-true var j e) (get_or-set_same xs var z (pos 0) inside ∙ is);
  others = λ j e. get_or-set_other xs var j z (pos 0) (λ same. eqb-false var j e (sym same));
}

-- a state arrives along its line
pub arrived_along : (lines : List Line) (tick var : ℕ) (line : Line) (xs : List ℤ) (z : ℤ) → var < length lines → length xs ≡ length lines → line ≡ get_or lines var line → FitsSigned w128 z →
    z ≡ state_at line tick → AreArrived (λ j. var == j) (states_at lines tick) xs (set xs var (to_z w128 (of_z w128 z)))
arrived_along lines tick var line xs z inside as_many own fits is =
    arrived_one var (states_at lines tick) xs (to_z w128 (of_z w128 z)) (omega (arith, inside, as_many))
    (to_z-of_z w128 z fits ∙ is ∙ ap (λ (l : Line). state_at l tick) (own ∙ get_or_default lines var line no_line inside) ∙ sym (int_at-states_at lines tick var inside))

-- past the end there is none
pub arrived_past : (var : ℕ) (states xs : List ℤ) → length states ≤ var → length xs ≤ var → AreArrived (λ j. var == j) states xs xs
arrived_past var states xs past here = record {
  as_many = refl;
  own = λ j e. subst (λ k. int_at xs k ≡ int_at states k) (eqb-true var j e) (get_or_past xs var (pos 0) here ∙ sym (get_or_past states var (pos 0) past));
  others = λ j e. refl;
}

-- what one more element of a list needs arrives
pub arrived_more : {X : Type 0} (needs : ℕ → X → Bool) (xs : List X) (states old : List ℤ) (i : ℕ) (d : X) (mid new : List ℤ) → i < length xs →
    AreArrived (λ j. list_any (needs j) (take i xs)) states old mid → AreArrived (λ j. needs j (get_or xs i d)) states mid new → AreArrived (λ j. list_any (needs j) (take (i + 1) xs)) states old new
arrived_more needs xs states old i d mid new h before here =
    arrived_then (λ j. list_any (needs j) (take i xs)) (λ j. needs j (get_or xs i d)) (λ j. list_any (needs j) (take (i + 1) xs)) states old mid new
    (λ j. list_any_more (needs j) xs i d h) before here

-- small numbers that arrive among small ones
pub arrived_small : (bits : ℕ) (arrives : ℕ → Bool) (states old new : List ℤ) → length old ≡ length states → All (IsWithin bits) states → All (IsWithin bits) old → AreArrived arrives states old new → All (IsWithin bits) new
arrived_small bits arrives states old new many small_states small_old at_arrival j d h =
    let inside : j < length old = omega (arith, h, at_arrival.as_many) in
    subst (IsWithin bits) (get_or_default new j (pos 0) d h) (elim (cases_Bool (arrives j)) [
      | inl own ↦ subst (IsWithin bits) (sym (at_arrival.own j own)) (small_states j (pos 0) (omega (arith, inside, many)))
      | inr not ↦ subst (IsWithin bits) (sym (at_arrival.others j not)) (small_old j (pos 0) inside)
    ])
