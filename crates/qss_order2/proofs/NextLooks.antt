-- The least due tick.
use Rattle.qss_order2.proofs.Common
use Common.{ℕ, ◌+◌, ◌-◌, ◌<◌, ◌==◌, ◌∙◌, ◌≡◌, ◌≤◌, ap, arith, Bool, cases_eq, cases_lt, due_at}
use Common.{eqb-no, eqb-yes, false, HasDues, inl, inr, is_due, IsDue2, length, List, Machine, None}
use Common.{Option, refl, SecondSnapshot, Some, state_count, subst, sym, true, until}
use Rattle.std.proofs.lemmas.List.{get_or_past}

-- two ticks are equal if and only if they are equal after t is subtracted from both
same_test : (a b t : ℕ) → t < a → t < b → (a == b) ≡ (a - t == b - t)
same_test a b t h k = elim (cases_eq a b) [
  | inl e ↦ eqb-yes a b e ∙ sym (eqb-yes (a - t) (b - t) (omega (arith, e)))
  | inr ne ↦ eqb-no a b ne ∙ sym (eqb-no (a - t) (b - t) (λ e. ne (omega (arith, e, h, k))))
]

-- a due tick that is at least a tick is so from an earlier one on
pub until_least : (tick next d : ℕ) (due : Option ℕ) → until tick due ≡ Some d →
    ((t : ℕ) → due ≡ Some t → next ≤ t) → next - tick ≤ d
until_least tick next d None e least = absurd (cc)
until_least tick next d (Some t) e least = let same : t - tick ≡ d =
    cc in omega (arith, same, least t refl)

module _ (m : Machine) (tick window : ℕ) (w : SecondSnapshot) (dues : List (Option ℕ))
    (has : HasDues m tick window w dues) where
  due_later : (j t : ℕ) → j < state_count m → due_at dues j ≡ Some t → tick < t
  due_later j t h e = let first = subst (λ o. IsDue2 m w (window - tick) j (until tick o)) e
      (has.each j h) in omega (arith, first.later)

  pub next_later : (next : ℕ) → (next < window → (j : ℕ) × (j < state_count m) ×
      (due_at dues j ≡ Some next)) → tick < next
  next_later next reached = elim (cases_lt next window) [
    | inl low ↦ (let found = reached low in due_later found.0 next found.1 found.2)
    | inr high ↦ omega (arith, high, has.is_window.some)
  ]

  pub same_due : (j next : ℕ) → j < state_count m → tick < next →
      is_due (due_at dues j) next ≡ is_due (until tick (due_at dues j)) (next - tick)
  same_due j next h later = by_due (due_at dues j) refl
    where
      by_due : (due : Option ℕ) → due_at dues j ≡ due → is_due due next ≡ is_due (until tick due)
          (next - tick)
      by_due None e = refl
      by_due (Some t) e = same_test t next tick (due_later j t h e) later

-- a place with a due tick is one of the list
pub due_inside : (dues : List (Option ℕ)) (j t : ℕ) → due_at dues j ≡ Some t → j < length dues
due_inside dues j t e = elim (cases_lt j (length dues)) [
  | inl low ↦ low
  | inr high ↦ (let none : due_at dues j ≡ None = get_or_past dues j None high in absurd (cc))
]

-- places that are counted from the first one on
pub from_first : (dues : List (Option ℕ)) (j : ℕ) → due_at dues (0 + j) ≡ due_at dues j
from_first dues j = let e : 0 + j ≡ j = omega arith in ap (due_at dues) e

-- what stands in a list where it is due
pub listed_is_due : (next : ℕ) (due : Option ℕ) (listed : Bool) → (listed ≡ true → due ≡ Some next)
    → (due ≡ Some next → listed ≡ true) → listed ≡ is_due due next
listed_is_due next due true own all = sym (ap (λ (o : Option ℕ). is_due o next) (own refl)
    ∙ eqb-yes next next refl)
listed_is_due next None false own all = refl
listed_is_due next (Some d) false own all = elim (cases_eq d next) [
  | inl e ↦ absurd (cc (all (ap (λ (n : ℕ). Some n) e)))
  | inr ne ↦ sym (eqb-no d next ne)
]
