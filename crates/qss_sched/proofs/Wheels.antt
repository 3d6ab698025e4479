-- A due tick is added to a wheel, and the first due tick of a wheel.
use Rattle.qss_sched.proofs.Common
use Common.{ℕ, ◌%◌, ◌+◌, ◌-◌, ◌<◌, ◌∙◌, ◌≡◌, ◌≢◌, ◌≤◌, ◌⊎◌, ap, AreOthersKept, AreTicks, arith}
use Common.{cases_eq, cases_lt, due_at, get_or-set_other, get_or-set_same, HasNone, HasNoneAt}
use Common.{HasNoPlace, inl, inr, IsEarliest, IsFirstPlace, IsLeast, IsWheel, length, List, None}
use Common.{Option, place_bit, refl, slice_set, Some, sym}
use Rattle.qss_sched.specs.Wheels.{HasNoPlaceAt}
use Rattle.qss_sched.proofs.Least.{has_place}

pub came_in : (due new_due : List (Option ℕ)) (places new_places : List ℕ) (base place tick : ℕ) →
    IsWheel due places base → place < length due → place < 4096 → base ≤ tick → tick < base + 64 → due_at due place ≡ None → new_due ≡ slice_set due place (Some tick) → AreTicks new_due →
    place_bit new_places (tick % 64) place ≡ 1 →
    AreOthersKept places new_places (tick % 64) place →
    IsWheel new_due new_places base
came_in due new_due places new_places base place tick a inside few from until none put small there others = record {
  small = small;
  near = λ p t e.
      elim (cases_eq p place) [
        | inl same ↦ let is = own p t same e in (omega (arith, is), omega (arith, is), omega (arith, same))
        | inr apart ↦ a.near p t (old p t apart e)
      ];
  held = λ p t e.
      elim (cases_eq p place) [
        | inl same ↦ ap (λ k. place_bit new_places (k % 64) p) (own p t same e) ∙ (ap (place_bit new_places (tick % 64)) same ∙ there)
        | inr apart ↦
            let o = old p t apart e in
            others (t % 64) p (omega arith) (a.near p t o).2 (λ same. absurd (apart same)) ∙ a.held p t o
      ];
  owed = λ s p hs hp bit.
      elim (cases_eq p place) [
        | inl same ↦ own_due s p hs hp same bit
        | inr apart ↦
            let d = a.owed s p hs hp (sym (others s p hs hp (λ same. absurd (apart same))) ∙ bit) in
            (d.0, (ap (λ l. due_at l p) put ∙ get_or-set_other due place p (Some tick) None apart) ∙ d.1, d.2)
      ];
}
  where
    new_due_is : due_at new_due place ≡ Some tick
    new_due_is = ap (λ l. due_at l place) put ∙ get_or-set_same due place (Some tick) None inside

    own : (p t : ℕ) → p ≡ place → due_at new_due p ≡ Some t → t ≡ tick
    own p t same e = let both : Some t ≡ Some tick = sym e ∙ (ap (due_at new_due) same ∙ new_due_is) in cc

    old : (p t : ℕ) → p ≢ place → due_at new_due p ≡ Some t → due_at due p ≡ Some t
    old p t apart e = sym (ap (λ l. due_at l p) put ∙ get_or-set_other due place p (Some tick) None apart) ∙ e

    own_due : (s p : ℕ) → s < 64 → p < 4096 → p ≡ place → place_bit new_places s p ≡ 1 → (t : ℕ) × (due_at new_due p ≡ Some t) × (t % 64 ≡ s)
    own_due s p hs hp same bit =
        elim (cases_eq s (tick % 64)) [
          | inl e ↦ (tick, ap (due_at new_due) same ∙ new_due_is, sym e)
          | inr n ↦
              let d = a.owed s p hs hp (sym (others s p hs hp (λ _. n)) ∙ bit) in
              let both : Some d.0 ≡ None = sym d.1 ∙ (ap (due_at due) same ∙ none) in
              absurd (cc)
        ]

-- a place leaves the slot of its due tick
pub went_out : (due new_due : List (Option ℕ)) (places new_places : List ℕ) (base place tick : ℕ) →
    IsWheel due places base → due_at due place ≡ Some tick → new_due ≡ slice_set due place None → AreTicks new_due →
    place_bit new_places (tick % 64) place ≡ 0 →
    AreOthersKept places new_places (tick % 64) place →
    IsWheel new_due new_places base
went_out due new_due places new_places base place tick a has put small gone others = record {
  small = small;
  near = λ p t e. let o = old p t e in a.near p t o.1;
  held = λ p t e. let o = old p t e in others (t % 64) p (omega arith) (a.near p t o.1).2 (λ same. absurd (o.0 same)) ∙ a.held p t o.1;
  owed = λ s p hs hp bit.
      elim (cases_eq p place) [
        | inl same ↦ absurd (none_left s p hs hp same bit)
        | inr apart ↦
            let d = a.owed s p hs hp (sym (others s p hs hp (λ same. absurd (apart same))) ∙ bit) in
            (d.0, (ap (λ l. due_at l p) put ∙ get_or-set_other due place p None None apart) ∙ d.1, d.2)
      ];
}
  where
    none : due_at new_due place ≡ None
    none = ap (λ l. due_at l place) put ∙ get_or-set_same due place None None (has_place due place tick has)

    old : (p t : ℕ) → due_at new_due p ≡ Some t → (p ≢ place) × (due_at due p ≡ Some t)
    old p t e =
        elim (cases_eq p place) [
          | inl same ↦ let no : due_at new_due p ≡ None = ap (due_at new_due) same ∙ none in absurd (cc)
          | inr apart ↦ (apart, sym (ap (λ l. due_at l p) put ∙ get_or-set_other due place p None None apart) ∙ e)
        ]

    none_left : (s p : ℕ) → s < 64 → p < 4096 → p ≡ place → place_bit new_places s p ≡ 1 → ⊥
    none_left s p hs hp same bit =
        elim (cases_eq s (tick % 64)) [
          | inl e ↦
              let zero : place_bit new_places s p ≡ 0 = ap (λ k. place_bit new_places k p) e ∙ (ap (place_bit new_places (tick % 64)) same ∙ gone) in
              omega (arith, zero, bit)
          | inr n ↦
              let d = a.owed s p hs hp (sym (others s p hs hp (λ _. n)) ∙ bit) in
              let both : Some d.0 ≡ Some tick = sym d.1 ∙ (ap (due_at due) same ∙ has) in
              let ticks : d.0 ≡ tick = cc in
              n (sym d.2 ∙ ap (λ t. t % 64) ticks)
        ]

-- the first place at the slot of the base is the first that is due then
pub due_at_base : (due : List (Option ℕ)) (places : List ℕ) (base place : ℕ) → IsWheel due places base → IsFirstPlace places (base % 64) place → IsLeast due base place
due_at_base due places base place a f = record {
  has =
      let d = a.owed (base % 64) place (omega arith) f.within f.there in
      let n = a.near place d.0 d.1 in
      let same : d.0 ≡ base = omega (arith, n.0, n.1, d.2) in
      d.1 ∙ ap Some same;
  least = λ other later e. (a.near other later e).0;
  first = λ other e. f.first other (a.near other base e).2 (a.held other base e);
}

-- where no place is at the slot of the base none is due then
pub none_at_base : (due : List (Option ℕ)) (places : List ℕ) (base n : ℕ) → IsWheel due places base → HasNoPlaceAt places (base % 64) → HasNoneAt due base n
none_at_base due places base n a none place h e = omega (arith, none place (a.near place base e).2, a.held place base e)

-- no place before the first one at the slot of the base is due then
pub none_before_place : (due : List (Option ℕ)) (places : List ℕ) (base place n : ℕ) → IsWheel due places base → IsFirstPlace places (base % 64) place → n ≤ place → HasNoneAt due base n
none_before_place due places base place n a f past other h e = omega (arith, f.first other (a.near other base e).2 (a.held other base e), past, h)

-- where no place is at a slot nothing is due
pub none_due : (due : List (Option ℕ)) (places : List ℕ) (base : ℕ) → IsWheel due places base → HasNoPlace places → HasNone due
none_due due places base a none place = by_due (due_at due place) refl
  where
    by_due : (d : Option ℕ) → due_at due place ≡ d → due_at due place ≡ None
    by_due None e = e
    by_due (Some tick) e =
        let no = none (tick % 64) place (omega arith) (a.near place tick e).2 in
        absurd (omega (arith, a.held place tick e, no))

-- the least place at the next nonempty slot is the first
pub first_due : (due : List (Option ℕ)) (places : List ℕ) (base later place : ℕ) → IsWheel due places base → IsEarliest places (base % 64) later place → IsLeast due (base + later) place
first_due due places base later place a f = record {
  has = own;
  least = λ other t g. by_order other t g (cases_lt (t - base) later);
  first = λ other g. f.is_first.first other (a.near other (base + later) g).2 (ap (λ s. place_bit places s other) same ∙ a.held other (base + later) g);
}
  where
    same : (base % 64 + later) % 64 ≡ (base + later) % 64
    same = omega arith

    own : due_at due place ≡ Some (base + later)
    own =
        let d = a.owed ((base % 64 + later) % 64) place (omega arith) f.is_first.within f.is_first.there in
        let n = a.near place d.0 d.1 in
        let is : d.0 ≡ base + later = omega (arith, n.0, n.1, f.within, d.2) in
        d.1 ∙ ap Some is

    by_order : (other t : ℕ) → due_at due other ≡ Some t → (t - base < later) ⊎ (later ≤ t - base) → base + later ≤ t
    by_order other t g (inl early) =
        let n = a.near other t g in
        let slot_is : (base % 64 + (t - base)) % 64 ≡ t % 64 = omega (arith, n.0) in
        let none = f.none (t - base) other early n.2 in
        absurd (omega (arith, ap (λ s. place_bit places s other) slot_is, none, a.held other t g))
    by_order other t g (inr late) = let n = a.near other t g in omega (arith, n.0, late)
