-- Conditions that are not after the handlers as on arrival, and the places at which they are.
use Rattle.qss_run.proofs.Common
use Common.{[], ℕ, ◌&&◌, ◌++◌, ◌<◌, ◌==◌, ◌||◌, ◌∙◌, ◌∷◌, ◌≡◌, ◌⊎◌, All, ap, AreAlikeBut, arith}
use Common.{Bool, cases_Bool, Conditions, differ, eqb-yes, false, flag_at, get_or-set_same, inl}
use Common.{inr, is_listed, IsWritten, length, List, list_any-append, ListsFlipped, Machine}
use Common.{or_cases, or_parts, PlaceList, readers_before, refl, same_lists, set, subst, sym}
use Common.{touched_after, touched_by, true}
use Rattle.mu_num.proofs.Tests.{eqb-true}
use Rattle.qss_run.specs.DetectorUpdates.{AreMarkedChanged}

-- flags that are alike but for some places are equal where those are written too
pub all_alike : (places : List ℕ) (after_handlers at_arrival new : List Bool) → length at_arrival ≡ length after_handlers → AreAlikeBut places at_arrival after_handlers →
    IsWritten false (λ place flag. flag ≡ flag_at after_handlers place) places at_arrival new → new ≡ after_handlers
all_alike places after_handlers at_arrival new many alike written = same_lists false new after_handlers (written.as_many ∙ many) (λ place h. by place (cases_Bool (is_listed places place)))
  where
    by : (place : ℕ) → (is_listed places place ≡ true) ⊎ (is_listed places place ≡ false) → flag_at new place ≡ flag_at after_handlers place
    by place (inl there) = written.each place there
    by place (inr none) = written.others place none ∙ alike place none

same_flag : (one other : Bool) → differ one other ≡ false → other ≡ one
same_flag true true e = refl
same_flag true false e = let both : true ≡ false = e in absurd (cc)
same_flag false true e = let both : true ≡ false = e in absurd (cc)
same_flag false false e = refl

-- if two flags differ, the place is added
pub comes_in : (there here other : Bool) → other ≡ true → (there || here) ≡ (there || (here && other))
comes_in true here other e = refl
comes_in false true other e = sym e
comes_in false false other e = refl

pub stays_out : (there here other : Bool) → other ≡ false → there ≡ (there || (here && other))
stays_out true here other e = refl
stays_out false true other e = sym e
stays_out false false other e = refl

-- one condition has another truth, and is apart if that is not the one on arrival
pub one_noted : (place : ℕ) (holds : Bool) (old new : Conditions) → place < length old.after_handlers.items → new.at_arrival.items ≡ old.at_arrival.items → new.after_handlers.items ≡ set old.after_handlers.items place holds →
    new.flipped.count ≡ old.flipped.count →
    ((other : ℕ) → is_listed new.flipped.places other ≡ (is_listed old.flipped.places other || (place == other && differ holds (flag_at old.at_arrival.items place)))) → AreMarkedChanged (place ∷ []) old new
one_noted place holds old new inside at_arrival after_handlers count places = record {
  count = count;
  own = λ other among out. elim (or_cases (place == other) false among) [
    | inl same ↦
        let e : place ≡ other = eqb-true place other same in
        subst (λ (k : ℕ). flag_at new.at_arrival.items k ≡ flag_at new.after_handlers.items k) e (here (subst (λ (k : ℕ). is_listed new.flipped.places k ≡ false) (sym e) out))
    | inr none ↦ absurd (cc)
  ];
  before = λ other out. (or_parts (is_listed old.flipped.places other) (place == other && differ holds (flag_at old.at_arrival.items place)) (sym (places other) ∙ out)).0;
}
  where
    here : is_listed new.flipped.places place ≡ false → flag_at new.at_arrival.items place ≡ flag_at new.after_handlers.items place
    here out =
        let other : Bool = differ holds (flag_at old.at_arrival.items place) in
        let both : (place == place && other) ≡ false = (or_parts (is_listed old.flipped.places place) (place == place && other) (sym (places place) ∙ out)).1 in
        let alike : other ≡ false = sym (ap (λ b. b && other) (eqb-yes place place refl)) ∙ both in
        ap (λ flags. flag_at flags place) at_arrival
        ∙ same_flag holds (flag_at old.at_arrival.items place) alike
        ∙ sym (ap (λ flags. flag_at flags place) after_handlers ∙ get_or-set_same old.after_handlers.items place holds false inside)

-- none is in the set of changed conditions
pub none_noted : (all : Conditions) → AreMarkedChanged [] all all
none_noted all = record { count = refl; own = λ place among out. absurd (cc); before = λ place out. out }

-- and then more are
pub noted_then : (xs ys : List ℕ) (a b c : Conditions) → AreMarkedChanged xs a b → AreMarkedChanged ys b c → c.at_arrival.items ≡ b.at_arrival.items →
    ((place : ℕ) → is_listed ys place ≡ false → flag_at c.after_handlers.items place ≡ flag_at b.after_handlers.items place) → AreMarkedChanged (xs ++ ys) a c
noted_then xs ys a b c first second at_arrival kept = record {
  count = second.count ∙ first.count;
  own = λ place among out. elim (cases_Bool (is_listed ys place)) [
    | inl after ↦ second.own place after out
    | inr none ↦ elim (or_cases (is_listed xs place) (is_listed ys place) (sym (list_any-append (λ (i : ℕ). i == place) xs ys) ∙ among)) [
      | inl before ↦ ap (λ flags. flag_at flags place) at_arrival ∙ first.own place before (second.before place out) ∙ sym (kept place none)
      | inr after ↦ second.own place after out
    ]
  ];
  before = λ place out. first.before place (second.before place out);
}

not_first : (xs ys : List ℕ) (place : ℕ) → is_listed (xs ++ ys) place ≡ false → is_listed xs place ≡ false
not_first xs ys place none = (or_parts (is_listed xs place) (is_listed ys place) (sym (list_any-append (λ (i : ℕ). i == place) xs ys) ∙ none)).0

-- after those that changed and those that read what changed have settled, only those in the set
-- differ from arrival
pub alike_then : (m : Machine) (reinitialized assigned changed : List ℕ) (old new : Conditions) → AreMarkedChanged (touched_after m reinitialized assigned changed) old new →
    ((place : ℕ) → is_listed (touched_after m reinitialized assigned changed) place ≡ false → flag_at new.after_handlers.items place ≡ flag_at old.after_handlers.items place) → new.at_arrival.items ≡ old.at_arrival.items →
    AreAlikeBut changed old.at_arrival.items old.after_handlers.items → AreAlikeBut new.flipped.places new.at_arrival.items new.after_handlers.items
alike_then m reinitialized assigned changed old new noted kept at_arrival alike place out =
    let touched : List ℕ = touched_after m reinitialized assigned changed in
    elim (cases_Bool (is_listed touched place)) [
      | inl there ↦ noted.own place there out
      | inr none ↦
          let first : List ℕ = changed ++ touched_by m reinitialized in
          let unchanged : is_listed changed place ≡ false = not_first changed (touched_by m reinitialized) place (not_first first (touched_by m assigned) place (not_first (first ++ touched_by m assigned) (readers_before m assigned) place none)) in
          ap (λ flags. flag_at flags place) at_arrival ∙ alike place unchanged ∙ sym (kept place none)
    ]

-- truths on arrival and after the handlers, as lists of the same length, that differ at most at
-- these indices
pub record AreApartAt (flipped : List ℕ) (at_arrival after_handlers : List Bool) : Type 0 where
  pub as_many : length at_arrival ≡ length after_handlers
  pub below : All (λ place. place < length after_handlers) flipped
  pub alike : AreAlikeBut flipped at_arrival after_handlers

-- only these conditions differ in their two truths, if they are those in `flipped`
pub apart_at : (all : Conditions) (places : List ℕ) → ListsFlipped all → places ≡ all.flipped.places → All (λ place. place < all.flipped.count) places →
    AreApartAt places all.at_arrival.items all.after_handlers.items
apart_at all places lists same below = record {
  as_many = lists.as_many;
  below = λ k d h. omega (arith, below k d h, lists.count);
  alike = λ place none. lists.alike place (subst (λ these. is_listed these place ≡ false) same none);
}

-- none is in an empty set, and the lengths are as before
pub lists_none : (old new : Conditions) → ListsFlipped old → new.at_arrival.items ≡ old.after_handlers.items → new.flipped ≡ record old.flipped { places = [] } →
    new ≡ record old { at_arrival = new.at_arrival; flipped = new.flipped } → ListsFlipped new
lists_none old new lists settled none rest =
    let same : new.at_arrival.items ≡ new.after_handlers.items = settled ∙ sym (ap (λ (all : Conditions). all.after_handlers.items) rest) in
    record {
      as_many = ap length same;
      count = ap (λ (s : PlaceList). s.count) none ∙ lists.count ∙ sym (ap (λ (all : Conditions). length all.after_handlers.items) rest);
      alike = λ place out. ap (λ flags. flag_at flags place) same;
    }
