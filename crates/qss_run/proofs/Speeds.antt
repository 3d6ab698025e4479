-- Detectors that go on at new speeds.
use Rattle.qss_run.proofs.Common
use Common.{[], ℕ, ℤ, ◌&&◌, ◌*ℤ◌, ◌++◌, ◌+ℤ◌, ◌+◌, ◌-◌, ◌<◌, ◌==◌, ◌^◌, ◌∙◌, ◌∷◌, ◌≡◌, ◌≢◌, ◌≤◌}
use Common.{All, All-cons, All-nil, Any-from_list_any, ap, AreSlopesBefore, AreSpeedsUpdated, arith}
use Common.{Bool, cases_Bool, cases_eq, cases_lt, compares, Condition, condition_at}
use Common.{condition_reads, conditions, detector_at, DetectorView, due_at, Entry, eqb-yes, false}
use Common.{FirstAfter, flat_map, Form, get_or, get_or-set_other, get_or-set_same, get_or_past}
use Common.{GoesOn, HasSpeed, holds_at, if◌then◌else◌, inl, inr, int_at, ints, IsChange}
use Common.{IsDetectorAt, length, length-set, Less, List, list_any, list_any_at, Machine, nat_tests}
use Common.{no_detector, no_row, Option, pos, readers_of, reading_conditions, reading_rows}
use Common.{reads_moved, refl, row_at, row_reads, set, speed_of, state_count, subst, suc, sum_over}
use Common.{sym, true, truth, value_at, weighted_sum-entries, zero, zero-*ℤ}
use Rattle.std.specs.Prelude.{nat_lt}
use Rattle.std.proofs.lemmas.Bool.{lt-ltb}
use Rattle.std.proofs.lemmas.List.Elements.{All-head, All-tail}
use Rattle.qss_machine.specs.Readers.{places_from}

-- ---- places of elements that pass a test

if_kept : (P : ℕ → Type 0) (b : Bool) (first : ℕ) (rest : List ℕ) → All P (if b then first ∷ rest else rest) → (b ≡ true → P first) × All P rest
if_kept P true first rest all = ((λ e. All-head P first rest all), All-tail P first rest all)
if_kept P false first rest all = ((λ e. absurd (cc)), all)

-- what holds of all these places holds of the place of an element that passes
of_place : {X : Type 0} (P : ℕ → Type 0) (test : X → Bool) (first : ℕ) (xs : List X) (i : ℕ) (d : X) → All P (places_from test first xs) → i < length xs → test (get_or xs i d) ≡ true →
    P (first + i)
of_place P test first [] i d all h e = absurd (omega (arith, h))
of_place P test first (x ∷ xs) zero d all h e =
    let same : first ≡ first + 0 = omega arith in subst P same ((if_kept P (test x) first (places_from test (first + 1) xs) all).0 e)
of_place P test first (x ∷ xs) (suc i) d all h e =
    let same : (first + 1) + i ≡ first + suc i = omega arith in
    subst P same (of_place P test (first + 1) xs i d ((if_kept P (test x) first (places_from test (first + 1) xs) all).1) (omega (arith, h)) e)

-- what holds of all elements of lists one after another holds of those of each
two_parts : (P : ℕ → Type 0) (xs ys : List ℕ) → All P (xs ++ ys) → All P xs × All P ys
two_parts P [] ys all = (All-nil P, all)
two_parts P (x ∷ xs) ys all =
    let rest = two_parts P xs ys (All-tail P x (xs ++ ys) all) in (All-cons P x xs (All-head P x (xs ++ ys) all) rest.0, rest.1)

each_part : (P : ℕ → Type 0) (f : ℕ → List ℕ) (xs : List ℕ) → All P (flat_map f xs) → All (λ x. All P (f x)) xs
each_part P f [] all = All-nil (λ x. All P (f x))
each_part P f (x ∷ xs) all = let parts = two_parts P (f x) (flat_map f xs) all in All-cons (λ y. All P (f y)) x xs parts.0 (each_part P f xs parts.1)

-- a detector that has the speed keeps it
pub kept_speed : {tick : ℕ} {speed : ℤ} {old new : DetectorView} {old_due new_due : Option ℕ} → GoesOn tick speed old new old_due new_due → old.speed ≡ speed → new.speed ≡ speed
kept_speed on e = ap (λ (w : DetectorView). w.speed) (on.kept e).0 ∙ e

-- as does each of all that go on
pub has_speed_still : (m : Machine) (tick : ℕ) (slopes : List ℤ) (old new : List DetectorView) (due next : List (Option ℕ)) → AreSpeedsUpdated m tick slopes old new due next → (place : ℕ) → HasSpeed m slopes old place →
    HasSpeed m slopes new place
has_speed_still m tick slopes old new due next going place has =
    elim (cases_lt place (length old)) [
      | inl inside ↦ kept_speed (going.each place inside) has
      | inr past ↦ ap (λ (w : DetectorView). w.speed) (get_or_past new place no_detector (omega (arith, past, going.as_many)) ∙ sym (get_or_past old place no_detector past)) ∙ has
    ]

-- ---- detectors that go on

-- a detector that is left as it is
pub goes_on_same : (tick : ℕ) (speed : ℤ) (detector : DetectorView) (due : Option ℕ) → detector.tick ≤ tick → GoesOn tick speed detector detector due due
goes_on_same tick speed detector due h = record { not_later = h; here = refl; same_rel = refl; kept = λ e. (refl, refl); is_change = λ change. change }

-- a detector that is at its value at the tick, with another speed
pub goes_on_turned : (tick : ℕ) (speed : ℤ) (old new : DetectorView) (old_due found : Option ℕ) → old.speed ≢ speed → new ≡ record { rel = old.rel; tick = tick; value = value_at old tick; speed = speed } →
    FirstAfter (λ t. holds_at new t ≢ compares new.rel new.value) new.tick found → GoesOn tick speed old new old_due found
goes_on_turned tick speed old new old_due found other is first =
    let e : tick - tick ≡ 0 = omega arith in
    let own_tick : new.tick ≡ tick = ap (λ (w : DetectorView). w.tick) is in
    let held : compares new.rel new.value ≡ holds_at old tick = ap (λ (w : DetectorView). compares w.rel w.value) is in
    record {
      not_later = omega (arith, own_tick);
      here = ap (λ (w : DetectorView). value_at w tick) is ∙ ap (λ (n : ℕ). value_at old tick +ℤ pos n *ℤ speed) e ∙ omega (arith, ints, zero-*ℤ speed);
      same_rel = ap (λ (w : DetectorView). w.rel) is;
      kept = λ same. absurd (other same);
      is_change = λ change.
          subst (λ t. FirstAfter (λ n. holds_at new n ≢ holds_at old tick) t found) own_tick
          (subst (λ b. FirstAfter (λ n. holds_at new n ≢ b) new.tick found) held first);
    }

goes_on_more : (tick : ℕ) (speed : ℤ) (a b c : DetectorView) (p q r : Option ℕ) → GoesOn tick speed a b p q → GoesOn tick speed b c q r → GoesOn tick speed a c p r
goes_on_more tick speed a b c p q r first second =
    let same : holds_at b tick ≡ holds_at a tick = ap (λ rel. compares rel (value_at b tick)) first.same_rel ∙ ap (compares a.rel) first.here in
    record {
      not_later = second.not_later;
      here = second.here ∙ first.here;
      same_rel = second.same_rel ∙ first.same_rel;
      kept = λ e.
          let left = first.kept e in
          let still = second.kept (ap (λ (w : DetectorView). w.speed) left.0 ∙ e) in
          (still.0 ∙ left.0, still.1 ∙ left.1);
      is_change = λ change.
          subst (λ s. IsChange tick s c r) same (second.is_change (subst (λ s. IsChange tick s b q) (sym same) (first.is_change change)));
    }

-- ---- all detectors

pub going_on_more : (m : Machine) (tick : ℕ) (slopes : List ℤ) (a b c : List DetectorView) (p q r : List (Option ℕ)) → AreSpeedsUpdated m tick slopes a b p q → AreSpeedsUpdated m tick slopes b c q r →
    AreSpeedsUpdated m tick slopes a c p r
going_on_more m tick slopes a b c p q r first second = record {
  as_many = second.as_many ∙ first.as_many;
  places = second.places ∙ first.places;
  each = λ place h. goes_on_more tick _ _ _ _ _ _ _ (first.each place h) (second.each place (omega (arith, h, first.as_many)));
  others = λ place h. second.others place h ∙ first.others place h;
  beyond = λ place h. second.beyond place (omega (arith, h, first.as_many)) ∙ first.beyond place h;
}

-- one detector goes on, the others are left
module _ (m : Machine) (tick : ℕ) (slopes : List ℤ) (detectors : List DetectorView) (due next : List (Option ℕ)) (j : ℕ) (detector : DetectorView) (h : j < length detectors)
    (later : (place : ℕ) → place < length detectors → (detector_at detectors place).tick ≤ tick) (many : length next ≡ length due)
    (others : (place : ℕ) → (place ≡ state_count m + j → ⊥) → due_at next place ≡ due_at due place)
    (here : GoesOn tick (speed_of m (condition_at m j).form slopes) (detector_at detectors j) detector (due_at due (state_count m + j)) (due_at next (state_count m + j))) where
  abbrev Goes : ℕ → DetectorView → Option ℕ → Type 0
  Goes place new found = GoesOn tick (speed_of m (condition_at m place).form slopes) (detector_at detectors place) new (due_at due (state_count m + place)) found

  own : (place : ℕ) → place ≡ j → Goes place (detector_at (set detectors j detector) place) (due_at next (state_count m + place))
  own place e =
      subst (λ k. Goes k (detector_at (set detectors j detector) k) (due_at next (state_count m + k))) (sym e)
      (subst (λ w. Goes j w (due_at next (state_count m + j))) (sym (get_or-set_same detectors j detector no_detector h)) here)

  other : (place : ℕ) → (place ≡ j → ⊥) → place < length detectors → Goes place (detector_at (set detectors j detector) place) (due_at next (state_count m + place))
  other place ne inside =
      let far : state_count m + place ≡ state_count m + j → ⊥ = λ e. ne (omega (arith, e)) in
      subst (λ w. Goes place w (due_at next (state_count m + place))) (sym (get_or-set_other detectors j place detector no_detector ne))
      (subst (Goes place (detector_at detectors place)) (sym (others (state_count m + place) far))
      (goes_on_same tick (speed_of m (condition_at m place).form slopes) (detector_at detectors place) (due_at due (state_count m + place)) (later place inside)))

  pub going_on_at : AreSpeedsUpdated m tick slopes detectors (set detectors j detector) due next
  going_on_at = record {
    as_many = length-set detectors j detector;
    places = many;
    each = λ place inside. elim (cases_eq place j) [ inl e ↦ own place e | inr ne ↦ other place ne inside ];
    others = λ place below. others place (λ e. absurd (omega (arith, below, e)));
    beyond = λ place above. others place (λ e. absurd (omega (arith, above, e, h)));
  }

-- ---- what keeps its speed

both_true : (a b : Bool) → (a && b) ≡ true → (a ≡ true) × (b ≡ true)
both_true true b e = (refl, e)
both_true false b e = absurd (cc)

second_false : (a b : Bool) → a ≡ true → (a && b) ≡ false → b ≡ false
second_false true b first e = e
second_false false b first e = absurd (cc)

sums_same : (entries : List Entry) (a b : List ℤ) → ((k : ℕ) (d : Entry) → k < length entries → int_at a (get_or entries k d).var ≡ int_at b (get_or entries k d).var) →
    sum_over (λ entry. entry.coef *ℤ int_at a entry.var) entries ≡ sum_over (λ entry. entry.coef *ℤ int_at b entry.var) entries
sums_same [] a b same = refl
sums_same (entry ∷ entries) a b same =
    let here : entry.coef *ℤ int_at a entry.var ≡ entry.coef *ℤ int_at b entry.var = ap (λ z. entry.coef *ℤ z) (same 0 entry (omega arith)) in
    omega (arith, ints, here, sums_same entries a b (λ k d h. same (suc k) d (omega (arith, h))))

-- a form of whose states none changed its slope keeps its speed
pub speeds_same : (m : Machine) (form : Form) (a b : List ℤ) →
    ((k : ℕ) (d : Entry) → k < length form.entries → int_at a (get_or form.entries k d).var ≡ int_at b (get_or form.entries k d).var) → speed_of m form a ≡ speed_of m form b
speeds_same m form a b same =
    ap (λ z. z +ℤ form.time *ℤ pos (2 ^ (m.f + m.p))) (weighted_sum-entries form.entries a ∙ sums_same form.entries a b same ∙ sym (weighted_sum-entries form.entries b))

module _ (m : Machine) (tick : ℕ) (slopes : List ℤ) (moved : List ℕ) (old new : List DetectorView) (due next : List (Option ℕ)) (going : AreSpeedsUpdated m tick slopes old new due next)
    (many : length slopes ≡ state_count m) (all : length old ≡ length (conditions m))
    (speeds : All (HasSpeed m slopes new) (flat_map (λ j. readers_of m (reading_rows m j)) moved)) where
  -- whether a state's slope may have changed
  abbrev touches : Entry → Bool
  touches entry = nat_lt entry.var (state_count m) && reads_moved m moved entry.var

  -- a condition that reads such a state has its speed
  touched : (place : ℕ) → place < length (conditions m) → list_any touches (condition_at m place).form.entries ≡ true → HasSpeed m slopes new place
  touched place h e =
      let entries : List Entry = (condition_at m place).form.entries in
      let found = Any-from_list_any touches entries e in
      let entry : Entry = found.1 in
      let state : ℕ = entry.var in
      let parts = both_true (nat_lt state (state_count m)) (reads_moved m moved state) found.4 in
      let inside : state < state_count m = below state (state_count m) parts.0 in
      let mover = Any-from_list_any (λ i. row_reads i (row_at m state)) moved parts.1 in
      let j : ℕ = mover.1 in
      let Reads : ℕ → Type 0 = λ s. All (HasSpeed m slopes new) (reading_conditions m s) in
      let of_mover : All (HasSpeed m slopes new) (readers_of m (reading_rows m j)) = subst (λ i. All (HasSpeed m slopes new) (readers_of m (reading_rows m i))) mover.3 (each_part (HasSpeed m slopes new) (λ i. readers_of m (reading_rows m i)) moved speeds mover.0 j mover.2) in
      let of_rows : All Reads (reading_rows m j) = each_part (HasSpeed m slopes new) (reading_conditions m) (reading_rows m j) of_mover in
      let none : Condition = record { form = record { entries = []; time = pos 0; gamma = pos 0 }; rel = Less } in
      let of_state : Reads (0 + state) = of_place Reads (row_reads j) 0 m.rows state no_row of_rows (omega (arith, inside, m.has_rows.one_each)) mover.4 in
      let here : 0 + state ≡ state = omega arith in
      let of_conditions : All (HasSpeed m slopes new) (reading_conditions m state) = subst Reads here of_state in
      let reads : condition_reads state (condition_at m place) ≡ true = list_any_at (λ (other : Entry). other.var == state) entries found.0 entry found.2 (eqb-yes _ state (ap (λ (other : Entry). other.var) found.3)) in
      let there : 0 + place ≡ place = omega arith in
      subst (HasSpeed m slopes new) there (of_place (HasSpeed m slopes new) (condition_reads state) 0 (conditions m) place none of_conditions h reads)
    where
      below : (a b : ℕ) → nat_lt a b ≡ true → a < b
      below a b less = grind (arith, nat_tests)

  -- another one keeps it
  untouched : (before : List ℤ) (place : ℕ) → place < length (conditions m) → AreSlopesBefore m moved before slopes place →
      (detector_at old place).speed ≡ speed_of m (condition_at m place).form before → list_any touches (condition_at m place).form.entries ≡ false → HasSpeed m slopes new place
  untouched before place h was own e =
      kept_speed (going.each place (omega (arith, h, all))) (own ∙ speeds_same m (condition_at m place).form before slopes same)
    where
      no_touch : (k : ℕ) (d : Entry) → k < length (condition_at m place).form.entries → touches (get_or (condition_at m place).form.entries k d) ≡ false
      no_touch k d inside =
          elim (cases_Bool (touches (get_or (condition_at m place).form.entries k d))) [
            | inl here ↦ (let some = list_any_at touches (condition_at m place).form.entries k d inside here in absurd (cc))
            | inr none ↦ none
          ]

      same : (k : ℕ) (d : Entry) → k < length (condition_at m place).form.entries →
          int_at before (get_or (condition_at m place).form.entries k d).var ≡ int_at slopes (get_or (condition_at m place).form.entries k d).var
      same k d inside =
          let state : ℕ = (get_or (condition_at m place).form.entries k d).var in
          elim (cases_lt state (state_count m)) [
            | inl below ↦
                let reads : condition_reads state (condition_at m place) ≡ true = list_any_at (λ (entry : Entry). entry.var == state) (condition_at m place).form.entries k d inside (eqb-yes state state refl) in
                sym (was.others state below reads (second_false (nat_lt state (state_count m)) (reads_moved m moved state) (lt-ltb state (state_count m) below) (no_touch k d inside)))
            | inr past ↦ get_or_past before state (pos 0) (omega (arith, past, was.as_many)) ∙ sym (get_or_past slopes state (pos 0) (omega (arith, past, many)))
          ]

  -- a valid detector is valid again
  pub watched_again : (x d before : List ℤ) (place : ℕ) → place < length (conditions m) → AreSlopesBefore m moved before slopes place →
      IsDetectorAt m tick x d before place (detector_at old place) (due_at due (state_count m + place)) → IsDetectorAt m tick x d slopes place (detector_at new place) (due_at next (state_count m + place))
  watched_again x d before place h was first =
      let on = going.each place (omega (arith, h, all)) in
      let held : holds_at (detector_at old place) tick ≡ truth m (condition_at m place) x d tick = ap (λ rel. compares rel (value_at (detector_at old place) tick)) first.own_rel ∙ ap (compares (condition_at m place).rel) first.here in
      record {
        not_later = on.not_later;
        here = on.here ∙ first.here;
        own_speed = elim (cases_Bool (list_any touches (condition_at m place).form.entries)) [ inl some ↦ touched place h some | inr none ↦ untouched before place h was first.own_speed none ];
        own_rel = on.same_rel ∙ first.own_rel;
        is_change = subst (λ s. IsChange tick s (detector_at new place) (due_at next (state_count m + place))) held
            (on.is_change (subst (λ s. IsChange tick s (detector_at old place) (due_at due (state_count m + place))) (sym held) first.is_change));
      }
