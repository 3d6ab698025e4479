-- Conditions of which some settle at a tick, step by step.
use Rattle.qss_run.proofs.Common
use Common.{[], ℕ, ℤ, ◌++◌, ◌+◌, ◌<◌, ◌==◌, ◌∙◌, ◌∷◌, ◌≡◌, ap, AreSettled, arith, Bool, cases_Bool}
use Common.{compares, condition_at, detector_at, DetectorStates, DetectorView, due_at, eqb-yes}
use Common.{false, flag_at, get_or-map-range_with_len, get_or-set_other, get_or-set_same, inl, inr}
use Common.{is_listed, IsChange, IsDetectorAt, IsSettled, length, length-map-range_with_len}
use Common.{length-set, List, list_any-append, list_any_at, Machine, map-range_with_len_more}
use Common.{no_detector, None, Option, or_cases, or_left, or_parts, refl, set, speed_of}
use Common.{state_count, subst, sym, tabulate, true, truth, value_of}
use Rattle.mu_num.proofs.Tests.{eqb-true}
use Rattle.qss_run.specs.DetectorUpdates.{IsKept}

-- a condition that is as it was is settled as it was
pub still_settled : (m : Machine) (tick : ℕ) (x d slopes : List ℤ) (place : ℕ) (old new : DetectorStates) → IsKept m place old new → IsSettled m tick x d slopes place old →
    IsSettled m tick x d slopes place new
still_settled m tick x d slopes place old new kept after_handlers = record {
  watched = subst (λ (w : DetectorView). IsDetectorAt m tick x d slopes place w (due_at new.dues (state_count m + place))) (sym kept.detector)
      (subst (IsDetectorAt m tick x d slopes place (detector_at old.detectors place)) (sym kept.due) after_handlers.watched);
  own_truth = kept.truth ∙ after_handlers.own_truth;
}

module _ (m : Machine) (tick : ℕ) (x d slopes : List ℤ) where
  pub none_settled : (old : DetectorStates) → AreSettled m tick x d slopes [] old old
  none_settled old = record {
    own = λ place among. absurd (cc);
    kept = λ place none. record { detector = refl; truth = refl; due = refl };
    many_watches = refl;
    many_truths = refl;
    many_dues = refl;
    states = λ place h. refl;
    beyond = λ place h. refl;
  }

  -- and then more are settled
  pub settled_then : (xs ys : List ℕ) (a b c : DetectorStates) → AreSettled m tick x d slopes xs a b → AreSettled m tick x d slopes ys b c → AreSettled m tick x d slopes (xs ++ ys) a c
  settled_then xs ys a b c first second =
      let split = λ (place : ℕ). list_any-append (λ (i : ℕ). i == place) xs ys in
      record {
        own = λ place among. elim (cases_Bool (is_listed ys place)) [
          | inl after ↦ second.own place after
          | inr none ↦ elim (or_cases (is_listed xs place) (is_listed ys place) (sym (split place) ∙ among)) [
            | inl before ↦ still_settled m tick x d slopes place b c (second.kept place none) (first.own place before)
            | inr after ↦ second.own place after
          ]
        ];
        kept = λ place none.
            let parts = or_parts (is_listed xs place) (is_listed ys place) (sym (split place) ∙ none) in
            let before = first.kept place parts.0 in
            let after = second.kept place parts.1 in
            record { detector = after.detector ∙ before.detector; truth = after.truth ∙ before.truth; due = after.due ∙ before.due };
        many_watches = second.many_watches ∙ first.many_watches;
        many_truths = second.many_truths ∙ first.many_truths;
        many_dues = second.many_dues ∙ first.many_dues;
        states = λ place h. second.states place h ∙ first.states place h;
        beyond = λ place h. second.beyond place (omega (arith, h, first.many_watches)) ∙ first.beyond place h;
      }

  -- one condition is settled by a detector, its truth and a due tick
  pub one_settled : (j : ℕ) (old new : DetectorStates) (detector : DetectorView) (flag : Bool) (found : Option ℕ) → j < length old.detectors → j < length old.after_handlers → state_count m + j < length old.dues →
      new.detectors ≡ set old.detectors j detector → new.after_handlers ≡ set old.after_handlers j flag → new.dues ≡ set old.dues (state_count m + j) found →
      IsDetectorAt m tick x d slopes j detector found → flag ≡ truth m (condition_at m j) x d tick → AreSettled m tick x d slopes (j ∷ []) old new
  one_settled j old new detector flag found in_watches in_settled in_dues detectors after_handlers dues watched own =
      let n : ℕ = state_count m in
      let other_due = λ (k : ℕ) (ne : k ≡ n + j → ⊥). ap (λ due. due_at due k) dues ∙ get_or-set_other old.dues (n + j) k found None ne in
      let here : IsSettled m tick x d slopes j new =
      record {
        watched = subst (λ (w : DetectorView). IsDetectorAt m tick x d slopes j w (due_at new.dues (n + j))) (sym (ap (λ ws. detector_at ws j) detectors ∙ get_or-set_same old.detectors j detector no_detector in_watches))
            (subst (IsDetectorAt m tick x d slopes j detector) (sym (ap (λ due. due_at due (n + j)) dues ∙ get_or-set_same old.dues (n + j) found None in_dues)) watched);
        own_truth = ap (λ flags. flag_at flags j) after_handlers ∙ get_or-set_same old.after_handlers j flag false in_settled ∙ own;
      } in
      record {
        own = λ place among. elim (or_cases (j == place) false among) [
          | inl same ↦ subst (λ (k : ℕ). IsSettled m tick x d slopes k new) (eqb-true j place same) here
          | inr none ↦ absurd (cc)
        ];
        kept = λ place none.
            let parts = or_parts (j == place) false none in
            let ne : place ≡ j → ⊥ = λ e. (let same : (j == place) ≡ true = eqb-yes j place (sym e) in let other : (j == place) ≡ false = parts.0 in absurd (cc)) in
            let far : n + place ≡ n + j → ⊥ = λ e. ne (omega (arith, e)) in
            record {
              detector = ap (λ ws. detector_at ws place) detectors ∙ get_or-set_other old.detectors j place detector no_detector ne;
              truth = ap (λ flags. flag_at flags place) after_handlers ∙ get_or-set_other old.after_handlers j place flag false ne;
              due = other_due (n + place) far;
            };
        many_watches = ap length detectors ∙ length-set old.detectors j detector;
        many_truths = ap length after_handlers ∙ length-set old.after_handlers j flag;
        many_dues = ap length dues ∙ length-set old.dues (n + j) found;
        states = λ place h. other_due place (λ e. omega (arith, h, e));
        beyond = λ place h. other_due place (λ e. omega (arith, h, e, in_watches));
      }

-- all places below a number
abbrev pub all_below : ℕ → List ℕ
all_below n = tabulate n (λ place. place)

pub all_below-more : (n : ℕ) → all_below (n + 1) ≡ all_below n ++ n ∷ []
all_below-more n = map-range_with_len_more (λ place. place) 0 n n (omega arith)

pub among_below : (n place : ℕ) → place < n → is_listed (all_below n) place ≡ true
among_below n place h =
    list_any_at (λ (i : ℕ). i == place) (all_below n) place 0 (omega (arith, h, length-map-range_with_len (λ i. i) 0 n))
    (eqb-yes _ place (get_or-map-range_with_len (λ i. i) 0 n place place 0 h (omega arith)))

-- ---- conditions at other values and slopes

-- a detector at a value and a speed is valid at other values and slopes that give the same ones
pub watched_as : (m : Machine) (tick : ℕ) (x d slopes y e after : List ℤ) (place : ℕ) (detector : DetectorView) (due : Option ℕ) →
    value_of m (condition_at m place).form x d d tick ≡ value_of m (condition_at m place).form y e e tick →
    speed_of m (condition_at m place).form slopes ≡ speed_of m (condition_at m place).form after → IsDetectorAt m tick x d slopes place detector due → IsDetectorAt m tick y e after place detector due
watched_as m tick x d slopes y e after place detector due value speed watched = record {
  not_later = watched.not_later;
  here = watched.here ∙ value;
  own_speed = watched.own_speed ∙ speed;
  own_rel = watched.own_rel;
  is_change = subst (λ b. IsChange tick b detector due) (ap (compares (condition_at m place).rel) value) watched.is_change;
}

-- one condition is settled at values at which its form has the same value
pub settled_at : (m : Machine) (tick : ℕ) (x y d slopes : List ℤ) (j : ℕ) (old new : DetectorStates) →
    value_of m (condition_at m j).form x d d tick ≡ value_of m (condition_at m j).form y d d tick → AreSettled m tick x d slopes (j ∷ []) old new → AreSettled m tick y d slopes (j ∷ []) old new
settled_at m tick x y d slopes j old new value are =
    let after_handlers = are.own j (or_left (j == j) false (eqb-yes j j refl)) in
    let here : IsSettled m tick y d slopes j new =
    record {
      watched = watched_as m tick x d slopes y d slopes j (detector_at new.detectors j) (due_at new.dues (state_count m + j)) value refl after_handlers.watched;
      own_truth = after_handlers.own_truth ∙ ap (compares (condition_at m j).rel) value;
    } in
    record {
      own = λ place among. elim (or_cases (j == place) false among) [
        | inl same ↦ subst (λ (k : ℕ). IsSettled m tick y d slopes k new) (eqb-true j place same) here
        | inr none ↦ absurd (cc)
      ];
      kept = are.kept;
      many_watches = are.many_watches;
      many_truths = are.many_truths;
      many_dues = are.many_dues;
      states = are.states;
      beyond = are.beyond;
    }
