-- What is to be evaluated at a tick, removed from an event queue: conditions that became true are
-- scheduled, then due states are removed, and then conditions.
use Rattle.qss_run.proofs.Common
use Common.{ℕ, ◌+◌, ◌-◌, ◌<◌, ◌∙◌, ◌≡◌, ◌≢◌, ◌≤◌, ◌⊎◌, ap, AreDue, AreRisenDue, AreRisingBelow}
use Common.{arith, became_true, cases_Bool, cases_lt, Conditions, conditions, due_at, false}
use Common.{get_or_past, Global, HasDueRemovedFrom, if◌then◌else◌, index_of, inl, inr, is_listed}
use Common.{IsStoreAt, IsWithout, length, List, Machine, None, Option, refl, Snapshot, snapshot_of}
use Common.{Some, state_count, Store, subst, sym, true, Vec, vec_capacity}
use Rattle.qss_run.specs.DueLists.{AreChanging, AreConditionsToEvaluate, IsTakenAfter}
use Rattle.qss_run.specs.DueLists.{AreDueRemoved}
use Rattle.qss_run.proofs.Visits.{stands_with}
use Rattle.qss_events.proofs.Risen.{none_became}

-- a place past all numbers is not among them
pub not_among : (n : ℕ) (moved : List ℕ) (place : ℕ) → AreRisingBelow n moved → n ≤ place → is_listed moved place ≡ false
not_among n moved place numbers past =
    elim (cases_Bool (is_listed moved place)) [
      | inl among ↦ let found = index_of moved place among in absurd (omega (arith, numbers.below found.0 0 found.1, found.2, past))
      | inr not ↦ not
    ]

module _ (n tick : ℕ) (moved : List ℕ) (old left : List (Option ℕ)) (due : AreDue n tick old moved) (without : IsWithout moved old left) where
  -- no state that is left is due
  pub none_left : (j : ℕ) → j < n → due_at left j ≢ Some tick
  none_left j h e = by_among (cases_Bool (is_listed moved j))
    where
      by_among : (is_listed moved j ≡ true) ⊎ (is_listed moved j ≡ false) → ⊥
      by_among (inl among) = let none = without.none j among in absurd (cc)
      by_among (inr not) = let some = due.all j h (sym (without.others j not) ∙ e) in absurd (cc)

  -- and nothing is due before
  pub none_left_before : ((place t : ℕ) → due_at old place ≡ Some t → tick ≤ t) → (place t : ℕ) → due_at left place ≡ Some t → tick ≤ t
  none_left_before before place t e = by_among (cases_Bool (is_listed moved place))
    where
      by_among : (is_listed moved place ≡ true) ⊎ (is_listed moved place ≡ false) → tick ≤ t
      by_among (inl among) = let none = without.none place among in absurd (cc)
      by_among (inr not) = before place t (sym (without.others place not) ∙ e)

  -- the conditions are due as they were
  as_before : (place : ℕ) → due_at left (n + place) ≡ due_at old (n + place)
  as_before place = without.others (n + place) (not_among n moved (n + place) due.numbers (omega arith))

module _ (n tick : ℕ) (all : Conditions) (old called : List (Option ℕ)) (is : AreRisenDue n tick all old called) where
  -- where nothing is due before a tick, nothing is after conditions were scheduled for it
  pub none_called_before : length old ≡ n + length all.after_handlers.items + 1 → ((place t : ℕ) → due_at old place ≡ Some t → tick ≤ t) → (place t : ℕ) → due_at called place ≡ Some t → tick ≤ t
  none_called_before places before place t e = elim (cases_lt place n) [ inl below ↦ before place t (sym (is.states place below) ∙ e) | inr past ↦ of_rest past ]
    where
      of_condition : (k : ℕ) → k < length all.after_handlers.items → due_at called (n + k) ≡ Some t → tick ≤ t
      of_condition k h there =
          elim (cases_Bool (became_true all.at_arrival.items all.after_handlers.items k)) [
            | inl risen ↦ (let same : tick ≡ t = let here = is.risen k h risen in cc in omega (arith, same))
            | inr not ↦ before (n + k) t (sym (is.others k h not) ∙ there)
          ]

      of_rest : n ≤ place → tick ≤ t
      of_rest past =
          let there : due_at called (n + (place - n)) ≡ Some t = ap (due_at called) (omega (arith, past)) ∙ e in
          elim (cases_lt (place - n) (length all.after_handlers.items)) [
            | inl inside ↦ of_condition (place - n) inside there
            | inr out ↦ elim (cases_lt (length all.after_handlers.items) (place - n)) [
              | inl more ↦ (let nowhere : due_at called place ≡ None = get_or_past called place None (omega (arith, more, is.as_many, places)) in absurd (cc))
              | inr last ↦
                  let same : place - n ≡ length all.after_handlers.items = omega (arith, out, last) in
                  let nowhere : due_at called (n + (place - n)) ≡ None = ap (λ k. due_at called (n + k)) same ∙ is.behind in
                  absurd (cc)
            ]
          ]

  -- the same states are due
  pub due_before : (moved : List ℕ) → AreDue n tick called moved → AreDue n tick old moved
  due_before moved due = record {
    numbers = due.numbers;
    own = λ j among.
        let found = index_of moved j among in
        sym (is.states j (omega (arith, due.numbers.below found.0 0 found.1, found.2))) ∙ due.own j among;
    all = λ j h e. due.all j h (is.states j h ∙ e);
  }

  module _ (moved : List ℕ) (left : List (Option ℕ)) (due : AreDue n tick called moved) (without : IsWithout moved called left) (changed : List ℕ) (new : List (Option ℕ))
      (changing : AreChanging n (length all.after_handlers.items) tick left changed) (out : IsTakenAfter n changed left new) where
    unchanged : (place : ℕ) → due_at left (n + place) ≡ due_at called (n + place)
    unchanged place = as_before n tick moved called left due without place

    -- a condition that became true is taken
    risen_taken : (place : ℕ) → place < length all.after_handlers.items → became_true all.at_arrival.items all.after_handlers.items place ≡ true → is_listed changed place ≡ true
    risen_taken place h risen = changing.all place h (unchanged place ∙ is.risen place h risen)

    pub looked_at : (w : Snapshot) → w.at_arrival ≡ all.at_arrival.items → w.after_handlers ≡ all.after_handlers.items → AreConditionsToEvaluate n (length all.after_handlers.items) tick old w changed
    looked_at w of_arrived of_settled = record {
      numbers = changing.numbers;
      own = λ place among. own place among (cases_Bool (became_true all.at_arrival.items all.after_handlers.items place));
      changing = λ place h e. elim (cases_Bool (became_true all.at_arrival.items all.after_handlers.items place)) [
        | inl risen ↦ risen_taken place h risen
        | inr not ↦ changing.all place h (unchanged place ∙ is.others place h not ∙ e)
      ];
      risen = λ place h risen. risen_taken place h (ap (λ a. became_true a all.after_handlers.items place) (sym of_arrived) ∙ ap (λ b. became_true w.at_arrival b place) (sym of_settled) ∙ risen);
    }
      where
        own : (place : ℕ) → is_listed changed place ≡ true → (became_true all.at_arrival.items all.after_handlers.items place ≡ true) ⊎ (became_true all.at_arrival.items all.after_handlers.items place ≡ false) →
            (due_at old (n + place) ≡ Some tick) ⊎ (became_true w.at_arrival w.after_handlers place ≡ true)
        own place among (inl risen) = inr (ap (λ a. became_true a w.after_handlers place) of_arrived ∙ ap (λ b. became_true all.at_arrival.items b place) of_settled ∙ risen)
        own place among (inr not) =
            let found = index_of changed place among in
            let inside : place < length all.after_handlers.items = omega (arith, changing.numbers.below found.0 0 found.1, found.2) in
            inl (sym (is.others place inside not) ∙ sym (unchanged place) ∙ changing.own place among)

    pub taken_all : AreDueRemoved n (length all.after_handlers.items) moved changed old new
    taken_all = record {
      as_many = out.as_many ∙ without.as_many ∙ is.as_many;
      states = λ j among.
          let found = index_of moved j among in
          let below : j < n = omega (arith, due.numbers.below found.0 0 found.1, found.2) in
          out.before j below ∙ without.none j among;
      conditions = out.none;
      other_states = λ j h not. out.before j h ∙ without.others j not ∙ is.states j h;
      other_conditions = λ place h not. elim (cases_Bool (became_true all.at_arrival.items all.after_handlers.items place)) [
        | inl risen ↦ (let some = risen_taken place h risen in absurd (cc))
        | inr none ↦ out.others place not ∙ unchanged place ∙ is.others place h none
      ];
      behind = out.others (length all.after_handlers.items) (not_among (length all.after_handlers.items) changed (length all.after_handlers.items) changing.numbers (omega arith)) ∙ unchanged (length all.after_handlers.items) ∙ is.behind;
    }

-- what is to be evaluated at the next tick was removed from the event queue of a store
pub is_taken : (m : Machine) (tick : ℕ) (s : Store) (states count : ℕ) (moved changed : Vec ℕ Global) (called left new : List (Option ℕ)) → IsStoreAt m tick s →
    states ≡ state_count m → count ≡ length (conditions m) →
    AreRisenDue states (tick + 1) s.conditions s.agenda called → AreDue states (tick + 1) called moved.items → IsWithout moved.items called left →
    AreChanging states count (tick + 1) left changed.items → IsTakenAfter states changed.items left new →
    vec_capacity moved ≡ vec_capacity s.moment.moved → vec_capacity changed ≡ vec_capacity s.moment.changed →
    HasDueRemovedFrom m tick s.agenda (record s { moment = record s.moment { moved = moved; changed = changed }; agenda = new })
is_taken m tick s states count moved changed called left new stands of_states of_count is due without changing out moved_room changed_room =
    let n = state_count m in
    let t = tick + 1 in
    let all : length s.conditions.after_handlers.items ≡ length (conditions m) = stands.fits.own_conditions.after_handlers in
    let own = subst (λ k. AreRisenDue k t s.conditions s.agenda called) of_states is in
    let own_due = subst (λ k. AreDue k t called moved.items) of_states due in
    let own_changing = subst (λ k. AreChanging n k t left changed.items) (of_count ∙ sym all) (subst (λ k. AreChanging k count t left changed.items) of_states changing) in
    let own_out = subst (λ k. IsTakenAfter k changed.items left new) of_states out in
    record {
      stands = stands_with m tick s moved changed stands moved_room changed_room;
      due = due_before n t s.conditions s.agenda called own moved.items own_due;
      changing = subst (λ k. AreConditionsToEvaluate n k t s.agenda (snapshot_of tick s) changed.items) all
          (looked_at n t s.conditions s.agenda called own moved.items left own_due without changed.items new own_changing own_out (snapshot_of tick s) refl refl);
      without = subst (λ k. AreDueRemoved n k moved.items changed.items s.agenda new) all
          (taken_all n t s.conditions s.agenda called own moved.items left own_due without changed.items new own_changing own_out);
    }

-- where a store does not say that a condition became true during the handlers, none did, and the
-- index after the conditions has none
pub none_to_call : (m : Machine) (tick : ℕ) (s : Store) → IsStoreAt m tick s → s.rising ≡ false → (place : ℕ) → became_true s.conditions.at_arrival.items s.conditions.after_handlers.items place ≡ false
none_to_call m tick s stands calm = none_became s.conditions.at_arrival.items s.conditions.after_handlers.items (stands.fits.own_conditions.at_arrival ∙ sym stands.fits.own_conditions.after_handlers) (sym stands.rising ∙ calm)

pub none_behind : (m : Machine) (tick : ℕ) (s : Store) → IsStoreAt m tick s → s.rising ≡ false → due_at s.agenda (state_count m + length (conditions m)) ≡ None
none_behind m tick s stands calm = stands.stands_for.rising ∙ ap (λ b. if b then Some (tick + 1) else None) (sym stands.rising ∙ calm)
