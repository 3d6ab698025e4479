-- What the rows of a tick say of states.
use Rattle.qss_run.proofs.Common
use Common.{[], ℕ, ◌&&◌, ◌++◌, ◌+◌, ◌<◌, ◌==◌, ◌||◌, ◌∙◌, ◌∷◌, ◌≡◌, ◌≢◌, ◌⊎◌, ap, append-nil}
use Common.{AreDue, AreRisingBelow, arith, Bool, cases_Bool, cases_eq, cond, due_at, eqb, eqb-false}
use Common.{eqb-true, false, filter, get_or, get_or-set_other, get_or-set_same, index_of, inl, inr}
use Common.{is_listed, is_reinit, is_reinitialized, IsWithout, length, length-set, List, list_any}
use Common.{list_any_at, list_any_more, map, Option, or_cases, or_left, or_parts, or_right, refl}
use Common.{reinitialized_of, Row, set, Some, subst, sym, take, true}
use Rattle.std.proofs.lemmas.Bool.{eq-eqb}
use Rattle.std.proofs.lemmas.List.{map-append}
use Rattle.std.proofs.lemmas.List.Elements.{filter_more}

-- the states of these rows are due at a tick, and all else is due as before
pub record AreGiven (tick : ℕ) (log : List Row) (old new : List (Option ℕ)) : Type 0 where
  pub as_many : length new ≡ length old
  pub given : (place : ℕ) → is_reinitialized log place ≡ true → due_at new place ≡ Some tick
  pub others : (place : ℕ) → is_reinitialized log place ≡ false → due_at new place ≡ due_at old place

module _ (log : List Row) (i : ℕ) (d : Row) (h : i < length log) where
  abbrev pub row : Row
  row = get_or log i d

  -- one row more
  more : (place : ℕ) → is_reinitialized (take (i + 1) log) place ≡ (is_reinitialized (take i log) place || (is_reinit row.kind && eqb row.var place))
  more place = list_any_more (λ (r : Row). is_reinit r.kind && eqb r.var place) log i d h

  -- its state is among those of all rows
  pub reinitialized_at : is_reinit row.kind ≡ true → is_reinitialized log row.var ≡ true
  reinitialized_at e =
      list_any_at (λ (r : Row). is_reinit r.kind && eqb r.var row.var) log i d h (ap (λ b. b && eqb row.var row.var) e ∙ eq-eqb row.var row.var refl)

  module _ (tick : ℕ) (old agenda : List (Option ℕ)) (before : AreGiven tick (take i log) old agenda) where
    -- a row of another kind gives nothing
    pub given_same : is_reinit row.kind ≡ false → AreGiven tick (take (i + 1) log) old agenda
    given_same e = record {
      as_many = before.as_many;
      given = λ place among. before.given place (same place (or_cases (is_reinitialized (take i log) place) (is_reinit row.kind && eqb row.var place) (sym (more place) ∙ among)));
      others = λ place none. before.others place (or_parts (is_reinitialized (take i log) place) (is_reinit row.kind && eqb row.var place) (sym (more place) ∙ none)).0;
    }
      where
        same : (place : ℕ) → (is_reinitialized (take i log) place ≡ true) ⊎ ((is_reinit row.kind && eqb row.var place) ≡ true) → is_reinitialized (take i log) place ≡ true
        same place (inl among) = among
        same place (inr here) = let never : false ≡ true = sym (ap (λ b. b && eqb row.var place) e) ∙ here in absurd (cc)

    -- a state more is given
    pub given_more : is_reinit row.kind ≡ true → row.var < length agenda → AreGiven tick (take (i + 1) log) old (set agenda row.var (Some tick))
    given_more e inside = record {
      as_many = length-set agenda row.var (Some tick) ∙ before.as_many;
      given = λ place among. by_parts place (or_cases (is_reinitialized (take i log) place) (eqb row.var place) (sym (here place) ∙ among));
      others = λ place none. other place (or_parts (is_reinitialized (take i log) place) (eqb row.var place) (sym (here place) ∙ none));
    }
      where
        here : (place : ℕ) → is_reinitialized (take (i + 1) log) place ≡ (is_reinitialized (take i log) place || eqb row.var place)
        here place = more place ∙ ap (λ b. is_reinitialized (take i log) place || (b && eqb row.var place)) e

        by_place : (place : ℕ) → is_reinitialized (take i log) place ≡ true → (row.var ≡ place) ⊎ (row.var ≢ place) → due_at (set agenda row.var (Some tick)) place ≡ Some tick
        by_place place among (inl same) = subst (λ k. due_at (set agenda row.var (Some tick)) k ≡ Some tick) same (get_or-set_same agenda row.var (Some tick) _ inside)
        by_place place among (inr ne) = get_or-set_other agenda row.var place (Some tick) _ (λ q. ne (sym q)) ∙ before.given place among

        by_parts : (place : ℕ) → (is_reinitialized (take i log) place ≡ true) ⊎ (eqb row.var place ≡ true) → due_at (set agenda row.var (Some tick)) place ≡ Some tick
        by_parts place (inl among) = by_place place among (cases_eq row.var place)
        by_parts place (inr same) =
            subst (λ k. due_at (set agenda row.var (Some tick)) k ≡ Some tick) (eqb-true row.var place same) (get_or-set_same agenda row.var (Some tick) _ inside)

        other : (place : ℕ) → (is_reinitialized (take i log) place ≡ false) × (eqb row.var place ≡ false) → due_at (set agenda row.var (Some tick)) place ≡ due_at old place
        other place both =
            let ne : row.var ≢ place = eqb-false row.var place both.1 in
            get_or-set_other agenda row.var place (Some tick) _ (λ q. ne (sym q)) ∙ before.others place both.0

-- where nothing else is due, those that are put back and taken out again are the states that were moved and those that are reinitialized
module _ (n tick : ℕ) (log : List Row) (due moved : List ℕ) (old back given new : List (Option ℕ))
    (later : (place at : ℕ) → due_at old place ≡ Some at → tick < at) (known : (j : ℕ) → is_reinitialized log j ≡ true → j < n) (numbers : AreRisingBelow n due)
    (as_many : length back ≡ length old) (own : (place : ℕ) → is_listed due place ≡ true → due_at back place ≡ Some tick)
    (others : (place : ℕ) → is_listed due place ≡ false → due_at back place ≡ due_at old place) (are_given : AreGiven tick log back given)
    (taken : AreDue n tick given moved) (without : IsWithout moved given new) where
  inside : (j : ℕ) → is_listed due j ≡ true → j < n
  inside j e = let at = index_of due j e in omega (arith, at.2, numbers.below at.0 0 at.1)

  not_moved : (j : ℕ) → is_listed due j ≡ false → is_reinitialized log j ≡ false → is_listed moved j ≡ false
  not_moved j e f = by_among (cases_Bool (is_listed moved j))
    where
      by_among : (is_listed moved j ≡ true) ⊎ (is_listed moved j ≡ false) → is_listed moved j ≡ false
      by_among (inl among) = absurd (omega (arith, later j tick (sym (others j e) ∙ sym (are_given.others j f) ∙ taken.own j among)))
      by_among (inr none) = none

  pub joined : (j : ℕ) → is_listed moved j ≡ (is_listed due j || is_reinitialized log j)
  joined j = by_cases (cases_Bool (is_listed due j)) (cases_Bool (is_reinitialized log j))
    where
      by_cases : (is_listed due j ≡ true) ⊎ (is_listed due j ≡ false) → (is_reinitialized log j ≡ true) ⊎ (is_reinitialized log j ≡ false) →
          is_listed moved j ≡ (is_listed due j || is_reinitialized log j)
      by_cases (inl e) (inl f) = taken.all j (known j f) (are_given.given j f) ∙ sym (or_left (is_listed due j) (is_reinitialized log j) e)
      by_cases (inl e) (inr f) = taken.all j (inside j e) (are_given.others j f ∙ own j e) ∙ sym (or_left (is_listed due j) (is_reinitialized log j) e)
      by_cases (inr e) (inl f) = taken.all j (known j f) (are_given.given j f) ∙ sym (or_right (is_listed due j) (is_reinitialized log j) f)
      by_cases (inr e) (inr f) = not_moved j e f ∙ sym (ap (λ b. b || is_reinitialized log j) e ∙ f)

  pub joined_without : IsWithout moved old new
  joined_without = record {
    as_many = without.as_many ∙ are_given.as_many ∙ as_many;
    none = without.none;
    others = λ j e. let both = or_parts (is_listed due j) (is_reinitialized log j) (sym (joined j) ∙ e) in without.others j e ∙ are_given.others j both.1 ∙ others j both.0;
  }

-- rows of other kinds reinitialize no state
pub none_reinitialized : (log : List Row) → list_any (λ (row : Row). is_reinit row.kind) log ≡ false → (j : ℕ) → is_reinitialized log j ≡ false
none_reinitialized [] none j = refl
none_reinitialized (row ∷ log) none j =
    let parts = or_parts (is_reinit row.kind) (list_any (λ (r : Row). is_reinit r.kind) log) none in
    ap (λ b. (b && (row.var == j)) || is_reinitialized log j) parts.0 ∙ none_reinitialized log parts.1 j

-- so nothing joins the moved states
pub joins_nothing : (log : List Row) → list_any (λ (row : Row). is_reinit row.kind) log ≡ false → (moved : List ℕ) (j : ℕ) → is_listed moved j ≡ (is_listed moved j || is_reinitialized log j)
joins_nothing log none moved j = sym (ap (λ b. is_listed moved j || b) (none_reinitialized log none j) ∙ or_false (is_listed moved j))
  where
    or_false : (b : Bool) → b || false ≡ b
    or_false true = refl
    or_false false = refl

-- ---- the list of the states that rows reinitialize

listed : (b : Bool) (row : Row) (rest : List Row) (j : ℕ) → list_any (λ (i : ℕ). i == j) (map (λ (r : Row). r.var) (cond b (row ∷ rest) rest)) ≡ ((b && (row.var == j)) || is_listed (map (λ (r : Row). r.var) rest) j)
listed true row rest j = refl
listed false row rest j = refl

-- a number is in it if a row says so
pub among_reinitialized : (log : List Row) (j : ℕ) → is_listed (reinitialized_of log) j ≡ is_reinitialized log j
among_reinitialized [] j = refl
among_reinitialized (row ∷ log) j =
    listed (is_reinit row.kind) row (filter (λ (r : Row). is_reinit r.kind) log) j ∙ ap (λ b. (is_reinit row.kind && (row.var == j)) || b) (among_reinitialized log j)

module _ (log : List Row) (i : ℕ) (d : Row) (h : i < length log) where
  -- a row of another kind adds nothing
  pub reinitialized_same : is_reinit (get_or log i d).kind ≡ false → reinitialized_of (take (i + 1) log) ≡ reinitialized_of (take i log)
  reinitialized_same e =
      ap (map (λ (row : Row). row.var))
      (filter_more (λ (row : Row). is_reinit row.kind) log i d h ∙ ap (λ b. filter (λ (row : Row). is_reinit row.kind) (take i log) ++ cond b (get_or log i d ∷ []) []) e
      ∙ append-nil (filter (λ (row : Row). is_reinit row.kind) (take i log)))

  -- and one of a state adds it
  pub reinitialized_more : is_reinit (get_or log i d).kind ≡ true → reinitialized_of (take (i + 1) log) ≡ reinitialized_of (take i log) ++ (get_or log i d).var ∷ []
  reinitialized_more e =
      ap (map (λ (row : Row). row.var))
      (filter_more (λ (row : Row). is_reinit row.kind) log i d h ∙ ap (λ b. filter (λ (row : Row). is_reinit row.kind) (take i log) ++ cond b (get_or log i d ∷ []) []) e)
      ∙ map-append (λ (row : Row). row.var) (filter (λ (row : Row). is_reinit row.kind) (take i log)) (get_or log i d ∷ [])
