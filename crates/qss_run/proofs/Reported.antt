-- Handlers change what their rows say, and no more.
use Rattle.qss_run.proofs.Common
use Common.{[], ℕ, ℤ, ◌&&◌, ◌++◌, ◌+◌, ◌-◌, ◌<◌, ◌||◌, ◌∙◌, ◌∷◌, ◌≡◌, ◌≢◌, ◌≤◌, ◌⊎◌, Action, All}
use Common.{ap, arith, assign, assigned_of, Bool, cond, discrete_count, eqb, eqb-false, eqb-true}
use Common.{exceeds, false, filter, fire_row, Form, get_or-set_other, HandlerState, if_cases, inl}
use Common.{inr, int_at, is_listed, is_reinit, is_reinitialized, IsWithin, List, list_any}
use Common.{list_any-append, Machine, map, nat_tests, Option, or_cases, or_parts, pos, refl, Reinit}
use Common.{Row, run_clauses, Set, set, Some, state_count, subst, sym, true}
use Rattle.std.proofs.lemmas.List.Elements.{All-set}
use Rattle.std.specs.Prelude.{IsTrue}
use Rattle.qss_machine.specs.MachineLimits.{IsAction, has_target}
use Rattle.qss_hand.proofs.Targets.{target_set, target_reinit}
use Rattle.qss_events.specs.HandlerRows.{is_set}
use Rattle.qss_events.proofs.Kept.{after_clauses}
use Rattle.qss_machine.specs.declared.machine_parts.RowKind.TheVariants as kind

-- whether rows say that this variable was assigned
abbrev pub is_assigned : List Row → ℕ → Bool
is_assigned rows var = list_any (λ row. is_set row.kind && eqb row.var var) rows

one_more : (says : Bool) (row : Row) (rest : List Row) (var : ℕ) →
    is_listed (map (λ (r : Row). r.var) (cond says (row ∷ rest) rest)) var ≡ ((says && eqb row.var var) || is_listed (map (λ (r : Row). r.var) rest) var)
one_more true row rest var = refl
one_more false row rest var = refl

pub among_assigned : (rows : List Row) (var : ℕ) → is_listed (assigned_of rows) var ≡ is_assigned rows var
among_assigned [] var = refl
among_assigned (row ∷ rows) var =
    one_more (is_set row.kind) row (filter (λ (r : Row). is_set r.kind) rows) var ∙ ap (λ b. (is_set row.kind && eqb row.var var) || b) (among_assigned rows var)

-- the rows say of states that they were reinitialized and of discrete variables that they were assigned, and whatever they do not say is as before
pub record AreLogged (m : Machine) (x d : List ℤ) (h : HandlerState) : Type 0 where
  pub reinits : (j : ℕ) → is_reinitialized h.rows j ≡ true → j < state_count m
  pub sets : (var : ℕ) → is_assigned h.rows var ≡ true → (state_count m ≤ var) × (var < state_count m + discrete_count m)
  pub states : (j : ℕ) → is_reinitialized h.rows j ≡ false → int_at h.states j ≡ int_at x j
  pub discretes : (g : ℕ) → is_assigned h.rows (state_count m + g) ≡ false → int_at h.discretes g ≡ int_at d g

-- rows with one more say what it says or what they said before
says_either : (test : Row → Bool) (rows : List Row) (row : Row) → list_any test (rows ++ row ∷ []) ≡ true → (list_any test rows ≡ true) ⊎ (test row ≡ true)
says_either test rows row e = by_parts (or_cases (list_any test rows) (list_any test (row ∷ [])) (sym (list_any-append test rows (row ∷ [])) ∙ e))
  where
    by_last : (test row ≡ true) ⊎ (false ≡ true) → (list_any test rows ≡ true) ⊎ (test row ≡ true)
    by_last (inl last) = inr last
    by_last (inr never) = absurd (cc)

    by_parts : (list_any test rows ≡ true) ⊎ (list_any test (row ∷ []) ≡ true) → (list_any test rows ≡ true) ⊎ (test row ≡ true)
    by_parts (inl before) = inl before
    by_parts (inr last) = by_last (or_cases (test row) false last)

says_neither : (test : Row → Bool) (rows : List Row) (row : Row) → list_any test (rows ++ row ∷ []) ≡ false → (list_any test rows ≡ false) × (test row ≡ false)
says_neither test rows row e =
    let parts = or_parts (list_any test rows) (list_any test (row ∷ [])) (sym (list_any-append test rows (row ∷ [])) ∙ e) in
    (parts.0, (or_parts (test row) false parts.1).0)

-- what rows say with one more of another kind they said before
said_before : (test : Row → Bool) (rows : List Row) (row : Row) → test row ≡ false → list_any test (rows ++ row ∷ []) ≡ true → list_any test rows ≡ true
said_before test rows row other e = by_parts (says_either test rows row e)
  where
    by_parts : (list_any test rows ≡ true) ⊎ (test row ≡ true) → list_any test rows ≡ true
    by_parts (inl before) = before
    by_parts (inr last) = absurd (cc)

-- whether a row reinitializes this state
abbrev pub reinits_of : ℕ → Row → Bool
reinits_of j row = is_reinit row.kind && eqb row.var j

-- whether it assigns this variable
abbrev sets_of : ℕ → Row → Bool
sets_of var row = is_set row.kind && eqb row.var var

abbrev set_row : ℕ → ℕ → ℤ → Row
set_row tick var z = record { tick = tick; kind = kind.Set; var = var; level = z; state = pos 0 }

abbrev reinit_row : ℕ → ℕ → ℤ → Row
reinit_row tick var z = record { tick = tick; kind = kind.Reinit; var = var; level = pos 0; state = z }

module _ (m : Machine) (tick : ℕ) (x d : List ℤ) where
  logged_fire : (h : HandlerState) (clause branch : ℕ) → AreLogged m x d h → AreLogged m x d (record h { rows = h.rows ++ fire_row tick clause branch ∷ [] })
  logged_fire h clause branch logged =
      let row : Row = fire_row tick clause branch in
      record {
        reinits = λ j e. logged.reinits j (said_before (reinits_of j) h.rows row refl e);
        sets = λ var e. logged.sets var (said_before (sets_of var) h.rows row refl e);
        states = λ j e. logged.states j (says_neither (reinits_of j) h.rows row e).0;
        discretes = λ g e. logged.discretes g (says_neither (sets_of (state_count m + g)) h.rows row e).0;
      }

  module _ (h : HandlerState) (var : ℕ) (form : Form) (z : ℤ) (logged : AreLogged m x d h) where
    over : (first : ℕ) → AreLogged m x d (record h { overflow = Some first })
    over first = record { reinits = logged.reinits; sets = logged.sets; states = logged.states; discretes = logged.discretes }

    logged_set : IsTrue (has_target (state_count m) (discrete_count m) (Set var form)) → AreLogged m x d (assign m tick h (Set var form) z)
    logged_set target =
        let inside = target_set (state_count m) (discrete_count m) var form target in
        let next : HandlerState = record h { discretes = set h.discretes (var - state_count m) z; rows = h.rows ++ set_row tick var z ∷ [] } in
        if_cases (AreLogged m x d) (exceeds 43 z) (record h { overflow = Some var }) next (λ e. over var)
        (λ e. record {
          reinits = λ j e. logged.reinits j (said_before (reinits_of j) h.rows (set_row tick var z) refl e);
          sets = λ other e. by_var inside other (says_either (sets_of other) h.rows (set_row tick var z) e);
          states = λ j e. logged.states j (says_neither (reinits_of j) h.rows (set_row tick var z) e).0;
          discretes = λ g e. kept inside g (says_neither (sets_of (state_count m + g)) h.rows (set_row tick var z) e);
        })
      where
        by_var : (state_count m ≤ var) × (var < state_count m + discrete_count m) → (other : ℕ) → (is_assigned h.rows other ≡ true) ⊎ (eqb var other ≡ true) →
            (state_count m ≤ other) × (other < state_count m + discrete_count m)
        by_var inside other (inl before) = logged.sets other before
        by_var inside other (inr here) = let is : var ≡ other = eqb-true var other here in subst (λ k. (state_count m ≤ k) × (k < state_count m + discrete_count m)) is inside

        kept : (state_count m ≤ var) × (var < state_count m + discrete_count m) → (g : ℕ) → (is_assigned h.rows (state_count m + g) ≡ false) × (eqb var (state_count m + g) ≡ false) →
            int_at (set h.discretes (var - state_count m) z) g ≡ int_at d g
        kept inside g none =
            let other : var ≢ state_count m + g = eqb-false var (state_count m + g) none.1 in
            get_or-set_other h.discretes (var - state_count m) g z (pos 0) (λ here. other (omega (arith, here, inside.0))) ∙ logged.discretes g none.0

    logged_reinit : IsTrue (has_target (state_count m) (discrete_count m) (Reinit var form)) → AreLogged m x d (assign m tick h (Reinit var form) z)
    logged_reinit target =
        let inside = target_reinit (state_count m) (discrete_count m) var form target in
        let next : HandlerState = record h { states = set h.states var z; rows = h.rows ++ reinit_row tick var z ∷ [] } in
        if_cases (AreLogged m x d) (exceeds 88 z) (record h { overflow = Some var }) next (λ e. over var)
        (λ e. record {
          reinits = λ j e. by_var inside j (says_either (reinits_of j) h.rows (reinit_row tick var z) e);
          sets = λ other e. logged.sets other (said_before (sets_of other) h.rows (reinit_row tick var z) refl e);
          states = λ j e. kept j (says_neither (reinits_of j) h.rows (reinit_row tick var z) e);
          discretes = λ g e. logged.discretes g (says_neither (sets_of (state_count m + g)) h.rows (reinit_row tick var z) e).0;
        })
      where
        by_var : var < state_count m → (j : ℕ) → (is_reinitialized h.rows j ≡ true) ⊎ (eqb var j ≡ true) → j < state_count m
        by_var inside j (inl before) = logged.reinits j before
        by_var inside j (inr here) = subst (λ k. k < state_count m) (eqb-true var j here) inside

        kept : (j : ℕ) → (is_reinitialized h.rows j ≡ false) × (eqb var j ≡ false) → int_at (set h.states var z) j ≡ int_at x j
        kept j none = get_or-set_other h.states var j z (pos 0) (λ here. eqb-false var j none.1 (sym here)) ∙ logged.states j none.0

  logged_assign : (h : HandlerState) (action : Action) (z : ℤ) → IsAction (state_count m) (discrete_count m) action → AreLogged m x d h → AreLogged m x d (assign m tick h action z)
  logged_assign h (Set var form) z known logged = logged_set h var form z logged known.target
  logged_assign h (Reinit var form) z known logged = logged_reinit h var form z logged known.target

small_assign : (m : Machine) (tick : ℕ) (h : HandlerState) (action : Action) (z : ℤ) → IsAction (state_count m) (discrete_count m) action → All (IsWithin 88) h.states → All (IsWithin 88) (assign m tick h action z).states
small_assign m tick h (Set var form) z known small =
    let next : HandlerState = record h { discretes = set h.discretes (var - state_count m) z; rows = h.rows ++ set_row tick var z ∷ [] } in
    if_cases (λ (g : HandlerState). All (IsWithin 88) g.states) (exceeds 43 z) (record h { overflow = Some var }) next (λ e. small) (λ e. small)
small_assign m tick h (Reinit var form) z known small =
    let next : HandlerState = record h { states = set h.states var z; rows = h.rows ++ reinit_row tick var z ∷ [] } in
    if_cases (λ (g : HandlerState). All (IsWithin 88) g.states) (exceeds 88 z) (record h { overflow = Some var }) next (λ e. small)
    (λ e. let fits : IsWithin 88 z = grind (arith, nat_tests) in All-set (IsWithin 88) h.states var z fits small)

module _ (m : Machine) (tick : ℕ) (x d : List ℤ) (over : Option ℕ) (due : List Bool) where
  abbrev start : HandlerState
  start = record { states = x; discretes = d; rows = []; overflow = over }

  -- handlers change what their rows say
  pub logged : AreLogged m x d (run_clauses m tick d 0 start m.clauses due)
  logged =
      after_clauses m tick d (AreLogged m x d) (logged_fire m tick x d) (logged_assign m tick x d) 0 start m.clauses due m.has_clauses.each
      (record { reinits = λ j e. absurd (cc); sets = λ var e. absurd (cc); states = λ j e. refl; discretes = λ g e. refl })

  -- and leave states within their limit
  pub small_after : All (IsWithin 88) x → All (IsWithin 88) (run_clauses m tick d 0 start m.clauses due).states
  small_after small =
      after_clauses m tick d (λ h. All (IsWithin 88) h.states) (λ h clause branch kept. kept) (small_assign m tick) 0 start m.clauses due m.has_clauses.each small
