-- A state that a tick does not affect was not due, and keeps its line and its due tick.
use Rattle.qss_run.proofs.Common
use Common.{[], ℕ, ℤ, ◌+◌, ◌<◌, ◌∙◌, ◌≡◌, ◌≤◌, ap, AreNextLevels, arith, cases_Bool, cases_lt}
use Common.{due_at, false, FirstAfter, handlers_at, HandlerState, HasDueRemovedFrom, HasLeft}
use Common.{HaveLeft, inl, inr, int_at, int_at-states_at, ints, is_listed, is_reinitialized}
use Common.{IsAllowedLevel, IsDue, IsHandlerEffect, IsLineWithinQuantum, IsWithout, level_stays}
use Common.{level_unit, Line, line_at, List, Machine, None, Option, or_cases, quantum_of, refl, Row}
use Common.{Rule, Snapshot, snapshot_of, Some, state_at, state_count, states_with, Store, subst}
use Common.{sym, true, Values}
use Rattle.std.proofs.lemmas.Bool.{or_from}
use Rattle.qss_events.specs.Schedules.{LeavesAt}
use Rattle.qss_states.proofs.DueLevels.{moved_inside}
use Rattle.qss_run.proofs.Crossed.{due_after, moved_to, near_after}
use Rattle.qss_run.proofs.DueRemoved.{at_arrival, due_left}
use Rattle.qss_run.proofs.Reinits.{kept_state}
use Rattle.qss_run.proofs.Touched.{IsUntouched}

-- there is one first tick
first_one : (P : ℕ → Type 0) (from : ℕ) (a b : Option ℕ) → FirstAfter P from a → FirstAfter P from b → a ≡ b
first_one P from None None h k = refl
first_one P from None (Some n) none some = absurd (none n some.later some.in_time some.holds)
first_one P from (Some m) None some none = absurd (none m some.later some.in_time some.holds)
first_one P from (Some m) (Some n) s t =
    let below : n ≤ m = elim (cases_lt m n) [ inl less ↦ absurd (t.first m s.later less s.holds) | inr past ↦ past ] in
    let above : m ≤ n = elim (cases_lt n m) [ inl less ↦ absurd (s.first n t.later less t.holds) | inr past ↦ past ] in
    let same : m ≡ n = omega (arith, below, above) in
    ap (λ k. Some k) same

module _ (m : Machine) (tick : ℕ) (agenda : List (Option ℕ)) (s : Store) (taken : HasDueRemovedFrom m tick agenda s) (in_time : tick < m.last) (moved assigned : List ℕ) (new : Values) (h : HandlerState)
    (is : IsHandlerEffect m (tick + 1) s.states.lines.items s.moment.moved.items moved assigned s.work new h) (is_h : h ≡ handlers_at m (tick + 1) (snapshot_of tick s)) where
  -- a state that is not reinitialized is on its line
  arrived_so : (j : ℕ) → j < state_count m → is_reinitialized h.rows j ≡ false → state_at (line_at s.states.lines.items j) (tick + 1) ≡ int_at h.states j
  arrived_so j inside none =
      sym (int_at-states_at s.states.lines.items (tick + 1) j (omega (arith, inside, taken.stands.fits.lines)))
      ∙ ap (λ xs. int_at xs j) (at_arrival m tick agenda s taken in_time)
      ∙ sym (kept_state m (tick + 1) (snapshot_of tick s) j (sym (ap (λ (k : HandlerState). is_reinitialized k.rows j) is_h) ∙ none))
      ∙ ap (λ (k : HandlerState). int_at k.states j) (sym is_h)

  -- where the handlers do nothing each moved state has left its quantum
  pub have_left : new.log ≡ [] → HaveLeft m moved new.x s.states.levels.items
  have_left idle j among =
      let inside : j < state_count m = moved_inside (state_count m) moved is.numbers j among in
      let none : is_reinitialized h.rows j ≡ false = ap (λ (rows : List Row). is_reinitialized rows j) (sym (ap (λ (v : Values). v.log) is.values) ∙ idle) in
      let due : is_listed s.moment.moved.items j ≡ true = elim (or_cases (is_listed s.moment.moved.items j) (is_reinitialized h.rows j) (sym (is.moves j) ∙ among)) [ inl own ↦ own | inr other ↦ absurd (cc) ] in
      subst (λ z. HasLeft m j z (int_at s.states.levels.items j)) (arrived_so j inside none ∙ (moved_to m tick agenda s taken in_time moved assigned new h is).own j among) (due_left m tick agenda s taken in_time j due)

  module _ (name : Option Rule) (levels : List ℤ) (allowed : AreNextLevels (IsAllowedLevel name) m h.states s.states.levels.items levels) (next : Snapshot) (same_levels : next.levels ≡ levels)
      (j : ℕ) (inside : j < state_count m) (still : IsUntouched m (tick + 1) (snapshot_of tick s) next j) where
    not_reinitialized : is_reinitialized h.rows j ≡ false
    not_reinitialized = ap (λ (k : HandlerState). is_reinitialized k.rows j) is_h ∙ still.own

    pub on_line : state_at (line_at s.states.lines.items j) (tick + 1) ≡ int_at (states_with s.states.lines.items (tick + 1) moved new.x) j
    on_line = arrived_so j inside not_reinitialized ∙ ap (λ xs. int_at xs j) is.own_states

    own_level : int_at s.states.levels.items j ≡ int_at levels j
    own_level = level_stays m (snapshot_of tick s) next j inside still.level ∙ ap (λ l. int_at l j) same_levels

    -- it was not due
    pub not_due : is_listed s.moment.moved.items j ≡ false
    not_due = elim (cases_Bool (is_listed s.moment.moved.items j)) [
      | inl among ↦
          let left : HasLeft m j (state_at (line_at s.states.lines.items j) (tick + 1)) (int_at s.states.levels.items j) = due_left m tick agenda s taken in_time j among in
          let near : IsLineWithinQuantum (level_unit m) (state_at (line_at s.states.lines.items j) (tick + 1)) (int_at s.states.levels.items j) (quantum_of m j (int_at s.states.levels.items j)) =
          subst (λ l. IsLineWithinQuantum (level_unit m) (state_at (line_at s.states.lines.items j) (tick + 1)) l (quantum_of m j l)) (sym own_level)
          (subst (λ x. IsLineWithinQuantum (level_unit m) x (int_at levels j) (quantum_of m j (int_at levels j))) (sym on_line) (near_after m tick agenda s taken in_time moved assigned new h is name levels allowed j inside)) in
          absurd (omega (arith, ints, left, near))
      | inr none ↦ none
    ]

    not_among : is_listed moved j ≡ false
    not_among = is.moves j ∙ or_from (is_listed s.moment.moved.items j) (is_reinitialized h.rows j) not_due not_reinitialized

    -- its due tick is the only one of its line
    pub same_due : (after last : List (Option ℕ)) → IsWithout moved s.agenda after → (line : Line) → line ≡ line_at s.states.lines.items j → IsDue m (tick + 1) j line (due_at last j) → due_at last j ≡ due_at s.agenda j
    same_due after last without line same found =
        first_one (LeavesAt m j (line_at s.states.lines.items j)) (tick + 1) (due_at last j) (due_at s.agenda j)
        (subst (λ (l : Line). IsDue m (tick + 1) j l (due_at last j)) same found)
        (subst (IsDue m (tick + 1) j (line_at s.states.lines.items j)) (without.others j not_among)
        (due_after m tick agenda s taken in_time moved assigned new h is name levels allowed after without j inside not_among ((taken.stands.stands_for.lines j inside).own_level ∙ own_level)))
