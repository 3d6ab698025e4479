-- A store after one tick.
use Rattle.qss_run.proofs.Common
use Common.{[], ℕ, ℤ, ◌*ℤ◌, ◌+ℤ◌, ◌+◌, ◌<◌, ◌∙◌, ◌≡◌, ◌≢◌, All, ap, AreAlikeBut, AreNextLevels}
use Common.{AreWeights, arith, Condition, condition_at, conditions, detector_at, due_at}
use Common.{exceeds_row_limits, false, first_exceeding, FitsMachine, flag_at, from_later}
use Common.{get_or-map, get_or_default, Global, handlers_at, HandlerState, handling_from}
use Common.{if◌then◌else◌, int_at, int_at-tabulate, ints, is_some, IsChange, IsDetectorAt, IsDue}
use Common.{IsLineWithinQuantum, IsRestartedFrom, IsScheduleOf, IsStep, IsStoreAt, IsWithin, length}
use Common.{length-map-range_with_len, Less, level_unit, Line, line_at, line_state_at, List}
use Common.{Machine, moved_is, moved_states, None, Ok, Option, option_or, pos, position, quantum_of}
use Common.{refl, rises, Rule, slope_at, Snapshot, snapshot_of, snapshot_unless, Some, speed_of}
use Common.{state_at, state_count, states_at, Store, subst, sym, tabulate, tabulate-same, true}
use Common.{truth, truths, value_of, Vec, vec_capacity}
use Rattle.qss_machine.specs.Ticks.{finish_tick}
use Rattle.qss_events.specs.Schedules.{slopes_of}
use Rattle.qss_quant.specs.IntegratorLines.{IsAway}
use Rattle.mu_num.proofs.Tables.{tabulate-int_at}

-- ---- on arrival

module _ (m : Machine) (tick : ℕ) (s : Store) (stands : IsStoreAt m tick s) where
  -- lines lead to the states of the next tick
  pub arrives : states_at s.states.lines.items (tick + 1) ≡ moved_states m (snapshot_of tick s)
  arrives =
      ap (λ n. tabulate n (λ j. state_at (line_at s.states.lines.items j) (tick + 1))) stands.fits.lines
      ∙ tabulate-same (pos 0) (state_count m) _ _
      (λ j h.
      line_state_at m tick (snapshot_of tick s) (line_at s.states.lines.items) (detector_at s.conditions.detectors.items) (due_at s.agenda) stands.stands_for j 1 h
      ∙ int_at-tabulate (state_count m) (λ i. int_at (snapshot_of tick s).states i +ℤ pos 1 *ℤ slope_at m i s.states.levels.items s.work.d) j h
      ∙ sym (int_at-tabulate (state_count m) (λ i. int_at (snapshot_of tick s).states i +ℤ pos 1 *ℤ slope_at m i s.states.levels.items s.work.d) j h)
      ∙ ap (λ xs. int_at xs j) (sym (moved_is m (snapshot_of tick s)))
      ∙ int_at-tabulate (state_count m) (λ i. int_at (snapshot_of tick s).states i +ℤ slope_at m i s.states.levels.items s.work.d) j h)

  -- and the handlers then do what they do at that tick
  pub handles : handling_from m (tick + 1) (states_at s.states.lines.items (tick + 1)) s.work.d s.conditions.at_arrival.items s.conditions.after_handlers.items ≡ handlers_at m (tick + 1) (snapshot_of tick s)
  handles = ap (λ x. handling_from m (tick + 1) x s.work.d s.conditions.at_arrival.items s.conditions.after_handlers.items) arrives

  -- a line that goes on as before keeps its due tick, since its state is near its level
  pub due_stays : (j : ℕ) (state level : ℤ) → j < state_count m → IsLineWithinQuantum (level_unit m) state level (quantum_of m j level) →
      state_at (line_at s.states.lines.items j) (tick + 1) ≡ state → (line_at s.states.lines.items j).level ≡ level → IsDue m (tick + 1) j (line_at s.states.lines.items j) (due_at s.agenda j)
  due_stays j state level h near here own =
      let line : Line = line_at s.states.lines.items j in
      let first : IsDue m tick j line (due_at s.agenda j) = stands.stands_for.dues j h in
      let still : IsLineWithinQuantum (level_unit m) (state_at line (tick + 1)) line.level (quantum_of m j line.level) =
      subst (λ x. IsLineWithinQuantum (level_unit m) x line.level (quantum_of m j line.level)) (sym here)
      (subst (λ l. IsLineWithinQuantum (level_unit m) state l (quantum_of m j l)) (sym own) near) in
      from_later (λ t. IsAway (level_unit m) (state_at line t) line.level (quantum_of m j line.level)) tick (tick + 1) (due_at s.agenda j) (omega arith)
      (λ u e. later u (due_at s.agenda j) e first still) first
    where
      later : (u : ℕ) (found : Option ℕ) → found ≡ Some u → IsDue m tick j (line_at s.states.lines.items j) found →
          IsLineWithinQuantum (level_unit m) (state_at (line_at s.states.lines.items j) (tick + 1)) (line_at s.states.lines.items j).level (quantum_of m j (line_at s.states.lines.items j).level) → tick + 1 < u
      later u None e first still = absurd (cc)
      later u (Some v) e first still =
          let same : v ≡ u = cc in
          let ne : v ≢ tick + 1 = λ q.
          let away = subst (λ t. IsAway (level_unit m) (state_at (line_at s.states.lines.items j) t) (line_at s.states.lines.items j).level (quantum_of m j (line_at s.states.lines.items j).level)) q first.holds in
          omega (arith, ints, away, still) in
          omega (arith, first.later, same, ne)

-- ---- the store is valid again

pub stands_again : (m : Machine) (t : ℕ) (s : Store) (x : List ℤ) → length x ≡ state_count m → FitsMachine m s → ((j : ℕ) → j < state_count m → IsWithin 43 (int_at s.states.levels.items j)) →
    position (exceeds_row_limits m s.states.levels.items s.work.d) m.rows ≡ None →
    s.states.slopes.items ≡ slopes_of m (snapshot_of t s) →
    AreWeights m s.states.levels.items s.work.d s.states.weights →
    ((j : ℕ) → j < state_count m → IsRestartedFrom m t (int_at x j) (int_at s.states.levels.items j) (slope_at m j s.states.levels.items s.work.d) j (line_at s.states.lines.items j) (due_at s.agenda j)) →
    s.conditions.after_handlers.items ≡ truths m x s.work.d t →
    ((place : ℕ) → place < length (conditions m) → IsDetectorAt m t x s.work.d s.states.slopes.items place (detector_at s.conditions.detectors.items place) (due_at s.agenda (state_count m + place))) →
    s.rising ≡ rises (snapshot_of t s) →
    due_at s.agenda (state_count m + length (conditions m)) ≡ (if s.rising then Some (t + 1) else None) →
    AreAlikeBut s.conditions.flipped.places s.conditions.at_arrival.items s.conditions.after_handlers.items → (states_at s.states.lines.items t ≡ x) × IsStoreAt m t s
stands_again m t s x many fits small light slopes weights goes_on after_handlers watched risen rising alike = (
  states,
  record {
    fits = fits;
    stands_for = for;
    own_slopes = slopes;
    own_weights = weights;
    rising = risen;
    alike = alike;
  },
)
  where
    states : states_at s.states.lines.items t ≡ x
    states =
        ap (λ n. tabulate n (λ j. state_at (line_at s.states.lines.items j) t)) fits.lines
        ∙ tabulate-same (pos 0) (state_count m) _ (int_at x) (λ j h. (goes_on j h).here)
        ∙ sym (tabulate-int_at x (state_count m) many)

    state : (j : ℕ) → int_at x j ≡ int_at (snapshot_of t s).states j
    state j = ap (λ xs. int_at xs j) (sym states)

    flag : (place : ℕ) → place < length (conditions m) → truth m (condition_at m place) x s.work.d t ≡ flag_at s.conditions.after_handlers.items place
    flag place h =
        let none : Condition = record { form = record { entries = []; time = pos 0; gamma = pos 0 }; rel = Less } in
        let test = λ (c : Condition). truth m c x s.work.d t in
        sym (ap (λ flags. flag_at flags place) after_handlers ∙ get_or-map test (conditions m) place none false h)

    for : IsScheduleOf m t (snapshot_of t s) (line_at s.states.lines.items) (detector_at s.conditions.detectors.items) (due_at s.agenda)
    for = record {
      left = record { one_each = fits.levels; small_levels = small; light = light };
      states = length-map-range_with_len (λ j. state_at (line_at s.states.lines.items j) t) 0 (length s.states.lines.items) ∙ fits.lines;
      after_handlers = after_handlers ∙ ap (λ y. truths m y s.work.d t) (sym states);
      lines = λ j h. record {
        not_later = (goes_on j h).not_later;
        here = (goes_on j h).here ∙ state j;
        own_slope = (goes_on j h).own_slope;
        own_level = (goes_on j h).own_level;
      };
      dues = λ j h. (goes_on j h).is_due;
      detectors = λ place h. record {
        not_later = (watched place h).not_later;
        here = (watched place h).here ∙ ap (λ y. value_of m (condition_at m place).form y s.work.d s.work.d t) (sym states);
        own_speed = (watched place h).own_speed ∙ ap (speed_of m (condition_at m place).form) slopes;
        own_rel = (watched place h).own_rel;
      };
      changes = λ place h. subst (λ b. IsChange t b (detector_at s.conditions.detectors.items place) (due_at s.agenda (state_count m + place))) (flag place h) (watched place h).is_change;
      rising = rising ∙ ap (λ b. if b then Some (t + 1) else None) risen;
    }

-- a store stays valid with other moved states and changed conditions in the same memory
pub stands_with : (m : Machine) (tick : ℕ) (s : Store) (moved changed : Vec ℕ Global) → IsStoreAt m tick s → vec_capacity moved ≡ vec_capacity s.moment.moved → vec_capacity changed ≡ vec_capacity s.moment.changed →
    IsStoreAt m tick (record s { moment = record s.moment { moved = moved; changed = changed } })
stands_with m tick s moved changed stands moved_room changed_room =
    let fits = stands.fits in
    record {
      fits = record {
        own_conditions = fits.own_conditions;
        uses = fits.uses;
        lines = fits.lines;
        levels = fits.levels;
        slopes = fits.slopes;
        weights = fits.weights;
        places = fits.places;
        values = fits.values;
        before = fits.before;
        lists = record {
          moved = omega (arith, moved_room, fits.lists.moved);
          changed = omega (arith, changed_room, fits.lists.changed);
          fired = fits.lists.fired;
          assigned = fits.lists.assigned;
        };
        log = fits.log;
        rows = fits.rows;
      };
      stands_for = stands.stands_for;
      own_slopes = stands.own_slopes;
      own_weights = stands.own_weights;
      rising = stands.rising;
      alike = stands.alike;
    }

-- ---- the step

-- the snapshot that a tick leads to, if nothing overflows
abbrev pub end_of : Machine → ℕ → Snapshot → HandlerState → List ℤ → Snapshot
end_of m tick w h levels = record {
  states = h.states;
  levels = levels;
  discretes = h.discretes;
  at_arrival = truths m (moved_states m w) w.discretes tick;
  after_handlers = truths m h.states h.discretes tick;
}

-- a step that overflows in its handlers
pub overflows_early : (Rule : ℤ → ℤ → ℤ → ℤ → Type 0) (m : Machine) (tick : ℕ) (w next : Snapshot) (var : ℕ) → (handlers_at m tick w).overflow ≡ Some var →
    IsStep Rule m tick w (snapshot_unless (Some var) next)
overflows_early Rule m tick w next var e = (
  [],
  (λ none. let both : Some var ≡ None = sym e ∙ none in absurd (cc)),
  ap (λ o. snapshot_unless (option_or o (option_or (first_exceeding 43 []) (position (exceeds_row_limits m [] (handlers_at m tick w).discretes) m.rows))) (end_of m tick w (handlers_at m tick w) [])) (sym e),
)

-- a step that overflows at its levels or its rows
pub overflows_late : (Rule : ℤ → ℤ → ℤ → ℤ → Type 0) (m : Machine) (tick : ℕ) (w next : Snapshot) (h : HandlerState) (levels : List ℤ) (var : ℕ) →
    h ≡ handlers_at m tick w → h.overflow ≡ None → AreNextLevels Rule m h.states w.levels levels →
    Some var ≡ option_or (first_exceeding 43 levels) (position (exceeds_row_limits m levels h.discretes) m.rows) →
    IsStep Rule m tick w (snapshot_unless (Some var) next)
overflows_late Rule m tick w next h levels var is calm allowed over =
    subst (λ (g : HandlerState). (levels : List ℤ) × (g.overflow ≡ None → AreNextLevels Rule m g.states w.levels levels) × (snapshot_unless (Some var) next ≡ finish_tick m tick w g levels)) is (
      levels,
      (λ none. allowed),
      ap (λ o. snapshot_unless o (end_of m tick w h levels)) over
          ∙ ap (λ o. snapshot_unless (option_or o (option_or (first_exceeding 43 levels) (position (exceeds_row_limits m levels h.discretes) m.rows))) (end_of m tick w h levels)) (sym calm),
    )

-- a step to a snapshot
pub steps_to : (Rule : ℤ → ℤ → ℤ → ℤ → Type 0) (m : Machine) (tick : ℕ) (w next : Snapshot) (h : HandlerState) (levels : List ℤ) →
    h ≡ handlers_at m tick w → h.overflow ≡ None → AreNextLevels Rule m h.states w.levels levels →
    None ≡ option_or (first_exceeding 43 levels) (position (exceeds_row_limits m levels h.discretes) m.rows) →
    next ≡ end_of m tick w h levels → IsStep Rule m tick w (Ok next)
steps_to Rule m tick w next h levels is calm allowed over end =
    subst (λ (g : HandlerState). (levels : List ℤ) × (g.overflow ≡ None → AreNextLevels Rule m g.states w.levels levels) × (Ok next ≡ finish_tick m tick w g levels)) is (
      levels,
      (λ none. allowed),
      ap (λ v. Ok v) end
          ∙ ap (λ o. snapshot_unless o (end_of m tick w h levels)) over
          ∙ ap (λ o. snapshot_unless (option_or o (option_or (first_exceeding 43 levels) (position (exceeds_row_limits m levels h.discretes) m.rows))) (end_of m tick w h levels)) (sym calm),
    )

-- what did not overflow exceeds no limit
pub both_none : (a b : Option ℕ) → None ≡ option_or a b → (a ≡ None) × (b ≡ None)
both_none None b e = (refl, sym e)
both_none (Some v) b e = absurd (cc)

-- the same for an overflow that is not known by its variable
pub early : (Rule : ℤ → ℤ → ℤ → ℤ → Type 0) (m : Machine) (tick : ℕ) (w next : Snapshot) (o : Option ℕ) → is_some o ≡ true → o ≡ (handlers_at m tick w).overflow →
    IsStep Rule m tick w (snapshot_unless o next)
early Rule m tick w next None some e = absurd (cc)
early Rule m tick w next (Some var) some e = overflows_early Rule m tick w next var (sym e)

pub late : (Rule : ℤ → ℤ → ℤ → ℤ → Type 0) (m : Machine) (tick : ℕ) (w next : Snapshot) (h : HandlerState) (levels : List ℤ) (o : Option ℕ) → is_some o ≡ true →
    h ≡ handlers_at m tick w → h.overflow ≡ None → AreNextLevels Rule m h.states w.levels levels →
    o ≡ option_or (first_exceeding 43 levels) (position (exceeds_row_limits m levels h.discretes) m.rows) → IsStep Rule m tick w (snapshot_unless o next)
late Rule m tick w next h levels None some is calm allowed e = absurd (cc)
late Rule m tick w next h levels (Some var) some is calm allowed e = overflows_late Rule m tick w next h levels var is calm allowed e

-- the levels are small
pub levels_small : (m : Machine) (tick : ℕ) (s : Store) → IsStoreAt m tick s → All (IsWithin 43) s.states.levels.items
levels_small m tick s stands k z h =
    subst (IsWithin 43) (get_or_default s.states.levels.items k (pos 0) z h) (stands.stands_for.left.small_levels k (omega (arith, h, stands.fits.levels)))
