-- Components that represent a snapshot are lines, detectors and due ticks that represent it.
use Rattle.qss_components.proofs.Common
use Common.{[], ℕ, ℤ, ◌*ℤ◌, ◌*◌, ◌++◌, ◌+ℤ◌, ◌+◌, ◌-◌, ◌<◌, ◌^◌, ◌∙◌, ◌∷◌, ◌≡◌, ◌≢◌, ◌≤◌, Agree}
use Common.{All, ap, arith, Bool, cases_lt, compares, Condition, condition_at, Crossing}
use Common.{CrossingAgrees, DetectorView, discrete_count, Entry, entry_of, false, FirstAfter}
use Common.{get_or, get_or-map, get_or_append_left, holds_at, if-false, if-true, if◌then◌else◌, inl}
use Common.{Input, input_at, inr, int_at, int_at-tabulate, ints, is_within_quantum, IsCrossingNext}
use Common.{IsLineNext, LeavesAt, length, length-map, length-map-range_with_len, Less, level_unit}
use Common.{Line, LineAgrees, List, Machine, map, MatchBool, Moving, moving_of, nat_lt, nat_tests}
use Common.{None, Option, pos, refl, same_flag, slope_at, slopes_of, Some, state_count, subst, suc}
use Common.{sum_over, sym, tabulate-same, tick_limit, true, value_at, Values, values_after, zero}
use Common.{zero-*ℤ}
use Rattle.std.proofs.lemmas.List.{get_or_past, get_or-append_right}
use Rattle.qss_machine.specs.Slopes.{weighted_sum}
use Rattle.qss_machine.specs.Machines.{inputs, value_of, speed_of, truth}
use Rattle.qss_machine.specs.Handlers.{conditions}
use Rattle.mu_num.specs.ListedPlaces.{flag_at}
use Rattle.qss_machine.specs.Ticks.{Snapshot}
use Rattle.qss_machine.proofs.SumLaws.{weighted_sum-entries}
use Rattle.qss_events.specs.EventFreeTicks.{snapshot_after}
use Rattle.qss_events.specs.Schedules.{IsLineOf, IsDue, IsDetectorOf, IsChange}
use Rattle.qss_events.proofs.Silence.{from_later}
use Rattle.qss_components.specs.Agreement.{values_of, ComponentsRepresent}
use Rattle.qss_components.specs.ComponentTheorems.{ComponentsStand, ComponentsMove, CrossingsTell}
use Rattle.qss_components.proofs.Agreement.{agreement_lasts}

-- a sum over inputs is one over their entries
sum_entries : (xs : List Input) (g : Input → ℤ) (f : ℕ → ℤ) → All (λ (i : Input). g i ≡ f i.var) xs →
    sum_over (λ (i : Input). i.coef *ℤ g i) xs ≡ sum_over (λ (entry : Entry). entry.coef *ℤ f entry.var) (map entry_of xs)
sum_entries [] g f same = refl
sum_entries (i ∷ xs) g f same =
    let first : i.coef *ℤ g i ≡ i.coef *ℤ f i.var = ap (λ z. i.coef *ℤ z) (same 0 i (omega arith)) in
    omega (arith, ints, first, sum_entries xs g f (λ k d h. same (suc k) d (omega arith)))

module _ (m : Machine) (tick : ℕ) (w : Snapshot) (states : length w.states ≡ state_count m) (discretes : length w.discretes ≡ discrete_count m) where
  abbrev v : Values
  v = values_of m w

  abbrev values : List ℤ
  values = inputs m w.states w.discretes w.discretes

  abbrev scaled : ℤ → ℤ
  scaled z = z *ℤ level_unit m

  abbrev rest : List ℤ
  rest = map scaled w.discretes ++ map scaled w.discretes

  many : length (map scaled w.discretes) ≡ discrete_count m
  many = length-map w.discretes scaled ∙ discretes

  -- a discrete value in the unit of states
  scaled_at : (g : ℕ) → int_at w.discretes g *ℤ level_unit m ≡ int_at (map scaled w.discretes) g
  scaled_at g = elim (cases_lt g (discrete_count m)) [ inl inside ↦ within inside | inr past ↦ beyond past ]
    where
      within : g < discrete_count m → int_at w.discretes g *ℤ level_unit m ≡ int_at (map scaled w.discretes) g
      within inside = sym (get_or-map scaled w.discretes g (pos 0) (pos 0) (omega (arith, inside, discretes)))

      beyond : discrete_count m ≤ g → int_at w.discretes g *ℤ level_unit m ≡ int_at (map scaled w.discretes) g
      beyond past =
          ap scaled (get_or_past w.discretes g (pos 0) (omega (arith, past, discretes)))
          ∙ zero-*ℤ (level_unit m)
          ∙ sym (get_or_past (map scaled w.discretes) g (pos 0) (omega (arith, past, many)))

  -- what an input agrees with is what forms read
  variable_at : (var : ℕ) → (moving_of m v var).at ≡ int_at values var
  variable_at var = elim (cases_lt var (state_count m)) [ inl low ↦ of_state low | inr high ↦ elim (cases_lt var (state_count m + discrete_count m)) [ inl inside ↦ of_discrete high inside | inr past ↦ of_before past ] ]
    where
      of_state : var < state_count m → (moving_of m v var).at ≡ int_at values var
      of_state low =
          let test : nat_lt var (state_count m) ≡ true = grind (arith, nat_tests) in
          ap (λ (r : Moving). r.at) (if-true (nat_lt var (state_count m)) _ _ test)
          ∙ sym (get_or_append_left w.states rest (pos 0) var (omega (arith, low, states)))

      right : state_count m ≤ var → int_at values var ≡ int_at rest (var - state_count m)
      right high = get_or-append_right w.states rest (state_count m) var (pos 0) states high

      of_discrete : state_count m ≤ var → var < state_count m + discrete_count m → (moving_of m v var).at ≡ int_at values var
      of_discrete high inside =
          let first : nat_lt var (state_count m) ≡ false = grind (arith, nat_tests) in
          let second : nat_lt var (state_count m + discrete_count m) ≡ true = grind (arith, nat_tests) in
          ap (λ (r : Moving). r.at) (if-false (nat_lt var (state_count m)) _ _ first ∙ if-true (nat_lt var (state_count m + discrete_count m)) _ _ second)
          ∙ scaled_at (var - state_count m)
          ∙ sym (get_or_append_left (map scaled w.discretes) (map scaled w.discretes) (pos 0) (var - state_count m) (omega (arith, many, high, inside)))
          ∙ sym (right high)

      of_before : state_count m + discrete_count m ≤ var → (moving_of m v var).at ≡ int_at values var
      of_before past =
          let first : nat_lt var (state_count m) ≡ false = grind (arith, nat_tests) in
          let second : nat_lt var (state_count m + discrete_count m) ≡ false = grind (arith, nat_tests) in
          let place : (var - state_count m) - discrete_count m ≡ var - (state_count m + discrete_count m) = omega arith in
          ap (λ (r : Moving). r.at) (if-false (nat_lt var (state_count m)) _ _ first ∙ if-false (nat_lt var (state_count m + discrete_count m)) _ _ second)
          ∙ scaled_at (var - (state_count m + discrete_count m))
          ∙ ap (λ n. int_at (map scaled w.discretes) n) (sym place)
          ∙ sym (get_or-append_right (map scaled w.discretes) (map scaled w.discretes) (discrete_count m) (var - state_count m) (pos 0) many (omega (arith, past)))
          ∙ sym (right (omega (arith, past)))

  variable_speed : (var : ℕ) → (moving_of m v var).speed ≡ int_at (slopes_of m w) var
  variable_speed var = elim (cases_lt var (state_count m)) [ inl low ↦ of_state low | inr high ↦ of_other high ]
    where
      of_state : var < state_count m → (moving_of m v var).speed ≡ int_at (slopes_of m w) var
      of_state low =
          let test : nat_lt var (state_count m) ≡ true = grind (arith, nat_tests) in
          ap (λ (r : Moving). r.speed) (if-true (nat_lt var (state_count m)) _ _ test)

      still : (b : Bool) (x y : Moving) → x.speed ≡ pos 0 → y.speed ≡ pos 0 → (λ (r : Moving). r.speed) (if b then x else y) ≡ pos 0
      still true x y e f = e
      still false x y e f = f

      of_other : state_count m ≤ var → (moving_of m v var).speed ≡ int_at (slopes_of m w) var
      of_other high =
          let test : nat_lt var (state_count m) ≡ false = grind (arith, nat_tests) in
          ap (λ (r : Moving). r.speed) (if-false (nat_lt var (state_count m)) _ _ test)
          ∙ still (nat_lt var (state_count m + discrete_count m)) _ _ refl refl
          ∙ sym (get_or_past (slopes_of m w) var (pos 0) (omega (arith, high, length-map-range_with_len (λ j. slope_at m j w.levels w.discretes) 0 (state_count m))))

  module _ (place : ℕ) (condition : Condition) (c : Crossing) (a : CrossingAgrees m tick v place condition c) where
    at_lines : All (λ (i : Input). input_at tick i ≡ int_at values i.var) c.inputs
    at_lines k d h = let i = get_or c.inputs k d in ap (λ (r : Moving). r.at) (a.lines k d h).here ∙ variable_at i.var

    along_lines : All (λ (i : Input). i.speed ≡ int_at (slopes_of m w) i.var) c.inputs
    along_lines k d h = let i = get_or c.inputs k d in ap (λ (r : Moving). r.speed) (a.lines k d h).here ∙ variable_speed i.var

    value_is : value_at c.detector tick ≡ value_of m condition.form w.states w.discretes w.discretes tick
    value_is =
        let sum : sum_over (λ (i : Input). i.coef *ℤ input_at tick i) c.inputs ≡ weighted_sum condition.form.entries values =
        sum_entries c.inputs (input_at tick) (int_at values) at_lines
        ∙ ap (λ entries. sum_over (λ (entry : Entry). entry.coef *ℤ int_at values entry.var) entries) a.entries
        ∙ sym (weighted_sum-entries condition.form.entries values) in
        let time : c.time *ℤ pos (tick * 2 ^ (m.f + m.p)) ≡ condition.form.time *ℤ pos (tick * 2 ^ (m.f + m.p)) = ap (λ z. z *ℤ pos (tick * 2 ^ (m.f + m.p))) a.own_time in
        let constant : c.gamma *ℤ level_unit m ≡ condition.form.gamma *ℤ level_unit m = ap (λ z. z *ℤ level_unit m) a.own_constant in
        omega (arith, ints, a.here, sum, time, constant)

    speed_is : c.detector.speed ≡ speed_of m condition.form (slopes_of m w)
    speed_is =
        let sum : sum_over (λ (i : Input). i.coef *ℤ i.speed) c.inputs ≡ weighted_sum condition.form.entries (slopes_of m w) =
        sum_entries c.inputs (λ (i : Input). i.speed) (int_at (slopes_of m w)) along_lines
        ∙ ap (λ entries. sum_over (λ (entry : Entry). entry.coef *ℤ int_at (slopes_of m w) entry.var) entries) a.entries
        ∙ sym (weighted_sum-entries condition.form.entries (slopes_of m w)) in
        let time : c.time *ℤ pos (2 ^ (m.f + m.p)) ≡ condition.form.time *ℤ pos (2 ^ (m.f + m.p)) = ap (λ z. z *ℤ pos (2 ^ (m.f + m.p))) a.own_time in
        omega (arith, ints, a.own_speed, sum, time)

-- a state's line and its due tick
line_of : (m : Machine) (tick : ℕ) (w : Snapshot) (j : ℕ) (line : Line) → j < state_count m → LineAgrees tick (values_of m w) j line → IsLineOf m tick w j line
line_of m tick w j line h a = record {
  not_later = a.not_later;
  here = a.here;
  own_slope = a.own_slope ∙ int_at-tabulate (state_count m) (λ j. slope_at m j w.levels w.discretes) j h;
  own_level = a.own_level;
}

due_of : (m : Machine) (tick j : ℕ) (line : Line) (found : Option ℕ) → line.tick ≤ tick → ((next : ℕ) → found ≡ Some next → tick < next) → IsLineNext m j line found → IsDue m tick j line found
due_of m tick j line found early later next = by (is_within_quantum m j line.x line.level) refl
  where
    by : (b : Bool) → is_within_quantum m j line.x line.level ≡ b → IsDue m tick j line found
    by true e = from_later (LeavesAt m j line) line.tick tick found early later (subst (λ b. MatchBool b (FirstAfter (LeavesAt m j line) line.tick found) (found ≡ Some line.tick)) e next)
    by false e =
        let own : found ≡ Some line.tick = subst (λ b. MatchBool b (FirstAfter (LeavesAt m j line) line.tick found) (found ≡ Some line.tick)) e next in
        absurd (omega (arith, later line.tick own, early))

-- a detector still has the truth that it had at its tick, where it changes later
pub still_holds : (w : DetectorView) (tick : ℕ) (found : Option ℕ) → w.tick ≤ tick → tick ≤ tick_limit → ((next : ℕ) → found ≡ Some next → tick < next) → IsCrossingNext w found →
    holds_at w tick ≡ compares w.rel w.value
still_holds w tick found early in_time later next = elim (cases_lt w.tick tick) [ inl after ↦ by found after next later | inr past ↦ own (omega (arith, early, past)) ]
  where
    own : w.tick ≡ tick → holds_at w tick ≡ compares w.rel w.value
    own e =
        let none : tick - w.tick ≡ 0 = omega (arith, e) in
        let here : value_at w tick ≡ w.value = ap (λ n. w.value +ℤ pos n *ℤ w.speed) none ∙ omega (arith, ints, zero-*ℤ w.speed) in
        ap (compares w.rel) here

    by : (found : Option ℕ) → w.tick < tick → IsCrossingNext w found → ((next : ℕ) → found ≡ Some next → tick < next) → holds_at w tick ≡ compares w.rel w.value
    by None after none before = same_flag _ _ (none tick after in_time)
    by (Some next) after some before = same_flag _ _ (some.first tick after (before next refl))

pub components_move : ComponentsMove
components_move m tick zero w line s c stand = let same : tick + 0 ≡ tick = omega arith in subst (λ t. ComponentsRepresent m t w line s c) (sym same) stand
components_move m tick (suc k) w line s c stand = record {
  agree = subst (λ v. Agree m (tick + suc k) v line s c) moved (agreement_lasts m tick (suc k) (values_of m w) line s c stand.agree);
  sent = stand.sent;
}
  where
    moved : values_after m (values_of m w) (suc k) ≡ values_of m (snapshot_after m w (suc k))
    moved =
        ap (λ states. record { states = states; slopes = slopes_of m w; levels = w.levels; discretes = w.discretes })
        (tabulate-same (pos 0) (state_count m) (λ j. int_at w.states j +ℤ pos (suc k) *ℤ int_at (slopes_of m w) j) (λ j. int_at w.states j +ℤ pos (suc k) *ℤ slope_at m j w.levels w.discretes)
        (λ j h. ap (λ z. int_at w.states j +ℤ pos (suc k) *ℤ z) (int_at-tabulate (state_count m) (λ j. slope_at m j w.levels w.discretes) j h)))

pub crossings_tell : CrossingsTell
crossings_tell m tick place w line s c states discretes h stand =
    let a = stand.agree.crossings place h in
    ap (λ rel. compares rel (value_at (c place).detector tick)) a.own_rel
    ∙ ap (compares (condition_at m place).rel) (value_is m tick w states discretes place (condition_at m place) (c place) a)

pub components_stand : ComponentsStand
components_stand m tick w line s c due in_time left states discretes after_handlers stand next = record {
  left = left;
  states = states;
  after_handlers = after_handlers;
  lines = λ j h. line_of m tick w j (line j) h (stand.agree.integrators j h);
  dues = λ j h. due_of m tick j (line j) (due j) (stand.agree.integrators j h).not_later (next.later j) (next.lines j h);
  detectors = λ place h. watch_of place h;
  changes = λ place h. change_of place h;
  rising = next.rising;
}
  where
    watch_of : (place : ℕ) → place < length (conditions m) → IsDetectorOf m tick w place (c place).detector
    watch_of place h =
        let a = stand.agree.crossings place h in
        record {
          not_later = a.not_later;
          here = value_is m tick w states discretes place (condition_at m place) (c place) a;
          own_speed = speed_is m tick w states discretes place (condition_at m place) (c place) a;
          own_rel = a.own_rel;
        }

    settled_flag : (place : ℕ) → place < length (conditions m) → holds_at (c place).detector tick ≡ flag_at w.after_handlers place
    settled_flag place h =
        let none : Condition = record { form = record { entries = []; time = pos 0; gamma = pos 0 }; rel = Less } in
        crossings_tell m tick place w line s c states discretes h stand
        ∙ sym (get_or-map (λ (condition : Condition). truth m condition w.states w.discretes tick) (conditions m) place none false h)
        ∙ ap (λ flags. flag_at flags place) (sym after_handlers)

    same_truth : (place : ℕ) → place < length (conditions m) → holds_at (c place).detector tick ≡ compares (c place).detector.rel (c place).detector.value
    same_truth place h =
        still_holds (c place).detector tick (due (state_count m + place)) (stand.agree.crossings place h).not_later in_time (next.later (state_count m + place)) (next.crossings place h)

    change_of : (place : ℕ) → place < length (conditions m) → IsChange tick (flag_at w.after_handlers place) (c place).detector (due (state_count m + place))
    change_of place h =
        let detector : DetectorView = (c place).detector in
        let a = stand.agree.crossings place h in
        let found = due (state_count m + place) in
        let at_tick = from_later (λ t. holds_at (c place).detector t ≢ compares (c place).detector.rel (c place).detector.value) (c place).detector.tick tick found a.not_later (next.later (state_count m + place)) (next.crossings place h) in
        subst (λ flag. FirstAfter (λ t. holds_at (c place).detector t ≢ flag) tick found) (sym (same_truth place h) ∙ settled_flag place h) at_tick
