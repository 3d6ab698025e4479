-- Before the next due tick no event occurs.
use Rattle.qss_events.proofs.Common
use Common.{[], ℕ, ℤ, ◌*ℤ◌, ◌+ℤ◌, ◌+◌, ◌-◌, ◌<◌, ◌∙◌, ◌≡◌, ◌≢◌, ◌≤ℤ◌, ◌≤◌, ap, arith, Bool}
use Common.{Condition, condition_at, conditions, false, fill_by_all, FirstAfter, flag_at}
use Common.{get_or-map, HasNoEventUpTo, if◌then◌else◌, int_at, int_at-tabulate, int_lt-false, ints}
use Common.{is_within_quantum, IsAway, IsEventFree, IsScheduleOf, length, length-map}
use Common.{length-map-range_with_len, Less, level_unit, Line, Machine, None, NoneRises, Option}
use Common.{pos, quantum_of, refl, slope_at, Snapshot, snapshot_after, Some, state_at, state_count}
use Common.{states_after, subst, suc, sym, tick_limit, true, truth, truths, value_of, zero}
use Rattle.std.specs.Int.RustNames.{int_lt}
use Rattle.mu_num.proofs.Integers.{add-mul}
use Rattle.qss_machine.specs.Machines.{compares}
use Rattle.qss_cross.specs.Crossing.{DetectorView, value_at, holds_at}
use Rattle.qss_events.specs.Schedules.{rises, NoEventBeforeDue, SchedulesHold}
use Rattle.qss_events.proofs.Lines.{value_line}
use Rattle.qss_events.proofs.Skipped.{settled_twice}

-- before what was found nothing holds
not_yet : (P : ℕ → Type 0) (from end t : ℕ) (found : Option ℕ) → FirstAfter P from found → ((u : ℕ) → found ≡ Some u → end < u) →
    from < t → t ≤ end → end ≤ tick_limit → P t → ⊥
not_yet P from end t None none later after below in_time p = none t after (omega arith) p
not_yet P from end t (Some u) some later after below in_time p = some.first t after (omega (arith, later u refl, below)) p

-- what is found after a tick is found after a later tick before it
pub from_later : (P : ℕ → Type 0) (from to : ℕ) (found : Option ℕ) → from ≤ to → ((u : ℕ) → found ≡ Some u → to < u) → FirstAfter P from found → FirstAfter P to found
from_later P from to None h later none = λ t after in_time p. none t (omega (arith, h, after)) in_time p
from_later P from to (Some u) h later some = record {
  later = later u refl;
  in_time = some.in_time;
  holds = some.holds;
  first = λ t after before p. some.first t (omega (arith, h, after)) before p;
}

-- a line some ticks on
pub line_more : (x s : ℤ) (old tick k : ℕ) → old ≤ tick → x +ℤ pos ((tick + k) - old) *ℤ s ≡ (x +ℤ pos (tick - old) *ℤ s) +ℤ pos k *ℤ s
line_more x s old tick k h =
    let split : pos ((tick + k) - old) ≡ pos (tick - old) +ℤ pos k = omega (arith, ints) in
    let product : pos ((tick + k) - old) *ℤ s ≡ pos (tick - old) *ℤ s +ℤ pos k *ℤ s = ap (λ z. z *ℤ s) split ∙ add-mul (pos (tick - old)) (pos k) s in
    omega (arith, ints, product)

less_yes : (a b : ℤ) (test : Bool) → int_lt a b ≡ test → (b ≤ℤ a → ⊥) → int_lt a b ≡ true
less_yes a b true e not = e
less_yes a b false e not = absurd (not (int_lt-false a b e))

-- flags that do not differ
pub same_flag : (a b : Bool) → (a ≢ b → ⊥) → a ≡ b
same_flag true true h = refl
same_flag true false h = absurd (h (λ e. absurd (cc)))
same_flag false true h = absurd (h (λ e. absurd (cc)))
same_flag false false h = refl

-- the state that a line leads to
pub line_state_at : (m : Machine) (tick : ℕ) (w : Snapshot) (line : ℕ → Line) (detector : ℕ → DetectorView) (due : ℕ → Option ℕ) → IsScheduleOf m tick w line detector due →
    (j ticks : ℕ) → j < state_count m → state_at (line j) (tick + ticks) ≡ int_at (states_after m w ticks) j
line_state_at m tick w line detector due s j ticks h =
    let l = s.lines j h in
    line_more (line j).x (line j).slope (line j).tick tick ticks l.not_later
    ∙ ap (λ z. z +ℤ pos ticks *ℤ (line j).slope) l.here
    ∙ ap (λ z. int_at w.states j +ℤ pos ticks *ℤ z) l.own_slope
    ∙ sym (int_at-tabulate (state_count m) (λ j. int_at w.states j +ℤ pos ticks *ℤ slope_at m j w.levels w.discretes) j h)

-- a state whose due tick is later is still near its level
pub still_near : (m : Machine) (tick : ℕ) (w : Snapshot) (line : ℕ → Line) (detector : ℕ → DetectorView) (due : ℕ → Option ℕ) (end ticks j : ℕ) →
    IsScheduleOf m tick w line detector due → 0 < ticks → tick + ticks ≤ end → end ≤ tick_limit → j < state_count m →
    ((u : ℕ) → due j ≡ Some u → end < u) → is_within_quantum m j (int_at (states_after m w ticks) j) (int_at w.levels j) ≡ true
still_near m tick w line detector due end ticks j s some below in_time h nothing =
    let l = s.lines j h in
    let P : ℕ → Type 0 = λ t. IsAway (level_unit m) (state_at (line j) t) (line j).level (quantum_of m j (line j).level) in
    let stays : P (tick + ticks) → ⊥ = not_yet P tick end (tick + ticks) (due j) (s.dues j h) nothing (omega (arith, some)) below in_time in
    let at_level = subst (λ level. IsAway (level_unit m) (state_at (line j) (tick + ticks)) level (quantum_of m j level) → ⊥) l.own_level stays in
    less_yes _ _ _ refl (subst (λ x. IsAway (level_unit m) x (int_at w.levels j) (quantum_of m j (int_at w.levels j)) → ⊥) (line_state_at m tick w line detector due s j ticks h) at_level)

-- where the last place has no due tick up to some later tick, no condition became true during the
-- handlers
pub none_rises : (m : Machine) (tick : ℕ) (w : Snapshot) (line : ℕ → Line) (detector : ℕ → DetectorView) (due : ℕ → Option ℕ) (end : ℕ) → IsScheduleOf m tick w line detector due → tick < end →
    ((u : ℕ) → due (state_count m + length (conditions m)) ≡ Some u → end < u) → NoneRises w
none_rises m tick w line detector due end s later nothing = by_rises (rises w) refl
  where
    by_rises : (b : Bool) → rises w ≡ b → rises w ≡ false
    by_rises false e = e
    by_rises true e =
        let next : due (state_count m + length (conditions m)) ≡ Some (tick + 1) = s.rising ∙ ap (λ b. if b then Some (tick + 1) else None) e in
        absurd (omega (arith, nothing _ next, later))

-- the value that a detector leads to
pub watch_value_at : (m : Machine) (tick : ℕ) (w : Snapshot) (line : ℕ → Line) (detector : ℕ → DetectorView) (due : ℕ → Option ℕ) → IsScheduleOf m tick w line detector due →
    (place ticks : ℕ) → place < length (conditions m) →
    value_at (detector place) (tick + ticks) ≡ value_of m (condition_at m place).form (states_after m w ticks) w.discretes w.discretes (tick + ticks)
watch_value_at m tick w line detector due s place ticks h =
    let v = s.detectors place h in
    line_more (detector place).value (detector place).speed (detector place).tick tick ticks v.not_later
    ∙ ap (λ z. z +ℤ pos ticks *ℤ (detector place).speed) v.here
    ∙ ap (λ z. value_of m (condition_at m place).form w.states w.discretes w.discretes tick +ℤ pos ticks *ℤ z) v.own_speed
    ∙ sym (value_line m (condition_at m place).form tick w ticks s.states)

-- a condition whose due tick is later is still as after the last handlers
pub flag_still : (m : Machine) (tick : ℕ) (w : Snapshot) (line : ℕ → Line) (detector : ℕ → DetectorView) (due : ℕ → Option ℕ) (end ticks place : ℕ) →
    IsScheduleOf m tick w line detector due → 0 < ticks → tick + ticks ≤ end → end ≤ tick_limit → place < length (conditions m) →
    ((u : ℕ) → due (state_count m + place) ≡ Some u → end < u) →
    truth m (condition_at m place) (states_after m w ticks) w.discretes (tick + ticks) ≡ flag_at w.after_handlers place
flag_still m tick w line detector due end ticks place s some below in_time h nothing =
    let P : ℕ → Type 0 = λ t. holds_at (detector place) t ≢ flag_at w.after_handlers place in
    let held : holds_at (detector place) (tick + ticks) ≡ truth m (condition_at m place) (states_after m w ticks) w.discretes (tick + ticks) =
    ap (λ r. compares r (value_at (detector place) (tick + ticks))) (s.detectors place h).own_rel
    ∙ ap (compares (condition_at m place).rel) (watch_value_at m tick w line detector due s place ticks h) in
    sym held
    ∙ same_flag _ _ (not_yet P tick end (tick + ticks) (due (state_count m + place)) (s.changes place h) nothing (omega (arith, some)) below in_time)

module _ (m : Machine) (tick : ℕ) (w : Snapshot) (line : ℕ → Line) (detector : ℕ → DetectorView) (due : ℕ → Option ℕ) (end : ℕ)
    (s : IsScheduleOf m tick w line detector due) (later : tick < end) (in_time : end ≤ tick_limit) (nothing : HasNoEventUpTo end due) where
  calm : NoneRises w
  calm = none_rises m tick w line detector due end s later (nothing _)

  line_state : (j ticks : ℕ) → j < state_count m → state_at (line j) (tick + ticks) ≡ int_at (states_after m w ticks) j
  line_state j ticks h = line_state_at m tick w line detector due s j ticks h

  near_still : (ticks j : ℕ) → 0 < ticks → tick + ticks ≤ end → j < state_count m →
      is_within_quantum m j (int_at (states_after m w ticks) j) (int_at w.levels j) ≡ true
  near_still ticks j some below h = still_near m tick w line detector due end ticks j s some below in_time h (nothing j)

  settled_many : length w.after_handlers ≡ length (conditions m)
  settled_many = ap length s.after_handlers ∙ length-map (conditions m) (λ c. truth m c w.states w.discretes tick)

  truths_still : (ticks : ℕ) → 0 < ticks → tick + ticks ≤ end → truths m (states_after m w ticks) w.discretes (tick + ticks) ≡ w.after_handlers
  truths_still ticks some below =
      let none : Condition = record { form = record { entries = []; time = pos 0; gamma = pos 0 }; rel = Less } in
      let test = λ (c : Condition). truth m c (states_after m w ticks) w.discretes (tick + ticks) in
      fill_by_all (flag_at w.after_handlers) (truths m (states_after m w ticks) w.discretes (tick + ticks)) (length (conditions m)) false
      (length-map (conditions m) test)
      (λ place h. get_or-map test (conditions m) place none false h ∙ flag_still m tick w line detector due end ticks place s some below in_time h (nothing (state_count m + place)))
      ∙ sym (fill_by_all (flag_at w.after_handlers) w.after_handlers (length (conditions m)) false settled_many (λ place h. refl))

  quiet_still : (ticks : ℕ) → 0 < ticks → tick + ticks ≤ end → IsEventFree m tick w ticks
  quiet_still ticks some below = record { near = λ j h. near_still ticks j some below h; same = truths_still ticks some below }

  -- ---- the same lines and detectors later

  no_rising : due (state_count m + length (conditions m)) ≡ None
  no_rising = s.rising ∙ ap (λ b. if b then Some (tick + 1) else None) calm

  still : (ticks : ℕ) → tick + suc ticks ≤ end → IsScheduleOf m (tick + suc ticks) (snapshot_after m w (suc ticks)) line detector due
  still ticks below = record {
    left = record { one_each = s.left.one_each; small_levels = s.left.small_levels; light = s.left.light };
    states = length-map-range_with_len (λ j. int_at w.states j +ℤ pos (suc ticks) *ℤ slope_at m j w.levels w.discretes) 0 (state_count m);
    after_handlers = sym (truths_still (suc ticks) (omega arith) below);
    lines = λ j h. record {
      not_later = omega (arith, (s.lines j h).not_later);
      here = line_state j (suc ticks) h;
      own_slope = (s.lines j h).own_slope;
      own_level = (s.lines j h).own_level;
    };
    dues = λ j h. from_later _ tick (tick + suc ticks) (due j) (omega arith) (λ u e. omega (arith, nothing j u e, below)) (s.dues j h);
    detectors = λ place h. record {
      not_later = omega (arith, (s.detectors place h).not_later);
      here = watch_value_at m tick w line detector due s place (suc ticks) h;
      own_speed = (s.detectors place h).own_speed;
      own_rel = (s.detectors place h).own_rel;
    };
    changes = λ place h. from_later _ tick (tick + suc ticks) (due (state_count m + place)) (omega arith) (λ u e. omega (arith, nothing _ u e, below)) (s.changes place h);
    rising = no_rising ∙ sym (ap (λ b. if b then Some ((tick + suc ticks) + 1) else None) (settled_twice w.after_handlers));
  }

pub silence : NoEventBeforeDue
silence m tick w line detector due end s later in_time nothing =
    (calm m tick w line detector due end s later in_time nothing, quiet_still m tick w line detector due end s later in_time nothing)

pub stands_still : SchedulesHold
stands_still m tick w line detector due end zero s later in_time nothing below =
    let e : tick ≡ tick + zero = omega arith in
    subst (λ t. IsScheduleOf m t w line detector due) e s
stands_still m tick w line detector due end (suc ticks) s later in_time nothing below =
    still m tick w line detector due end s later in_time nothing ticks below
