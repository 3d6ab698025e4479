-- The ticks of the next transitions of all components, and a coupled model just before the least.
use Rattle.qss_devs.proofs.Common
use Common.{ℕ, ℤ, ◌*ℤ◌, ◌++◌, ◌+ℤ◌, ◌+◌, ◌-◌, ◌<◌, ◌∙◌, ◌≡◌, ◌≤◌, ap, AreEventFree, arith}
use Common.{arrived_then, Bool, cases_lt, Components, components_move, ComponentsRepresent}
use Common.{conditions, Crossing, crossing_at, crossing_of, CrossingModel, false, fill_by_all}
use Common.{function_state_at, function_state_of, FunctionModel, FunctionState, get_or, get_or-map}
use Common.{get_or_append_left, get_or_past, Global, if◌then◌else◌, inl, inr, int_at}
use Common.{int_at-tabulate, IntegratorModel, IsCrossingNext, IsLineNext, length, length-append}
use Common.{length-map, levels_of, Line, line_at, List, Machine, no_crossing, no_line, no_summing}
use Common.{None, Option, pos, quiet_worlds, refl, rises, Rule, slope_at, Snapshot, snapshot_after}
use Common.{snapshot_of, Some, state_at, state_count, states_at, Store, StoreRepresents, subst, suc}
use Common.{sym, tick_limit, truths, Vec, zero}
use Rattle.qss_components.specs.Agreement.{AreNext}
use Rattle.qss_events.specs.Schedules.{HasNoEventBefore, IsScheduleOf}
use Rattle.qss_events.specs.EventFreeTicks.{states_after}
use Rattle.qss_events.proofs.Silence.{line_more, silence, stands_still}
use Rattle.qss_events.proofs.Silences.{quiet_leads}
use Rattle.qss_components.proofs.Standing.{components_stand}
use Rattle.qss_devs.proofs.Lists.{at_twice}
use Rattle.std.proofs.lemmas.List.{get_or-append_right}

pub detector_of : {X : Type 0} {g : _} (parts : Components X g) (place : ℕ) (d : CrossingModel) → place < length parts.crossings.items → (crossing_at parts place).detector ≡ (get_or parts.crossings.items place d).detector
detector_of parts place d h = ap (λ (c : Crossing). c.detector) (get_or-map crossing_of parts.crossings.items place d no_crossing h)

-- a function's next transition by its place
pub summing_of_place : {X : Type 0} {g : _} (parts : Components X g) (j : ℕ) (d : FunctionModel) → j < length parts.functions.items → (function_state_at parts j).changed ≡ (get_or parts.functions.items j d).changed
summing_of_place {X} {g} parts j d h = ap (λ (f : FunctionState). f.changed) (get_or-map function_state_of parts.functions.items j d no_summing h)

module _ {X : Type 0} {g : _} (m : Machine) (tick : ℕ) (w : Snapshot) (parts : Components X g) (lines crossings : List (Option ℕ)) (many : length lines ≡ state_count m) (count : length crossings ≡ length (conditions m))
    (own_lines : (j : ℕ) → j < state_count m → IsLineNext m j (line_at parts j) (get_or lines j None))
    (own_crossings : (place : ℕ) → place < length (conditions m) → IsCrossingNext (crossing_at parts place).detector (get_or crossings place None)) where
  pub due_of : ℕ → Option ℕ
  due_of place = get_or (lines ++ crossings) place None

  line_due : (j : ℕ) → j < state_count m → due_of j ≡ get_or lines j None
  unfolding due_of
  line_due j h = get_or_append_left lines crossings None j (omega (arith, h, many))

  crossing_due : (place : ℕ) → due_of (state_count m + place) ≡ get_or crossings place None
  unfolding due_of
  crossing_due place =
      let e : (state_count m + place) - state_count m ≡ place = omega arith in
      get_or-append_right lines crossings (state_count m) (state_count m + place) None many (omega arith) ∙ ap (λ k. get_or crossings k None) e

  past_due : (place : ℕ) → state_count m + length (conditions m) ≤ place → due_of place ≡ None
  unfolding due_of
  past_due place h = get_or_past (lines ++ crossings) place None (omega (arith, h, many, count, length-append lines crossings))

  -- each due tick is that of a line or of a crossing
  each_due : (P : ℕ → Type 0) → ((j t : ℕ) → j < state_count m → IsLineNext m j (line_at parts j) (Some t) → P t) →
      ((k t : ℕ) → k < length (conditions m) → IsCrossingNext (crossing_at parts k).detector (Some t) → P t) →
      (place t : ℕ) → due_of place ≡ Some t → P t
  each_due P of_lines of_crossings place t e = elim (cases_lt place (state_count m)) [
    | inl below ↦ of_lines place t below (subst (IsLineNext m place (line_at parts place)) (sym (line_due place below) ∙ e) (own_lines place below))
    | inr past ↦ elim (cases_lt (place - state_count m) (length (conditions m))) [
      | inl inside ↦
          let k : ℕ = place - state_count m in
          let same : state_count m + k ≡ place = omega (arith, past) in
          let found : get_or crossings k None ≡ Some t = sym (crossing_due k) ∙ ap due_of same ∙ e in
          of_crossings k t inside (subst (IsCrossingNext (crossing_at parts k).detector) found (own_crossings k inside))
      | inr out ↦ let none : due_of place ≡ None = past_due place (omega (arith, past, out)) in absurd (cc)
    ]
  ]

  pub none_before : (visit : ℕ) → ((j t : ℕ) → j < state_count m → IsLineNext m j (line_at parts j) (Some t) → visit ≤ t) →
      ((k t : ℕ) → k < length (conditions m) → IsCrossingNext (crossing_at parts k).detector (Some t) → visit ≤ t) → HasNoEventBefore visit due_of
  none_before visit = each_due (λ t. visit ≤ t)

  pub are_next : rises w ≡ false → ((j t : ℕ) → j < state_count m → IsLineNext m j (line_at parts j) (Some t) → tick < t) →
      ((k t : ℕ) → k < length (conditions m) → IsCrossingNext (crossing_at parts k).detector (Some t) → tick < t) → AreNext m tick w (line_at parts) (crossing_at parts) due_of
  are_next calm of_lines of_crossings = record {
    lines = λ j h. subst (IsLineNext m j (line_at parts j)) (sym (line_due j h)) (own_lines j h);
    crossings = λ place h. subst (IsCrossingNext (crossing_at parts place).detector) (sym (crossing_due place)) (own_crossings place h);
    rising = past_due (state_count m + length (conditions m)) (omega arith) ∙ sym (ap (λ b. if b then Some (tick + 1) else None) calm);
    later = each_due (λ t. tick < t) of_lines of_crossings;
  }

-- ---- a coupled model just before its next event step

-- what was kept, with other truths on arrival
abbrev pub with_arrived : {X : Type 0} {g : _} → Store X g → Vec Bool Global → Store X g
with_arrived {X} {g} s at_arrival = record s { truths = record s.truths { at_arrival = at_arrival } }

module _ {X : Type 0} {g : _} (m : Machine) (name : Option Rule) (tick : ℕ) (s : Store X g) (stands : StoreRepresents m name tick s) where
  -- components by the ticks of their next transitions, of which none is before the next event step
  pub record Dues (visit : ℕ) : Type 0 where
    pub due : ℕ → Option ℕ
    pub are : AreNext m tick (snapshot_of tick s) (line_at s.parts) (crossing_at s.parts) due
    pub none : HasNoEventBefore visit due

  standing : tick ≤ tick_limit → (visit : ℕ) (dues : Dues visit) → IsScheduleOf m tick (snapshot_of tick s) (line_at s.parts) (λ place. (crossing_at s.parts place).detector) dues.due
  standing in_time visit dues =
      components_stand m tick (snapshot_of tick s) (line_at s.parts) (function_state_at s.parts) (crossing_at s.parts) dues.due in_time stands.left (length-map s.parts.integrators.items (λ (i : IntegratorModel X g). state_at i.line tick) ∙ stands.fits.parts.integrators) stands.fits.values.discretes stands.after_handlers stands.stand dues.are

  state_by : (t j : ℕ) → j < state_count m → int_at (states_at t s.parts) j ≡ state_at (line_at s.parts j) t
  state_by t j h =
      at_twice (λ (i : IntegratorModel X g). i.line) (λ (l : Line). state_at l t) s.parts.integrators.items j no_line (pos 0)
      (omega (arith, h, stands.fits.parts.integrators))

  states_later : (k : ℕ) → states_at (tick + k) s.parts ≡ states_after m (snapshot_of tick s) k
  states_later k =
      fill_by_all (λ j. int_at (states_at tick s.parts) j +ℤ pos k *ℤ slope_at m j (levels_of s.parts) s.work.d) (states_at (tick + k) s.parts) (state_count m) (pos 0)
      (length-map s.parts.integrators.items (λ (i : IntegratorModel X g). state_at i.line (tick + k)) ∙ stands.fits.parts.integrators) each
    where
      each : (j : ℕ) → j < state_count m → int_at (states_at (tick + k) s.parts) j ≡ int_at (states_at tick s.parts) j +ℤ pos k *ℤ slope_at m j (levels_of s.parts) s.work.d
      each j h =
          let own = stands.stand.agree.integrators j h in
          let line : Line = line_at s.parts j in
          let slope : line.slope ≡ slope_at m j (levels_of s.parts) s.work.d = own.own_slope ∙ int_at-tabulate (state_count m) (λ i. slope_at m i (levels_of s.parts) s.work.d) j h in
          state_by (tick + k) j h
          ∙ line_more line.x line.slope line.tick tick k own.not_later
          ∙ rw (own.here, slope)

  pub snapshot_then : (ticks : ℕ) (at_arrival : Vec Bool Global) → at_arrival.items ≡ arrived_then ticks s.truths.at_arrival.items s.truths.after_handlers.items →
      snapshot_of (tick + ticks) (with_arrived s at_arrival) ≡ snapshot_after m (snapshot_of tick s) ticks
  snapshot_then zero at_arrival is =
      let e : tick + 0 ≡ tick = omega arith in
      rw (e, is)
  snapshot_then (suc ticks) at_arrival is = rw (states_later (suc ticks), is)

  -- each condition holds as after the last handlers
  still_settled : (ticks : ℕ) → tick + ticks < m.last → (0 < ticks → Dues (tick + ticks + 1)) → s.truths.after_handlers.items ≡ truths m (snapshot_after m (snapshot_of tick s) ticks).states s.work.d (tick + ticks)
  still_settled zero before dues =
      let e : tick ≡ tick + 0 = omega arith in
      stands.after_handlers ∙ ap (truths m (states_at tick s.parts) s.work.d) e
  still_settled (suc k) before dues =
      let d : Dues (tick + suc k + 1) = dues (omega arith) in
      (stands_still m tick (snapshot_of tick s) (line_at s.parts) (λ place. (crossing_at s.parts place).detector) d.due (tick + suc k) (suc k)
      (standing (omega (arith, before, m.has_units.last_tick)) (tick + suc k + 1) d) (omega arith) (omega (arith, before, m.has_units.last_tick))
      (λ place t e. omega (arith, d.none place t e)) (omega arith)).after_handlers

  pub stands_then : (ticks : ℕ) (at_arrival : Vec Bool Global) → tick + ticks < m.last → (0 < ticks → Dues (tick + ticks + 1)) →
      at_arrival.items ≡ arrived_then ticks s.truths.at_arrival.items s.truths.after_handlers.items →
      ((j next : ℕ) → j < state_count m → IsLineNext m j (line_at s.parts j) (Some next) → tick + ticks < next) →
      ((place next : ℕ) → place < length (conditions m) → IsCrossingNext (crossing_at s.parts place).detector (Some next) → tick + ticks < next) →
      StoreRepresents m name (tick + ticks) (with_arrived s at_arrival)
  stands_then ticks at_arrival before dues is lines crossings =
      let same = snapshot_then ticks at_arrival is in
      record {
        fits = record {
          parts = stands.fits.parts;
          ruled = stands.fits.ruled;
          values = stands.fits.values;
          work_room = stands.fits.work_room;
          flags = record { current = stands.fits.flags.current; at_arrival = ap length is ∙ many ticks; after_handlers = stands.fits.flags.after_handlers };
          row_room = stands.fits.row_room;
        };
        stand = subst (λ (v : Snapshot). ComponentsRepresent m (tick + ticks) v (line_at s.parts) (function_state_at s.parts) (crossing_at s.parts)) (sym same)
            (components_move m tick ticks (snapshot_of tick s) (line_at s.parts) (function_state_at s.parts) (crossing_at s.parts) stands.stand);
        left = record { one_each = stands.left.one_each; small_levels = stands.left.small_levels; light = stands.left.light };
        after_handlers = still_settled ticks before dues ∙ ap (λ (v : Snapshot). truths m v.states s.work.d (tick + ticks)) (sym same);
        lines = λ j next h is_next. lines j next h is_next;
        crossings = λ place next h is_next. crossings place next h is_next;
      }
    where
      many : (k : ℕ) → length (arrived_then k s.truths.at_arrival.items s.truths.after_handlers.items) ≡ length (conditions m)
      many zero = stands.fits.flags.at_arrival
      many (suc k) = stands.fits.flags.after_handlers

  pub silent_then : (Rule : ℤ → ℤ → ℤ → ℤ → Type 0) (ticks : ℕ) → tick + ticks < m.last → (0 < ticks → Dues (tick + ticks + 1)) →
      AreEventFree Rule m tick (snapshot_of tick s) (quiet_worlds m (snapshot_of tick s) ticks) (tick + ticks) (snapshot_after m (snapshot_of tick s) ticks)
  silent_then Rule zero before dues = record { leads = tt; as_many = refl; reached = refl }
  silent_then Rule (suc k) before dues =
      let d : Dues (tick + suc k + 1) = dues (omega arith) in
      let quiet = silence m tick (snapshot_of tick s) (line_at s.parts) (λ place. (crossing_at s.parts place).detector) d.due (tick + suc k)
      (standing (omega (arith, before, m.has_units.last_tick)) (tick + suc k + 1) d) (omega arith) (omega (arith, before, m.has_units.last_tick))
      (λ place t e. omega (arith, d.none place t e)) in
      quiet_leads Rule m tick (snapshot_of tick s) (suc k) stands.left quiet.0 (λ t positive below. quiet.1 t positive (omega (arith, below)))
