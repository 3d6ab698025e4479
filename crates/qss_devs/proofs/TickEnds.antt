-- What a tick leaves, from its handlers, the levels that were taken and the slopes that were sent.
use Rattle.qss_devs.proofs.Common
use Common.{ℕ, ℤ, ◌++◌, ◌<◌, ◌∙◌, ◌≡◌, ◌≤◌, Agrees, all_within, AllLinesLater, ap, AreComponents}
use Common.{AreNextLevels, AreReady, AreSent, AreTaken, AreValues, AreWithinQuanta, arith}
use Common.{arrived_values, Bool, compares, Components, ComponentsRepresent, Crossing, crossing_at}
use Common.{crossing_of, CrossingModel, crossings_tell, CrossingsLater, discrete_count, Err}
use Common.{exceeds_row_limits, false, firing_flags, first_exceeding, FitsMachine}
use Common.{function_state_at, handlers_at, HandlerState, HasEach, int_at, int_at-tabulate}
use Common.{IntegratorModel, IsAfterHandlers, IsAllowedLevel, IsStep, IsWithin, length, length-map}
use Common.{length-map-range_with_len, levels_of, Line, line_at, List, Machine, map, moved_states}
use Common.{no_crossing, no_line, None, Option, option_or, pos, position, Result, Row, Rule}
use Common.{same_lists, slope_at, slopes_of, Snapshot, snapshot_of, snapshot_unless, Some, state_at}
use Common.{state_count, states_at, Store, StoreRepresents, subst, sym, tabulate, tick_limit}
use Common.{tick_rows, truths, truths_are, Values, values_after_rows}
use Rattle.std.specs.Prelude.{Ok}
use Rattle.qss_events.proofs.LightRows.{row_is_light}
use Rattle.mu_num.proofs.Tests.{int_lt-yes}
use Rattle.qss_machine.specs.Runs.{level_rows}
use Rattle.qss_events.proofs.NextLevels.{next_is_near}
use Rattle.qss_components.proofs.Sent.{settled_stand}
use Rattle.qss_components.proofs.RowsTold.{rows_tell_handlers}
use Rattle.qss_devs.proofs.Lists.{at_twice}
use Rattle.qss_devs.proofs.Stays.{holds_still}

module _ (m : Machine) (tick : ℕ) (w : Snapshot) where
  abbrev handlers : HandlerState
  handlers = handlers_at m tick w

  -- the values after the handlers, which their rows list
  abbrev pub handled_values : Values
  handled_values = record { states = handlers.states; slopes = slopes_of m w; levels = w.levels; discretes = handlers.discretes }

  module _ (name : Option Rule) (none : handlers.overflow ≡ None) (levels : List ℤ) (allowed : AreNextLevels (IsAllowedLevel name) m handlers.states w.levels levels) where
    abbrev next : Snapshot
    next = record { states = handlers.states; levels = levels; discretes = handlers.discretes; at_arrival = truths m (moved_states m w) w.discretes tick; after_handlers = truths m handlers.states handlers.discretes tick }

    -- the tick has the result that the first variable past its limit says
    pub step_is : (result : Result Snapshot ℕ) → result ≡ snapshot_unless (option_or (first_exceeding 43 levels) (position (exceeds_row_limits m levels handlers.discretes) m.rows)) next → IsStep (IsAllowedLevel name) m tick w result
    step_is result e = (levels, (λ q. allowed), e ∙ rw none)

-- ---- the states and levels of components that agree with values

module _ {X : Type 0} {g : _} (m : Machine) (tick : ℕ) (v : Values) (parts : Components X g) (are : AreComponents m parts) (a : Agrees m tick v parts) where
  by_line : (f : Line → ℤ) (zs : List ℤ) → length zs ≡ state_count m → ((j : ℕ) → j < state_count m → f (line_at parts j) ≡ int_at zs j) → map (λ (i : IntegratorModel X g). f i.line) parts.integrators.items ≡ zs
  by_line f zs many each =
      let items : List (IntegratorModel X g) = parts.integrators.items in
      same_lists (pos 0) (map (λ (i : IntegratorModel X g). f i.line) items) zs
      (length-map items (λ (i : IntegratorModel X g). f i.line) ∙ are.integrators ∙ sym many)
      (λ k inside.
      let here : k < state_count m = omega (arith, inside, many) in
      at_twice (λ (i : IntegratorModel X g). i.line) f items k no_line (pos 0)
      (omega (arith, here, are.integrators)) ∙ each k here)

  pub states_are : length v.states ≡ state_count m → states_at tick parts ≡ v.states
  states_are many = by_line (λ line. state_at line tick) v.states many (λ j here. (a.integrators j here).here)

  pub component_levels : length v.levels ≡ state_count m → levels_of parts ≡ v.levels
  component_levels many = by_line (λ line. line.level) v.levels many (λ j here. (a.integrators j here).own_level)

-- ---- the conditions after the handlers

-- they hold as the crossings say that change only later
pub settled_are : {X : Type 0} {g : _} (m : Machine) (tick : ℕ) (w : Snapshot) (parts : Components X g) → AreComponents m parts → tick ≤ tick_limit → length w.states ≡ state_count m → length w.discretes ≡ discrete_count m →
    ComponentsRepresent m tick w (line_at parts) (function_state_at parts) (crossing_at parts) → CrossingsLater m tick (crossing_at parts) →
    map (λ (c : CrossingModel). compares c.detector.rel c.detector.value) parts.crossings.items ≡ truths m w.states w.discretes tick
settled_are {X} {g} m tick w parts are in_time states discretes stand later =
    let items : List CrossingModel = parts.crossings.items in
    truths_are m w.states w.discretes tick (map (λ (c : CrossingModel). compares c.detector.rel c.detector.value) items)
    (length-map items (λ (c : CrossingModel). compares c.detector.rel c.detector.value) ∙ are.crossings)
    (λ k here.
    at_twice crossing_of (λ (c : Crossing). compares c.detector.rel c.detector.value) items k no_crossing false (omega (arith, here, are.crossings))
    ∙ sym (holds_still (crossing_at parts k).detector tick (stand.agree.crossings k here).not_later in_time (λ next found. later k next here found))
    ∙ crossings_tell m tick k w (line_at parts) (function_state_at parts) (crossing_at parts) states discretes here stand)

-- ---- the store after the components made the transitions of a tick

abbrev snapshot : List ℤ → List ℤ → List ℤ → List Bool → List Bool → Snapshot
snapshot a b d e f =
    record { states = a; levels = b; discretes = d; at_arrival = e; after_handlers = f }

module _ {X : Type 0} {g : _} {m : Machine} {name : Option Rule} {tick : ℕ} {w : Snapshot}
    {s : Store X g} (h : IsAfterHandlers m name tick w s) where
  abbrev pub handled : Values
  handled = handled_values m tick w

  states_many : length handled.states ≡ state_count m
  states_many = ap length (sym h.states) ∙ h.fits.values.states

  discretes_many : length handled.discretes ≡ discrete_count m
  discretes_many = ap length (sym h.discretes) ∙ h.fits.values.discretes

  pub handled_fits : AreValues m handled
  handled_fits = record {
    each = record {
      states = states_many;
      slopes = length-map-range_with_len (λ j. slope_at m j w.levels w.discretes) 0 (state_count m);
      levels = h.left.one_each;
      discretes = discretes_many;
    };
    small = h.left.small_levels;
    slow = λ j inside.
        rw (int_at-tabulate (state_count m) (λ j. slope_at m j w.levels w.discretes) j inside)
        (row_is_light m w.levels w.discretes h.left.light j inside).slope;
  }

  -- components that received the assignments of handlers agree with the values after the handlers
  pub handled_agree : (parts : Components X g) → ((v : Values) → HasEach m v → Agrees m tick v s.parts
      → Agrees m tick (values_after_rows m v s.work.log) parts) → Agrees m tick handled parts
  handled_agree parts received =
      let told = rows_tell_handlers m tick (arrived_values m w) (first_exceeding 88 (moved_states m w)) (firing_flags (truths m (moved_states m w) w.discretes tick) w.at_arrival w.after_handlers) in
      subst (λ (v : Values). Agrees m tick v parts)
      (ap (values_after_rows m (arrived_values m w)) h.log ∙ told)
      (received (arrived_values m w) h.each h.agree)

  module _ {leveled : Components X g} {before after : List Row} {over : Option ℕ}
      (taken : AreTaken m name tick handled leveled before after over) where
    pub levels_step : (var : ℕ) → over ≡ Some var → IsStep (IsAllowedLevel name) m tick w (Err var)
    levels_step var is =
        step_is m tick w name h.none_over taken.levels taken.allowed (Err var)
        (rw (sym taken.own_over, is))

    module _ (none : over ≡ None) where
      small : first_exceeding 43 taken.levels ≡ None
      small = sym taken.own_over ∙ none

      abbrev pub taken_values : Values
      taken_values = record {
        states = handled.states;
        slopes = handled.slopes;
        levels = taken.levels;
        discretes = handled.discretes;
      }

      pub taken_fits : AreValues m taken_values
      taken_fits = record {
        each = record {
          states = states_many;
          slopes = handled_fits.each.slopes;
          levels = taken.allowed.one_each;
          discretes = discretes_many;
        };
        small = λ j inside.
            all_within 43 taken.levels small j (pos 0) (omega (arith, inside, taken.allowed.one_each));
        slow = handled_fits.slow;
      }

      pub taken_near : AreWithinQuanta m taken_values
      taken_near j inside =
          int_lt-yes _ _
          (next_is_near name m j (int_at handled.states j) (int_at w.levels j)
          (int_at taken.levels j) inside (taken.allowed.each j inside))

      module _ {parts : Components X g} {heavy : Option ℕ}
          (sent : AreSent m tick taken_values parts heavy) where
        pub slopes_step : (var : ℕ) → heavy ≡ Some var →
            IsStep (IsAllowedLevel name) m tick w (Err var)
        slopes_step var is =
            step_is m tick w name h.none_over taken.levels taken.allowed (Err var)
            (rw (small, sym sent.own_over, is))

-- a tick that ended: its step, its rows, and the store after it
pub record EndsTick {X : Type 0} {g : _} (m : Machine) (name : Option Rule) (tick : ℕ) (w : Snapshot)
    (next : Store X g) (rows : List Row) : Type 0 where
  pub step : IsStep (IsAllowedLevel name) m tick w (Ok (snapshot_of tick next))
  pub rows_are : rows ≡ tick_rows m tick w (snapshot_of tick next)
  pub represents : StoreRepresents m name tick next

pub ends_tick : {X : Type 0} {g : _} (m : Machine) (name : Option Rule) (tick : ℕ) (w : Snapshot)
    (s next : Store X g) (h : IsAfterHandlers m name tick w s) (leveled parts : Components X g)
    (before after : List Row) (over heavy : Option ℕ) →
    AreTaken m name tick (handled_values m tick w) leveled before after over → over ≡ None →
    ((v : Values) → AreValues m v → Agrees m tick v leveled → AreSent m tick v parts heavy) →
    heavy ≡ None → AreReady m tick parts →
    ((v : Values) → AreValues m v → Agrees m tick v leveled → AreWithinQuanta m v →
    AllLinesLater m tick (line_at parts)) →
    next.parts ≡ parts → next.work ≡ s.work →
    next.truths.at_arrival.items ≡ s.truths.current.items →
    next.truths.after_handlers.items
    ≡ map (λ (c : CrossingModel). compares c.detector.rel c.detector.value) parts.crossings.items →
    before ≡ s.work.log → FitsMachine m name next → EndsTick m name tick w next after
ends_tick {X} {g} m name tick w s next h leveled parts before after over heavy taken none sends light
    ready later of_parts of_work arrived settled of_log fits =
    let x : List ℤ = (handled h).states in
    let d : List ℤ = (handled h).discretes in
    let levels : List ℤ = taken.levels in
    let slope : ℕ → ℤ = λ j. slope_at m j levels d in
    let slopes : List ℤ = tabulate (state_count m) slope in
    let v : Values = record { states = x; slopes = slopes; levels = levels; discretes = d } in
    let last : Snapshot =
    snapshot x levels d (truths m (moved_states m w) w.discretes tick) (truths m x d tick) in
    let of_values = taken_fits h taken none in
    let leveled_agree = taken.agree none in
    let sent = sends (taken_values h taken none) of_values leveled_agree in
    let agree : Agrees m tick v parts = sent.agree light in
    let each : HasEach m v = record {
      states = states_many h;
      slopes = length-map-range_with_len slope 0 (state_count m);
      levels = taken.allowed.one_each;
      discretes = discretes_many h;
    } in
    let small : first_exceeding 43 levels ≡ None = sym taken.own_over ∙ none in
    let none_heavy : position (exceeds_row_limits m levels d) m.rows ≡ None =
    sym sent.own_over ∙ light in
    let slow : (j : ℕ) → j < state_count m → IsWithin 88 (int_at slopes j) =
    λ j inside.
    subst (IsWithin 88) (sym (int_at-tabulate (state_count m) slope j inside))
    (row_is_light m levels d none_heavy j inside).slope in
    let stand : ComponentsRepresent m tick last (line_at parts) (function_state_at parts) (crossing_at parts) =
    (settled_stand m tick last slopes (line_at parts) (function_state_at parts) (crossing_at parts) each
    agree (sent.sent light) slow).0 in
    let crossings : CrossingsLater m tick (crossing_at parts) =
    λ place n inside found. (ready.crossings place inside).later n found in
    let states : states_at tick parts ≡ x = states_are m tick v parts ready.parts agree each.states in
    let truths_are : next.truths.after_handlers.items ≡ truths m x d tick =
    settled
    ∙ settled_are m tick last parts ready.parts (omega (arith, ready.in_time)) each.states each.discretes
    stand crossings in
    let levels_of_parts = component_levels m tick v parts ready.parts agree each.levels in
    let arrival = arrived ∙ h.current in
    let is : snapshot_of tick next ≡ last =
    rw (of_parts, of_work, states, levels_of_parts, h.discretes, arrival, truths_are) in
    record {
      step =
          step_is m tick w name h.none_over levels taken.allowed (Ok (snapshot_of tick next))
          (ap (λ (u : Snapshot). Ok u) is ∙ rw (small, none_heavy));
      rows_are =
          taken.rows none
          ∙ ap (λ (l : List Row). l ++ level_rows tick w.levels levels x) (of_log ∙ h.log)
          ∙ sym (ap (tick_rows m tick w) is);
      represents = record {
        fits = fits;
        stand = rw (is, of_parts) stand;
        left = rw is (record {
          one_each = each.levels;
          small_levels = of_values.small;
          light = none_heavy;
        });
        after_handlers =
            rw (of_parts, of_work, states, h.discretes) truths_are;
        lines = rw of_parts (later (taken_values h taken none) of_values leveled_agree (taken_near h taken none));
        crossings = rw of_parts crossings;
      };
    }
