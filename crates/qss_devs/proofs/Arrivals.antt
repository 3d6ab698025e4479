-- A coupled model on arrival at the next tick, and what its handlers leave.
use Rattle.qss_devs.proofs.Common
use Common.{[], ℕ, ℤ, ◌+ℤ◌, ◌+◌, ◌<◌, ◌^◌, ◌∙◌, ◌≡◌, Agrees, all_within, ap, AreComponents}
use Common.{AreReady, AreSmallAt, AreValuesOf, arith, arrived_values, Bool, clauses_stay, compares}
use Common.{Components, components_move, ComponentsRepresent, Condition, condition_at, conditions}
use Common.{crossing_at, crossings_tell, CrossingsLater, discrete_count, Err, exceeds_row_limits}
use Common.{false, firing_flags, first_exceeding, flag_at, function_state_at, get_or, get_or-map}
use Common.{handlers_at, HandlerState, handling_of, HasEach, holds_at, Input, input_at, int_at}
use Common.{IntegratorModel, IsAllowedLevel, IsCrossingNext, IsLineNext, IsStep, IsSummingReady}
use Common.{IsTimely, IsWithin, length, length-map, length-map-range_with_len, Less, Line, line_at}
use Common.{List, Machine, map, moved_states, Moving, moving_state, None, Option, option_or, pos}
use Common.{position, Rule, run_clauses, slope_at, slopes_of, Snapshot, snapshot_after, snapshot_of}
use Common.{snapshot_unless, Some, state_at, state_count, states_at, Store, StoreRepresents, subst}
use Common.{sym, truths, truths_are}
use Rattle.qss_machine.specs.Machines.{truth}
use Rattle.qss_hand.specs.Values.{Values as Kept}
use Rattle.qss_events.proofs.Quiet.{moved_is}
use Rattle.qss_devs.proofs.TickEnds.{states_are}
use Rattle.qss_devs.proofs.Stays.{holds_still}

-- if a state overflows on arrival, no branch fires
pub arrival_over : (m : Machine) (tick : ℕ) (w : Snapshot) (var : ℕ) →
    Some var ≡ first_exceeding 88 (moved_states m w) → Some var ≡ (handlers_at m tick w).overflow
arrival_over m tick w var is =
    is
    ∙ sym (ap (λ (h : HandlerState). h.overflow)
    (clauses_stay m tick w.discretes 0
    (record {
      states = moved_states m w;
      discretes = w.discretes;
      rows = [];
      overflow = first_exceeding 88 (moved_states m w);
    }) var m.clauses
    (firing_flags (truths m (moved_states m w) w.discretes tick) w.at_arrival w.after_handlers)
    (sym is)))

module _ {X : Type 0} {g : _} {m : Machine} {name : Option Rule} {tick : ℕ} {s : Store X g}
    (stands : StoreRepresents m name tick s) (before : tick < m.last) where
  abbrev w : Snapshot
  w = snapshot_of tick s

  last : m.last < 2 ^ 32
  last = m.has_units.last_tick

  pub discretes_many : length w.discretes ≡ discrete_count m
  discretes_many = stands.fits.values.discretes

  moved_stand : ComponentsRepresent m (tick + 1) (snapshot_after m w 1) (line_at s.parts) (function_state_at s.parts) (crossing_at s.parts)
  moved_stand = components_move m tick 1 w (line_at s.parts) (function_state_at s.parts) (crossing_at s.parts) stands.stand

  moved_many : length (moved_states m w) ≡ state_count m
  moved_many = length-map-range_with_len (λ j. int_at w.states j +ℤ slope_at m j w.levels w.discretes) 0 (state_count m)

  -- the components agree with the values on arrival
  pub arrived_agree : Agrees m (tick + 1) (arrived_values m w) s.parts
  arrived_agree =
      subst (λ (xs : List ℤ). Agrees m (tick + 1) (record { states = xs; slopes = slopes_of m w; levels = w.levels; discretes = w.discretes }) s.parts) (sym (moved_is m w)) moved_stand.agree

  pub arrived_each : HasEach m (arrived_values m w)
  arrived_each = record {
    states = moved_many;
    slopes = length-map-range_with_len (λ j. slope_at m j w.levels w.discretes) 0 (state_count m);
    levels = stands.left.one_each;
    discretes = discretes_many;
  }

  -- the lines lead to the states on arrival
  pub arrived_states : states_at (tick + 1) s.parts ≡ moved_states m w
  arrived_states = states_are m (tick + 1) (arrived_values m w) s.parts stands.fits.parts arrived_agree moved_many

  found_arrived : (xs : List (IntegratorModel X g)) → xs ≡ s.parts.integrators.items →
      map (λ (i : IntegratorModel X g). state_at i.line (tick + 1)) xs ≡ moved_states m w
  found_arrived xs is = rw is arrived_states

  -- the first state that overflows on arrival
  pub over_arrived : (xs : List (IntegratorModel X g)) (over : Option ℕ) → xs ≡ s.parts.integrators.items →
      over ≡ first_exceeding 88 (map (λ (i : IntegratorModel X g). state_at i.line (tick + 1)) xs) →
      over ≡ first_exceeding 88 (moved_states m w)
  over_arrived xs over is found = found ∙ ap (first_exceeding 88) (found_arrived xs is)

  -- crossings may be read
  pub crossing_timely : (place : ℕ) → place < length (conditions m) → IsTimely (crossing_at s.parts place).detector.tick (IsCrossingNext (crossing_at s.parts place).detector) (tick + 1)
  crossing_timely place h = record {
    not_before = omega (arith, (stands.stand.agree.crossings place h).not_later);
    in_time = omega (arith, before, last);
    not_past = λ next found. omega (arith, stands.crossings place next h found);
  }

  pub crossing_held : (place : ℕ) → place < length (conditions m) → flag_at s.truths.after_handlers.items place ≡ compares (crossing_at s.parts place).detector.rel (crossing_at s.parts place).detector.value
  crossing_held place h =
      let none : Condition = record { form = record { entries = []; time = pos 0; gamma = pos 0 }; rel = Less } in
      ap (λ (flags : List Bool). flag_at flags place) stands.after_handlers
      ∙ get_or-map (λ (condition : Condition). truth m condition w.states w.discretes tick) (conditions m) place none false h
      ∙ sym (crossings_tell m tick place w (line_at s.parts) (function_state_at s.parts) (crossing_at s.parts) (length-map s.parts.integrators.items (λ i. state_at i.line tick) ∙ stands.fits.parts.integrators) discretes_many h stands.stand)
      ∙ holds_still (crossing_at s.parts place).detector tick (stands.stand.agree.crossings place h).not_later (omega (arith, before, last)) (λ next found. stands.crossings place next h found)

  -- the truth values that they send are those of the conditions on arrival
  pub arrived_truths : (now : List Bool) → length now ≡ length (conditions m) →
      ((place : ℕ) → place < length (conditions m) → flag_at now place ≡ holds_at (crossing_at s.parts place).detector (tick + 1)) → now ≡ truths m (moved_states m w) w.discretes (tick + 1)
  arrived_truths now many received =
      truths_are m (moved_states m w) w.discretes (tick + 1) now many (λ k here.
      received k here
      ∙ crossings_tell m (tick + 1) k (snapshot_after m w 1) (line_at s.parts) (function_state_at s.parts) (crossing_at s.parts) (ap length (sym (moved_is m w)) ∙ moved_many) discretes_many here moved_stand
      ∙ ap (λ (xs : List ℤ). truth m (condition_at m k) xs w.discretes (tick + 1)) (sym (moved_is m w)))

  -- what handlers work on
  abbrev pub begun : Kept
  begun = record s.work { x = moved_states m w; pre = s.work.d; tick = tick + 1; log = [] }

  pub begun_fits : (v : Kept) → v ≡ begun → first_exceeding 88 (moved_states m w) ≡ None → AreValuesOf m v
  begun_fits v is within = subst (AreValuesOf m) (sym is) (record {
    states = moved_many;
    discretes = stands.fits.values.discretes;
    before = stands.fits.values.discretes;
    small_states = all_within 88 (moved_states m w) within;
    small_discretes = stands.fits.values.small_discretes;
    small_before = stands.fits.values.small_discretes;
    in_time = omega (arith, before, last);
  })

  pub begun_is : (xs : List (IntegratorModel X g)) (u v : Kept) → xs ≡ s.parts.integrators.items →
      u ≡ record s.work { pre = s.work.d; tick = tick + 1; log = [] } →
      v ≡ record u { x = map (λ (i : IntegratorModel X g). state_at i.line (tick + 1)) xs } → v ≡ begun
  begun_is xs u v is begin found = found ∙ rw (begin, found_arrived xs is)

  pub handled_is : (v : Kept) (now : List Bool) → v ≡ begun → first_exceeding 88 (moved_states m w) ≡ None → now ≡ truths m (moved_states m w) w.discretes (tick + 1) →
      run_clauses m v.tick v.pre 0 (handling_of v) m.clauses (firing_flags now w.at_arrival w.after_handlers) ≡ handlers_at m (tick + 1) w
  handled_is v now is within of_now = rw (is, of_now, within)

  -- where no state overflows on arrival, what the crossings read is within the limits
  module _ (within : first_exceeding 88 (moved_states m w) ≡ None) (new : Components X g) (new_are : AreComponents m new) (same_lines : (j : ℕ) → j < state_count m → line_at new j ≡ line_at s.parts j)
      (same_summings : (j : ℕ) → j < state_count m → function_state_at new j ≡ function_state_at s.parts j) (agree : Agrees m (tick + 1) (arrived_values m w) new) (later : CrossingsLater m (tick + 1) (crossing_at new)) where
    small_inputs : (place : ℕ) → place < length (conditions m) → AreSmallAt m (crossing_at new place).inputs (tick + 1)
    small_inputs place h k d inside var =
        let i : Input = get_or (crossing_at new place).inputs k d in
        let own = (agree.crossings place h).lines k d inside in
        let here : input_at (tick + 1) i ≡ int_at (moved_states m w) i.var = ap (λ (moving : Moving). moving.at) (own.here ∙ moving_state m (arrived_values m w) i.var var) in
        subst (IsWithin 88) (sym here) (all_within 88 (moved_states m w) within i.var (pos 0) (omega (arith, var, moved_many)))

    pub arrived_ready : AreReady m (tick + 1) new
    arrived_ready = record {
      parts = new_are;
      in_time = omega (arith, before, last);
      integrators = λ j h. subst (λ (l : Line). IsTimely l.tick (IsLineNext m j l) (tick + 1)) (sym (same_lines j h)) (record {
        not_before = omega (arith, (stands.stand.agree.integrators j h).not_later);
        in_time = omega (arith, before, last);
        not_past = λ next found. omega (arith, stands.lines j next h found);
      });
      functions = λ j h. subst (IsSummingReady (tick + 1)) (sym (same_summings j h)) (record {
        not_later = omega (arith, (stands.stand.agree.functions j h).not_later);
        now = λ next found. let none : (function_state_at s.parts j).changed ≡ None = stands.stand.sent j h in absurd (cc);
      });
      crossings = λ place h. record {
        not_later = (agree.crossings place h).not_later;
        later = λ next found. later place next h found;
        small = small_inputs place h;
      };
    }

-- the step of a tick whose handlers overflow
pub over_step : (m : Machine) (name : Option Rule) (tick : ℕ) (w : Snapshot) (var : ℕ) →
    Some var ≡ (handlers_at m tick w).overflow → IsStep (IsAllowedLevel name) m tick w (Err var)
over_step m name tick w var is = (
  [],
  (λ none. absurd (cc)),
  ap (λ o. snapshot_unless (option_or o
      (option_or (first_exceeding 43 [])
      (position (exceeds_row_limits m [] (handlers_at m tick w).discretes) m.rows)))
      (record {
        states = (handlers_at m tick w).states;
        levels = [];
        discretes = (handlers_at m tick w).discretes;
        at_arrival = truths m (moved_states m w) w.discretes tick;
        after_handlers = truths m (handlers_at m tick w).states (handlers_at m tick w).discretes tick;
      })) is,
)
