-- The components at the start represent the snapshot there; so does what a coupled model keeps.
use Rattle.qss_devs.proofs.Common
use Common.{[], ℕ, ℤ, ◌*ℤ◌, ◌+◌, ◌-◌, ◌<◌, ◌^◌, ◌∙◌, ◌∷◌, ◌≡◌, ◌≤◌, All, ap, AreComponents, arith}
use Common.{Bool, branch_at, cases_lt, clause_at, compares, ComponentsRepresent, Condition}
use Common.{condition_at, conditions, conditions_few, count_start, Crossing, crossing_at}
use Common.{crossing_of, CrossingAgrees, CrossingModel, CrossingsLater, discrete_count}
use Common.{DiscreteInfo, discretes_start, EachAt, Entry, exceeds_row_limits, false, first_input}
use Common.{first_line, first_place, FitsMachine, FitsSigned, function_state_at, function_state_of}
use Common.{FunctionState, get_or, get_or-map, HasEach, if-false, if◌then◌else◌, inl, Input, inr}
use Common.{int_at, int_at-tabulate, IntegratorModel, ints, IsFirstCrossing, IsFirstFunction}
use Common.{IsFirstIntegrator, IsGiven, IsLineNext, IsWithin, length, length-conditions, length-map}
use Common.{length-map-range_with_len, Less, level_unit, levels_of, levels_start, Line, line_at}
use Common.{LineAgrees, List, Machine, map, Moving, moving_state, nat_lt, nat_tests, near_later}
use Common.{no_crossing, no_line, no_row, no_summing, no_ticks, None, none_passes, Option, pos}
use Common.{Quantizer, refl, row_at, row_reads, row_room, slope_at, Snapshot, snapshot_of, Some}
use Common.{start_values, state_count, StateInfo, states_at, Store, StoreRepresents, subst, sum_by}
use Common.{sum_by_more, sum_of, sum_same, SummingAgrees, sym, take_all, true, truths, vec_capacity}
use Common.{w128, w64, width_of}
use Rattle.qss_devs.specs.Starts.{first_crossing, first_summing}
use Rattle.qss_events.proofs.Starts.{levels_at_start, levels_are, light_start, light_at}
use Rattle.qss_machine.specs.Machines.{start_discretes, start_states}
use Rattle.qss_machine.specs.Ticks.{start_snapshot}
use Rattle.qss_machine.proofs.StartValues.{states_start}
use Rattle.qss_components.specs.Crossings.{AreParts, entry_of}
use Rattle.std.proofs.Common.{unsigned_abs}
use Rattle.std.proofs.lemmas.List.Sums.{sum_by-take-le}
use Rattle.qss_machine.specs.MachineLimits.{IsBounded}
use Rattle.qss_machine.specs.Slopes.{weight_of}
use Rattle.qss_hand.proofs.Branches.{condition_by}
use Rattle.qss_machine.proofs.WeightLaws.{slope-within_weight}
use Rattle.qss_components.specs.Agreement.{moving_of, InputAgrees}
use Rattle.qss_components.proofs.Inputs.{scaled_small}
use Rattle.qss_components.proofs.Variables.{moving_discrete, moving_before}
use Rattle.qss_machine.proofs.Near.{start_near}
use Rattle.qss_hand.specs.Values.{Values}
use Rattle.qss_devs.proofs.TickEnds.{states_are, component_levels, settled_are}
use Rattle.qss_devs.proofs.Lists.{mapped_at}

-- ---- values at the start

module _ (m : Machine) where
  pub start_each : HasEach m (start_values m)
  start_each = record {
    states = length-map m.states (λ (s : StateInfo). s.x0);
    slopes = length-map-range_with_len (λ j. slope_at m j (levels_at_start m) (start_discretes m)) 0 (state_count m);
    levels = count_start m;
    discretes = length-map m.discretes (λ (d : DiscreteInfo). d.d0);
  }

  module _ (j : ℕ) (h : j < state_count m) where
    pub start_row : j < length m.rows
    start_row = omega (arith, h, m.has_rows.one_each)

    -- a slope is within its limit
    pub start_slow : IsWithin 88 (slope_at m j (levels_at_start m) (start_discretes m))
    start_slow =
        let small : IsWithin 88 (weight_of m.f (row_at m j) (levels_at_start m) (start_discretes m)) =
        rw (levels_are m) (m.has_rows.weights j no_row start_row) in
        omega (arith, ints, slope-within_weight m.f (row_at m j) (levels_at_start m) (start_discretes m), small)

    pub own_slope : int_at (start_values m).slopes j ≡ slope_at m j (levels_at_start m) (start_discretes m)
    own_slope = int_at-tabulate (state_count m) (λ i. slope_at m i (levels_at_start m) (start_discretes m)) j h

    pub slope_small : IsWithin 88 (int_at (start_values m).slopes j)
    slope_small = subst (IsWithin 88) (sym own_slope) start_slow

    pub state_small : IsWithin 88 (int_at (start_values m).states j)
    state_small = states_start m j (pos 0) (omega (arith, h, start_each.states))

    pub level_small : IsWithin 43 (int_at (start_values m).levels j)
    level_small = levels_start m j (pos 0) (omega (arith, h, start_each.levels))

  pub discrete_small : (g : ℕ) → g < discrete_count m → IsWithin 43 (int_at (start_values m).discretes g)
  discrete_small g h = discretes_start m g (pos 0) (omega (arith, h, start_each.discretes))

  -- ---- inputs

  -- a discrete variable by its place among them, also of its value before the tick
  pub moving_later : (var : ℕ) → state_count m ≤ var → moving_of m (start_values m) var
      ≡ record { at = int_at (start_values m).discretes (if nat_lt (var - state_count m) (discrete_count m) then var - state_count m else (var - state_count m) - discrete_count m) *ℤ level_unit m; speed = pos 0 }
  moving_later var h = elim (cases_lt var (state_count m + discrete_count m)) [
    | inl below ↦
        let yes : nat_lt (var - state_count m) (discrete_count m) ≡ true = grind (arith, nat_tests) in
        rw yes (moving_discrete m (start_values m) var h below)
    | inr past ↦
        let no : nat_lt (var - state_count m) (discrete_count m) ≡ false = grind (arith, nat_tests) in
        let e : (var - state_count m) - discrete_count m ≡ var - (state_count m + discrete_count m) = omega arith in
        rw (no, e) (moving_before m (start_values m) var past)
  ]

  -- an input is within its limits
  input_by : (entry : Entry) (moving : Moving) → moving_of m (start_values m) entry.var ≡ moving → IsWithin 88 moving.at → IsWithin 88 moving.speed → (state_count m ≤ entry.var → moving.speed ≡ pos 0) →
      IsGiven m 0 (first_input m (start_values m) entry)
  input_by entry moving is at speed stays = rw is (record {
    line = record { not_later = omega arith; small = at; slow = speed };
    stays = stays;
    small = subst (IsWithin 88) (sym (no_ticks moving.at moving.speed 0)) at;
  })

  -- also of a discrete value
  discrete_by : (entry : Entry) (g : ℕ) → g < discrete_count m →
      moving_of m (start_values m) entry.var ≡ record { at = int_at (start_values m).discretes g *ℤ level_unit m; speed = pos 0 } →
      IsGiven m 0 (first_input m (start_values m) entry)
  discrete_by entry g h is =
      input_by entry _ is (scaled_small m (int_at (start_values m).discretes g) (discrete_small g h))
      (omega (arith, ints)) (λ e. refl)

  pub input_given : (entry : Entry) → entry.var < state_count m + discrete_count m + discrete_count m → IsGiven m 0 (first_input m (start_values m) entry)
  input_given entry h = elim (cases_lt entry.var (state_count m)) [
    | inl below ↦
        input_by entry _ (moving_state m (start_values m) entry.var below)
        (state_small entry.var below) (slope_small entry.var below) (λ past. absurd (omega (arith, below, past)))
    | inr past ↦ elim (cases_lt entry.var (state_count m + discrete_count m)) [
      | inl inside ↦
          discrete_by entry (entry.var - state_count m) (omega (arith, inside, past))
          (moving_discrete m (start_values m) entry.var past inside)
      | inr later ↦
          discrete_by entry (entry.var - (state_count m + discrete_count m)) (omega (arith, h, later))
          (moving_before m (start_values m) entry.var later)
    ]
  ]

  pub inputs_given : (entries : List Entry) → All (λ (e : Entry). e.var < state_count m + discrete_count m + discrete_count m) entries → All (IsGiven m 0) (map (first_input m (start_values m)) entries)
  inputs_given entries known k d h =
      let none : Entry = record { var = 0; coef = pos 0 } in
      let inside : k < length entries = omega (arith, h, length-map entries (first_input m (start_values m))) in
      subst (IsGiven m 0) (sym (get_or-map (first_input m (start_values m)) entries k none d inside)) (input_given (get_or entries k none) (known k none inside))

  entries_back : (entries : List Entry) → map entry_of (map (first_input m (start_values m)) entries) ≡ entries
  entries_back [] = refl
  entries_back (entry ∷ entries) = ap (λ (es : List Entry). entry ∷ es) (entries_back entries)

  -- the coefficients of the inputs are those of the form
  pub first_parts : (condition : Condition) → IsBounded condition.form → AreParts (map (first_input m (start_values m)) condition.form.entries) condition.form.time condition.form.gamma
  first_parts condition bounded = record {
    coefficients = subst (λ (es : List Entry). sum_by (λ (e : Entry). unsigned_abs e.coef) es + unsigned_abs condition.form.time ≤ 2 ^ 38) (sym (entries_back condition.form.entries)) bounded.coefficients;
    constant = bounded.constant;
  }

  -- ---- components agree

  pub line_agrees : (j : ℕ) → LineAgrees 0 (start_values m) j (first_line (start_values m) j)
  line_agrees j = record {
    not_later = omega arith;
    here = no_ticks (int_at (start_values m).states j) (int_at (start_values m).slopes j) 0;
    own_slope = refl;
    own_level = refl;
  }

  light : (j : ℕ) → j < state_count m → exceeds_row_limits m (levels_at_start m) (start_discretes m) (row_at m j) ≡ false
  light j h = none_passes no_row (exceeds_row_limits m (levels_at_start m) (start_discretes m)) m.rows (light_start m) j (start_row j h)

  -- it has the values that its row reads
  reading : (j : ℕ) → j < state_count m → (changed : Option ℕ) →
      (changed ≡ None → sum_of m (first_summing m (start_values m) j) ≡ int_at (start_values m).slopes j) →
      SummingAgrees m 0 (start_values m) j (record (first_summing m (start_values m) j) { changed = changed })
  reading j h changed own_sum = record {
    own = refl;
    not_later = omega arith;
    as_many = (
      length-map-range_with_len (λ i. if row_reads i (row_at m j) then int_at
          (start_values m).levels i else pos 0) 0 (state_count m),
      length-map-range_with_len (λ g. if row_reads (state_count m + g) (row_at m j) then int_at
          (start_values m).discretes g else pos 0) 0 (discrete_count m),
    );
    levels = λ i inside reads.
        int_at-tabulate (state_count m) (λ i. if row_reads i (row_at m j) then int_at
        (start_values m).levels i else pos 0) i inside
        ∙ rw reads;
    discretes = λ g inside reads.
        int_at-tabulate (discrete_count m) (λ g. if row_reads (state_count m + g) (row_at m j) then
        int_at (start_values m).discretes g else pos 0) g inside
        ∙ rw reads;
    own_sum = own_sum;
  }

  pub summing_agrees : (j : ℕ) → j < state_count m → SummingAgrees m 0 (start_values m) j
      (first_summing m (start_values m) j)
  summing_agrees j h = reading j h None (λ e.
      sum_same m 0 (start_values m) start_each j h (record (first_summing m (start_values m) j)
      { changed = Some 0 }) (reading j h (Some 0) (λ e. absurd (cc)))
      ∙ if-false (exceeds_row_limits m (levels_at_start m) (start_discretes m) (row_at m j)) _ _
      (light j h) ∙ sym (own_slope j h))

  input_agrees : (entry : Entry) → InputAgrees m 0 (start_values m) (first_input m (start_values m) entry)
  input_agrees entry = record {
    not_later = omega arith;
    here = ap (λ (z : ℤ). record { at = z; speed = (moving_of m (start_values m) entry.var).speed }) (no_ticks (moving_of m (start_values m) entry.var).at (moving_of m (start_values m) entry.var).speed 0);
  }

  pub crossing_agrees : (place : ℕ) (condition : Condition) → CrossingAgrees m 0 (start_values m) place condition (first_crossing m (start_values m) place condition)
  crossing_agrees place condition =
      let first : Crossing = first_crossing m (start_values m) place condition in
      record {
        own = refl;
        own_rel = refl;
        own_time = refl;
        own_constant = refl;
        entries = entries_back condition.form.entries;
        not_later = omega arith;
        lines = λ k d h.
            let none : Entry = record { var = 0; coef = pos 0 } in
            let inside : k < length condition.form.entries = omega (arith, h, length-map condition.form.entries (first_input m (start_values m))) in
            subst (InputAgrees m 0 (start_values m)) (sym (get_or-map (first_input m (start_values m)) condition.form.entries k none d inside)) (input_agrees (get_or condition.form.entries k none));
        here = no_ticks first.detector.value first.detector.speed 0;
        own_speed = refl;
      }

  -- components that are as at the start represent the snapshot there
  pub begun_stand : (line : ℕ → Line) (s : ℕ → FunctionState) (c : ℕ → Crossing) →
      ((j : ℕ) → j < state_count m → line j ≡ first_line (start_values m) j) →
      ((j : ℕ) → j < state_count m → s j ≡ first_summing m (start_values m) j) →
      ((place : ℕ) → place < length (conditions m) → c place ≡ first_crossing m (start_values m) place (condition_at m place)) →
      ComponentsRepresent m 0 (start_snapshot m) line s c
  begun_stand line s c lines functions crossings = record {
    agree = record {
      integrators = λ j h. rw (lines j h) (line_agrees j);
      functions = λ j h. rw (functions j h) (summing_agrees j h);
      crossings = λ place h. rw (crossings place h) (crossing_agrees place (condition_at m place));
    };
    sent = λ j h. ap (λ (f : FunctionState). f.changed) (functions j h);
  }

-- the coefficient of time and the constant of a form fit their types
pub form_fits : (inputs : List Input) (time gamma : ℤ) → AreParts inputs time gamma →
    FitsSigned w64 time × FitsSigned w128 gamma
form_fits inputs time gamma parts =
    let sizes : sum_by (λ (e : Entry). unsigned_abs e.coef) (map entry_of inputs) + unsigned_abs time ≤ 2 ^ 38 = parts.coefficients in
    let constant : IsWithin 78 gamma = parts.constant in
    (omega (arith, ints, sizes), omega (arith, ints, constant))

-- ---- conditions by clause and branch

pub own_condition : (m : Machine) (i b : ℕ) → i < length m.clauses → b < width_of (clause_at m i) → condition_at m (first_place m.clauses i + b) ≡ (branch_at m i b).condition
own_condition m i b h k =
    condition_by m.clauses i b (record { branches = [] }) (record { condition = record { form = record { entries = []; time = pos 0; gamma = pos 0 }; rel = Less }; actions = [] })
    (record { form = record { entries = []; time = pos 0; gamma = pos 0 }; rel = Less }) h k

-- the places of one more clause, and those of all
pub places_more : (m : Machine) (i : ℕ) → i < length m.clauses → first_place m.clauses (i + 1) ≡ first_place m.clauses i + width_of (clause_at m i)
places_more m i h = sum_by_more width_of m.clauses i (record { branches = [] }) h

pub places_few : (m : Machine) (i : ℕ) → i < length m.clauses → first_place m.clauses i + width_of (clause_at m i) ≤ 16384
places_few m i h = omega (arith, places_more m i h, sum_by-take-le width_of m.clauses (i + 1), length-conditions m.clauses, conditions_few m)

pub places_all : (m : Machine) (i : ℕ) → length m.clauses ≤ i → first_place m.clauses i ≡ length (conditions m)
places_all m i h = ap (sum_by width_of) (take_all i m.clauses h) ∙ sym (length-conditions m.clauses)

-- ---- what a coupled model keeps at the start represents the snapshot there

abbrev pub held : CrossingModel → Bool
held c = compares c.detector.rel c.detector.value

-- what is kept, made of the components at the start
pub record AreFirst {X : Type 0} {g : _} (m : Machine) (q : Quantizer X g) (s : Store X g) : Type 0 where
  pub parts : AreComponents m s.parts
  pub integrators : EachAt (IsFirstIntegrator m q) s.parts.integrators.items
  pub functions : EachAt (IsFirstFunction m) s.parts.functions.items
  pub crossings : EachAt (IsFirstCrossing m) s.parts.crossings.items
  pub work : s.work ≡ record { x = start_states m; d = start_discretes m; pre = start_discretes m; tick = 0; log = []; room = row_room m.clauses }
  pub current : s.truths.current.items ≡ map held s.parts.crossings.items
  pub at_arrival : s.truths.at_arrival.items ≡ map held s.parts.crossings.items
  pub after_handlers : s.truths.after_handlers.items ≡ map held s.parts.crossings.items
  pub room : row_room m.clauses + state_count m + discrete_count m + 1 ≤ vec_capacity s.rows

module _ {X : Type 0} {g : _} (m : Machine) (q : Quantizer X g) (s : Store X g) (first : AreFirst m q s) where
  line_first : (j : ℕ) → j < state_count m → line_at s.parts j ≡ first_line (start_values m) j
  line_first j h =
      let inside : j < length s.parts.integrators.items = omega (arith, h, first.parts.integrators) in
      mapped_at (λ (i : IntegratorModel X g). i.line) s.parts.integrators.items j no_line (first_line (start_values m) j) inside (λ d. (first.integrators j d inside).line)

  summing_first : (j : ℕ) → j < state_count m → function_state_at s.parts j ≡ first_summing m
      (start_values m) j
  summing_first j h =
      let inside : j < length s.parts.functions.items = omega (arith, h, first.parts.functions) in
      mapped_at function_state_of s.parts.functions.items j no_summing
      (first_summing m (start_values m) j) inside (λ d. (first.functions j d inside).summing)

  crossing_first : (place : ℕ) → place < length (conditions m) → crossing_at s.parts place ≡ first_crossing m (start_values m) place (condition_at m place)
  crossing_first place h =
      let inside : place < length s.parts.crossings.items = omega (arith, h, first.parts.crossings) in
      mapped_at crossing_of s.parts.crossings.items place no_crossing (first_crossing m (start_values m) place (condition_at m place)) inside (λ d. (first.crossings place d inside).crossing)

  stand : ComponentsRepresent m 0 (start_snapshot m) (line_at s.parts) (function_state_at s.parts) (crossing_at s.parts)
  stand = begun_stand m (line_at s.parts) (function_state_at s.parts) (crossing_at s.parts) line_first summing_first crossing_first

  states_count : length (start_states m) ≡ state_count m
  states_count = length-map m.states (λ (i : StateInfo). i.x0)

  states_of : states_at 0 s.parts ≡ start_states m
  states_of = states_are m 0 (start_values m) s.parts first.parts stand.agree states_count

  levels_of_start : levels_of s.parts ≡ levels_at_start m
  levels_of_start = component_levels m 0 (start_values m) s.parts first.parts stand.agree (count_start m)

  discretes_are : s.work.d ≡ start_discretes m
  discretes_are = ap (λ (v : Values). v.d) first.work

  discretes_count : length (start_discretes m) ≡ discrete_count m
  discretes_count = length-map m.discretes (λ (d : DiscreteInfo). d.d0)

  crossing_later : CrossingsLater m 0 (crossing_at s.parts)
  crossing_later place next h is =
      let own : (crossing_at s.parts place).detector.tick ≡ 0 = ap (λ (k : Crossing). k.detector.tick) (crossing_first place h) in
      omega (arith, own, is.later)

  -- each crossing says whether its condition holds
  flags_are : map held s.parts.crossings.items ≡ truths m (start_states m) (start_discretes m) 0
  flags_are =
      settled_are m 0 (start_snapshot m) s.parts first.parts (omega arith) states_count discretes_count
      stand crossing_later

  pub first_snapshot : snapshot_of 0 s ≡ start_snapshot m
  first_snapshot =
      let arrived = first.at_arrival ∙ flags_are in
      let settled = first.after_handlers ∙ flags_are in
      rw (states_of, levels_of_start, discretes_are, arrived, settled)

  many : length (map held s.parts.crossings.items) ≡ length (conditions m)
  many = length-map s.parts.crossings.items held ∙ first.parts.crossings

  fits : FitsMachine m q.name s
  fits = record {
    parts = first.parts;
    ruled = λ j d h. ap (λ (r : Quantizer X g). r.name) (first.integrators j d h).quantizer;
    values = rw first.work (record {
      states = states_count;
      discretes = discretes_count;
      before = discretes_count;
      small_states = states_start m;
      small_discretes = discretes_start m;
      small_before = discretes_start m;
      in_time = omega arith;
    });
    work_room = omega (arith, ap (λ (v : Values). v.room) first.work);
    flags = record { current = ap length first.current ∙ many; at_arrival = ap length first.at_arrival ∙ many; after_handlers = ap length first.after_handlers ∙ many };
    row_room = first.room;
  }

  line_later : (j next : ℕ) → j < state_count m → IsLineNext m j (line_at s.parts j) (Some next) → 0 < next
  line_later j next h is =
      let line : Line = first_line (start_values m) j in
      near_later m j line (start_near m j h) next (subst (λ (l : Line). IsLineNext m j l (Some next)) (line_first j h) is)

  pub first_stands : StoreRepresents m q.name 0 s
  first_stands = record {
    fits = fits;
    stand = subst (λ (w : Snapshot). ComponentsRepresent m 0 w (line_at s.parts) (function_state_at s.parts) (crossing_at s.parts)) (sym first_snapshot) stand;
    left = record {
      one_each = ap length levels_of_start ∙ count_start m;
      small_levels = λ j h. subst (λ l. IsWithin 43 (int_at l j)) (sym levels_of_start) (levels_start m j (pos 0) (omega (arith, h, count_start m)));
      light = light_at m (levels_of s.parts) s.work.d levels_of_start discretes_are;
    };
    after_handlers = rw (states_of, discretes_are) (first.after_handlers ∙ flags_are);
    lines = line_later;
    crossings = crossing_later;
  }
