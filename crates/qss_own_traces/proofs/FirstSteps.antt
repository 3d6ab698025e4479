-- Steps of a machine without clauses under the floor rule.
use Rattle.qss_own_traces.proofs.Common
use Common.{[], ℕ, ℤ, ◌*ℤ◌, ◌∙◌, ◌∷◌, ◌≡◌, All, all_of, ap, ap₂, Bool, exceeds_row_limits}
use Common.{first_exceeding, flat_map, floor_level, Global, HandlerState, IsWithin, length}
use Common.{length-map, length-map-range_with_len, level_unit, List, Machine, map, next_levels}
use Common.{None, Option, option_or, plain_world, pos, position, refl, run_clauses-none, Snapshot}
use Common.{snapshot_unless, Some, start_discretes, start_small, start_snapshot, start_states}
use Common.{state_count, StateInfo, step, sym, tabulate, Vec}
use Rattle.mu_num.specs.Levels.{level_below}
use Rattle.qss_machine.specs.Ticks.{moved_states, handlers_at, finish_tick}
use Rattle.qss_own_traces.specs.FirstPlaces.{AreOfStates}
use Rattle.mu_num.proofs.Integers.{one-mul}
use Rattle.qss_machine.specs.declared.machine_parts.BranchInfo.{BranchInfo}
use Rattle.qss_machine.specs.declared.machine_parts.ClauseInfo.{ClauseInfo}
use Rattle.qss_machine.specs.declared.machine_parts.Condition.{Condition}
use Rattle.qss_machine.specs.Machines.{truth}
use Rattle.qss_machine.proofs.Ranges.{none_past}
use Rattle.qss_machine.specs.Handlers.{truths}

arrival : Machine → Snapshot → HandlerState
arrival m w = record { states = moved_states m w; discretes = w.discretes; rows = []; overflow = first_exceeding 88 (moved_states m w) }

idle : (m : Machine) (tick : ℕ) (w : Snapshot) → m.clauses ≡ [] → handlers_at m tick w ≡ arrival m w
unfolding arrival
idle m tick w none = run_clauses-none m tick w.discretes 0 (arrival m w) m.clauses _ none

pub no_truths : (m : Machine) (states discretes : List ℤ) (tick : ℕ) → m.clauses ≡ [] → truths m states discretes tick ≡ []
no_truths m states discretes tick none =
    ap (λ (cs : List ClauseInfo). map (λ (c : Condition). truth m c states discretes tick) (flat_map (λ (clause : ClauseInfo). map (λ (branch : BranchInfo). branch.condition) clause.branches) cs)) none

module _ (m : Machine) (states levels : List ℤ) where
  -- the states and the levels after a tick
  abbrev pub moved : List ℤ
  moved = moved_states m (plain_world m states levels)

  abbrev pub releveled : List ℤ
  releveled = next_levels floor_level m moved levels

  abbrev pub heavy : Option ℕ
  heavy = position (exceeds_row_limits m releveled (start_discretes m)) m.rows

  -- the result of a tick: the limits are checked in their order
  pub step_is : (tick : ℕ) → m.clauses ≡ [] →
      step floor_level m tick (plain_world m states levels)
      ≡ snapshot_unless (option_or (first_exceeding 88 moved) (option_or (first_exceeding 43 releveled) heavy)) (plain_world m moved releveled)
  unfolding arrival
  step_is tick none =
      let w = plain_world m states levels in
      let over = option_or (first_exceeding 88 moved) (option_or (first_exceeding 43 releveled) heavy) in
      ap (λ (h : HandlerState). finish_tick m tick w h (next_levels floor_level m h.states levels)) (idle m tick w none)
      ∙ ap (λ (ts : List Bool). snapshot_unless over (record { states = moved; levels = releveled; discretes = start_discretes m; at_arrival = ts; after_handlers = ts }))
      (no_truths m moved (start_discretes m) tick none)

  -- the same by the first limit that is exceeded, and the snapshot if none is
  pub step_as : (tick : ℕ) (o : Option ℕ) (w : Snapshot) → m.clauses ≡ [] →
      o ≡ option_or (first_exceeding 88 moved) (option_or (first_exceeding 43 releveled) heavy) →
      (o ≡ None → w ≡ plain_world m moved releveled) →
      step floor_level m tick (plain_world m states levels) ≡ snapshot_unless o w
  step_as tick None w none e is = step_is tick none
      ∙ ap₂ (λ (a : Option ℕ) (v : Snapshot). snapshot_unless a v) (sym e) (sym (is refl))
  step_as tick (Some var) w none e is = step_is tick none
      ∙ ap (λ (a : Option ℕ). snapshot_unless a (plain_world m moved releveled)) (sym e)

-- numbers times one
pub ones : (xs : List ℤ) → map (λ x. pos 1 *ℤ x) xs ≡ xs
ones [] = refl
ones (x ∷ xs) = ap₂ (λ (y : ℤ) (ys : List ℤ). y ∷ ys) (one-mul x) (ones xs)

-- the snapshot at tick 0
pub start_plain : (m : Machine) (states levels : List ℤ) → m.clauses ≡ [] → states ≡ start_states m → levels ≡ (start_snapshot m).levels → plain_world m states levels ≡ start_snapshot m
start_plain m states levels none xs ls =
    ap₂ (plain_world m) xs ls
    ∙ ap (λ (ts : List Bool). record { states = start_states m; levels = (start_snapshot m).levels; discretes = start_discretes m; at_arrival = ts; after_handlers = ts })
    (sym (no_truths m (start_states m) (start_discretes m) 0 none))

-- its lengths and sizes
pub start_count : (m : Machine) → length (start_states m) ≡ state_count m
start_count m = length-map m.states (λ (s : StateInfo). s.x0)

pub level_count : (m : Machine) → length (start_snapshot m).levels ≡ state_count m
level_count m = length-map (start_states m) (level_below (level_unit m)) ∙ start_count m

pub start_small_levels : (m : Machine) → All (IsWithin 43) (start_snapshot m).levels
start_small_levels m = all_of (IsWithin 43) (start_snapshot m).levels (state_count m) (level_count m) (λ k h. start_small m k)

-- what no test found past a limit
pub none_small : (bits : ℕ) (xs : List ℤ) (n : ℕ) → length xs ≡ n → first_exceeding bits xs ≡ None → All (IsWithin bits) xs
none_small bits xs n many none = all_of (IsWithin bits) xs n many (λ k h. none_past bits xs none k)

pub all_within : (m : Machine) (bits : ℕ) (xs : List ℤ) (f : ℕ → ℤ) →
    xs ≡ tabulate (state_count m) f → first_exceeding bits xs ≡ None → AreOfStates m bits xs
all_within m bits xs f is none =
    let many : length xs ≡ state_count m = ap length is
    ∙ length-map-range_with_len f 0 (state_count m) in
    record { one_each = many; small = none_small bits xs (state_count m) many none }

-- some number is found, or none
pub found_some : {A : Type 0} (o : Option ℕ) (var : ℕ) → o ≡ Some var → o ≡ None → A
found_some o var e f = absurd (cc)

-- equal lists in memory have the same numbers
pub same_items : {v w : Vec ℤ Global} → v ≡ w → v.items ≡ w.items
same_items e = ap (λ (v : Vec ℤ Global). v.items) e
