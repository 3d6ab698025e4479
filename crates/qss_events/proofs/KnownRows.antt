-- The rows of a run are of variables of its machine.
use Rattle.qss_events.proofs.Common
use Common.{[], ℕ, ℤ, ◌&&◌, ◌++◌, ◌+ℤ◌, ◌+◌, ◌-◌, ◌<◌, ◌∙◌, ◌∷◌, ◌≡◌, Action, All, All-head}
use Common.{All-tail, arith, assign, assigned_value, Bool, BranchInfo, ClauseInfo, discrete_count}
use Common.{Err, exceeds, exceeds_row_limits, false, finish_tick, fire_row, firing_flags}
use Common.{first_exceeding, flat_map, fold, get_or, handlers_at, HandlerState, HasVariable}
use Common.{if_cases, if◌then◌else◌, int_at, int_eq, is_some, is_within_quantum, IsAction, IsBranch}
use Common.{IsClause, length, length-map, length-map-range_with_len, level_rows, level_unit, List}
use Common.{Machine, map, moved_states, nat_lt, nat_tests, next_levels, None, Ok, Option, option_or}
use Common.{pos, position, range_with_len, refl, Result, Row, RowKind, rows_after, rows_from, Run}
use Common.{run_action, run_clauses, run_first_due, run_from, run_rows, run_with, slope_at}
use Common.{SlopeRow, Snapshot, snapshot_rows, snapshot_unless, Some, start_snapshot, state_count}
use Common.{StateInfo, step, subst, suc, sym, tabulate, tick_rows, true, truths, zero}
use Rattle.std.proofs.lemmas.List.{length-set}
use Rattle.std.proofs.lemmas.List.Elements.{All-nil, All-cons, All-append}
use Rattle.std.proofs.lemmas.List.FromFn.{get_or-map-range_with_len}
use Rattle.std.proofs.lemmas.List.Quantifiers.{position-Some}
use Rattle.std.specs.Prelude.{IsTrue, nat_le}
use Rattle.qss_machine.proofs.Near.{or_known}
use Rattle.qss_machine.specs.declared.machine_parts.Action.TheVariants.{Set, Reinit}
use Rattle.qss_machine.specs.declared.machine_parts.DiscreteInfo.{DiscreteInfo}
use Rattle.qss_machine.specs.MachineLimits.{has_target}
use Rattle.qss_machine.specs.Runs.{run_by, state_rows, discrete_rows}
use Rattle.qss_events.proofs.EndRows.{state_row, discrete_row}
use Rattle.qss_events.proofs.LevelRows.{level_row}
use Rattle.qss_machine.specs.declared.machine_parts.RowKind.TheVariants as kind

abbrev pub count : Machine → ℕ
count m = state_count m + discrete_count m

-- ---- rows that are made one for each number

all_tabulated : (m : Machine) (f : ℕ → Row) (n : ℕ) → ((j : ℕ) → j < n → (f j).var < count m) → All (HasVariable m) (tabulate n f)
all_tabulated m f n each k d h prints =
    let inside : k < n = omega (arith, h, length-map-range_with_len f 0 n) in
    let is : get_or (map f (range_with_len 0 n)) k d ≡ f k = get_or-map-range_with_len f 0 n k k d inside (omega arith) in
    subst (λ (row : Row). row.var < count m) (sym is) (each k inside)

all_of_range : (P : Row → Type 0) (f : ℕ → List Row) (a n : ℕ) → ((j : ℕ) → j < a + n → All P (f j)) → All P (flat_map f (range_with_len a n))
all_of_range P f a zero each = All-nil P
all_of_range P f a (suc n) each =
    All-append P (f a) (flat_map f (range_with_len (a + 1) n)) (each a (omega arith)) (all_of_range P f (a + 1) n (λ j h. each j (omega (arith, h))))

one : (m : Machine) (row : Row) → row.var < count m → All (HasVariable m) (row ∷ [])
one m row h = All-cons (HasVariable m) row [] (λ prints. h) (All-nil (HasVariable m))

-- ---- snapshots with a value for each variable

pub record HasEach (m : Machine) (states discretes : List ℤ) : Type 0 where
  pub states_are : length states ≡ state_count m
  pub discretes_are : length discretes ≡ discrete_count m

start_each : (m : Machine) → HasEach m (start_snapshot m).states (start_snapshot m).discretes
start_each m = record {
  states_are = length-map m.states (λ (state : StateInfo). state.x0);
  discretes_are = length-map m.discretes (λ (discrete : DiscreteInfo). discrete.d0);
}

world_known : (m : Machine) (k : RowKind) (tick : ℕ) (w : Snapshot) → HasEach m w.states w.discretes → All (HasVariable m) (snapshot_rows k tick w)
world_known m k tick w each =
    All-append (HasVariable m) (state_rows k tick w.levels w.states) (discrete_rows k tick (length w.states) w.discretes)
    (all_tabulated m (state_row k tick w.levels w.states) (length w.states) (λ j h. omega (arith, h, each.states_are)))
    (all_tabulated m (discrete_row k tick (length w.states) w.discretes) (length w.discretes) (λ j h. omega (arith, h, each.states_are, each.discretes_are)))

level_known : (m : Machine) (tick : ℕ) (old new states : List ℤ) → length states ≡ state_count m → All (HasVariable m) (level_rows tick old new states)
level_known m tick old new states e =
    all_of_range (HasVariable m) (level_row tick old new states) 0 (length states)
    (λ j h.
    let row : Row = record { tick = tick; kind = kind.Level; var = j; level = int_at new j; state = int_at states j } in
    if_cases (All (HasVariable m)) (int_eq (int_at old j) (int_at new j)) [] (row ∷ []) (λ same. All-nil (HasVariable m)) (λ other. one m row (omega (arith, h, e))))

-- ---- handlers

pub record IsHandling (m : Machine) (h : HandlerState) : Type 0 where
  pub each : HasEach m h.states h.discretes
  pub known : All (HasVariable m) h.rows
  pub over : (var : ℕ) → h.overflow ≡ Some var → var < count m

and_right : (a b : Bool) → (a && b) ≡ true → b ≡ true
and_right true b e = e
and_right false b e = absurd (cc)

less : (a b : ℕ) → nat_lt a b ≡ true → a < b
less a b e = grind (arith, nat_tests)

set_target : (n g var : ℕ) → IsTrue (nat_le n var && nat_lt var (n + g)) → var < n + g
set_target n g var t = less var (n + g) (and_right (nat_le n var) (nat_lt var (n + g)) t)

reinit_target : (n g var : ℕ) → IsTrue (nat_lt var n) → var < n + g
reinit_target n g var t = omega (arith, less var n t)

some_is : (a b : ℕ) → Some a ≡ Some b → a ≡ b
some_is a b e = cc

module _ (m : Machine) (tick : ℕ) (before : List ℤ) where
  abbrev set_row : ℕ → ℤ → Row
  set_row var z = record { tick = tick; kind = kind.Set; var = var; level = z; state = pos 0 }

  abbrev reinit_row : ℕ → ℤ → Row
  reinit_row var z = record { tick = tick; kind = kind.Reinit; var = var; level = pos 0; state = z }

  assign_known : (h : HandlerState) (action : Action) (z : ℤ) → IsTrue (has_target (state_count m) (discrete_count m) action) → IsHandling m h → IsHandling m (assign m tick h action z)
  assign_known h (Set var form) z target is =
      let inside : var < count m = set_target (state_count m) (discrete_count m) var target in
      if_cases (IsHandling m) (exceeds 43 z) _ _
      (λ e. record { each = is.each; known = is.known; over = λ v same. subst (λ k. k < count m) (some_is var v same) inside })
      (λ e. record {
        each = record { states_are = is.each.states_are; discretes_are = length-set h.discretes (var - state_count m) z ∙ is.each.discretes_are };
        known = All-append (HasVariable m) h.rows (set_row var z ∷ []) is.known (one m (set_row var z) inside);
        over = is.over;
      })
  assign_known h (Reinit var form) z target is =
      let inside : var < count m = reinit_target (state_count m) (discrete_count m) var target in
      if_cases (IsHandling m) (exceeds 88 z) _ _
      (λ e. record { each = is.each; known = is.known; over = λ v same. subst (λ k. k < count m) (some_is var v same) inside })
      (λ e. record {
        each = record { states_are = length-set h.states var z ∙ is.each.states_are; discretes_are = is.each.discretes_are };
        known = All-append (HasVariable m) h.rows (reinit_row var z ∷ []) is.known (one m (reinit_row var z) inside);
        over = is.over;
      })

  action_known : (h : HandlerState) (action : Action) → IsTrue (has_target (state_count m) (discrete_count m) action) → IsHandling m h → IsHandling m (run_action m tick before h action)
  action_known h action target is =
      if_cases (IsHandling m) (is_some h.overflow) h (assign m tick h action (assigned_value m tick before h action))
      (λ e. is) (λ e. assign_known h action (assigned_value m tick before h action) target is)

  abbrev Limited : List Action → Type 0
  Limited actions = All (IsAction (state_count m) (discrete_count m)) actions

  actions_known : (h : HandlerState) (actions : List Action) → Limited actions → IsHandling m h → IsHandling m (fold (run_action m tick before) h actions)
  actions_known h [] limited is = is
  actions_known h (action ∷ actions) limited is =
      actions_known (run_action m tick before h action) actions
      (All-tail (IsAction (state_count m) (discrete_count m)) action actions limited)
      (action_known h action (All-head (IsAction (state_count m) (discrete_count m)) action actions limited).target is)

  fired : (h : HandlerState) (clause branch : ℕ) → IsHandling m h → IsHandling m (record h { rows = h.rows ++ fire_row tick clause branch ∷ [] })
  fired h clause branch is = record {
    each = is.each;
    known = All-append (HasVariable m) h.rows (fire_row tick clause branch ∷ []) is.known
        (All-cons (HasVariable m) (fire_row tick clause branch) [] (λ prints. let never : false ≡ true = prints in absurd (cc)) (All-nil (HasVariable m)));
    over = is.over;
  }

  first_known : (clause number : ℕ) (h : HandlerState) (branches : List BranchInfo) (due : List Bool) → All (IsBranch (state_count m) (discrete_count m)) branches → IsHandling m h →
      IsHandling m (run_first_due m tick before clause number h branches due)
  first_known clause number h [] due limited is = is
  first_known clause number h (branch ∷ branches) [] limited is = is
  first_known clause number h (branch ∷ branches) (true ∷ due) limited is =
      actions_known _ branch.actions (All-head (IsBranch (state_count m) (discrete_count m)) branch branches limited).actions (fired h clause number is)
  first_known clause number h (branch ∷ branches) (false ∷ due) limited is =
      first_known clause (number + 1) h branches due (All-tail (IsBranch (state_count m) (discrete_count m)) branch branches limited) is

  clauses_known : (number : ℕ) (h : HandlerState) (clauses : List ClauseInfo) (due : List Bool) → All (IsClause (state_count m) (discrete_count m)) clauses → IsHandling m h →
      IsHandling m (run_clauses m tick before number h clauses due)
  clauses_known number h [] due limited is = is
  clauses_known number h (clause ∷ clauses) due limited is =
      clauses_known (number + 1) _ clauses _ (All-tail (IsClause (state_count m) (discrete_count m)) clause clauses limited)
      (if_cases (IsHandling m) (is_some h.overflow) h _ (λ e. is)
      (λ e. first_known number 0 h clause.branches _ (All-head (IsClause (state_count m) (discrete_count m)) clause clauses limited).branches is))

handling_known : (m : Machine) (tick : ℕ) (w : Snapshot) → HasEach m w.states w.discretes → IsHandling m (handlers_at m tick w)
handling_known m tick w each =
    let moved : length (moved_states m w) ≡ state_count m = length-map-range_with_len (λ j. int_at w.states j +ℤ slope_at m j w.levels w.discretes) 0 (state_count m) in
    clauses_known m tick w.discretes 0 _ m.clauses (firing_flags (truths m (moved_states m w) w.discretes tick) w.at_arrival w.after_handlers) m.has_clauses.each
    (record {
      each = record { states_are = moved; discretes_are = each.discretes_are };
      known = All-nil (HasVariable m);
      over = λ var e. let found = position-Some (exceeds 88) (moved_states m w) var (pos 0) e in omega (arith, found.0, moved);
    })

-- ---- steps

-- a result is a snapshot with a value for each variable, or a variable of the machine
abbrev IsResult : Machine → Result Snapshot ℕ → Type 0
IsResult m (Ok next) = HasEach m next.states next.discretes
IsResult m (Err var) = var < count m

unless_known : (m : Machine) (o : Option ℕ) (w : Snapshot) → ((var : ℕ) → o ≡ Some var → var < count m) → HasEach m w.states w.discretes → IsResult m (snapshot_unless o w)
unless_known m None w over each = each
unless_known m (Some var) w over each = over var refl

settle_known : (m : Machine) (tick : ℕ) (w : Snapshot) (h : HandlerState) (levels : List ℤ) → length levels ≡ state_count m → IsHandling m h → IsResult m (finish_tick m tick w h levels)
settle_known m tick w h levels many is =
    let none : SlopeRow = record { entries = []; products = []; beta = pos 0 } in
    let heavy = exceeds_row_limits m levels h.discretes in
    unless_known m (option_or h.overflow (option_or (first_exceeding 43 levels) (position heavy m.rows)))
    (record {
      states = h.states;
      levels = levels;
      discretes = h.discretes;
      at_arrival = truths m (moved_states m w) w.discretes tick;
      after_handlers = truths m h.states h.discretes tick;
    })
    (or_known (count m) h.overflow (option_or (first_exceeding 43 levels) (position heavy m.rows)) is.over
    (or_known (count m) (first_exceeding 43 levels) (position heavy m.rows)
    (λ var e. let found = position-Some (exceeds 43) levels var (pos 0) e in omega (arith, found.0, many))
    (λ var e. let found = position-Some heavy m.rows var none e in omega (arith, found.0, m.has_rows.one_each))))
    is.each

step_known : (level : ℤ → ℤ → ℤ → ℤ) (m : Machine) (tick : ℕ) (w : Snapshot) → HasEach m w.states w.discretes → IsResult m (step level m tick w)
step_known level m tick w each =
    let h = handlers_at m tick w in
    settle_known m tick w h (next_levels level m h.states w.levels)
    (length-map-range_with_len (λ j. if is_within_quantum m j (int_at h.states j) (int_at w.levels j) then int_at w.levels j else level (level_unit m) (int_at h.states j) (int_at w.levels j)) 0 (state_count m))
    (handling_known m tick w each)

-- ---- runs

-- a run goes on from a tick's result
abbrev run_after : (ℤ → ℤ → ℤ → ℤ) → Machine → ℕ → ℕ → Result Snapshot ℕ → Run
run_after level m more tick result = run_with result (λ next. run_from level m more (tick + 1) next)

after_known : (level : ℤ → ℤ → ℤ → ℤ) (m : Machine) (more tick : ℕ) (w : Snapshot) → HasEach m w.states w.discretes →
    ((next : Snapshot) → HasEach m next.states next.discretes → All (HasVariable m) (rows_from level m more (tick + 1) next)) → (result : Result Snapshot ℕ) → IsResult m result →
    All (HasVariable m) (rows_after m tick w (run_after level m more tick result).snapshots (run_after level m more tick result).overflow)
after_known level m more tick w each rest (Err var) inside = one m (record { tick = tick + 1; kind = kind.Overflow; var = var; level = pos 0; state = pos 0 }) inside
after_known level m more tick w each rest (Ok next) is =
    All-append (HasVariable m) (tick_rows m (tick + 1) w next) (rows_from level m more (tick + 1) next)
    (All-append (HasVariable m) (handlers_at m (tick + 1) w).rows (level_rows (tick + 1) w.levels next.levels next.states) (handling_known m (tick + 1) w each).known (level_known m (tick + 1) w.levels next.levels next.states is.states_are))
    (rest next is)

rows_known : (level : ℤ → ℤ → ℤ → ℤ) (m : Machine) (more tick : ℕ) (w : Snapshot) → HasEach m w.states w.discretes → All (HasVariable m) (rows_from level m more tick w)
rows_known level m zero tick w each = world_known m kind.End tick w each
rows_known level m (suc more) tick w each =
    after_known level m more tick w each (λ next is. rows_known level m more (tick + 1) next is) (step level m (tick + 1) w) (step_known level m (tick + 1) w each)

overflow_after : (level : ℤ → ℤ → ℤ → ℤ) (m : Machine) (more tick var : ℕ) →
    ((next : Snapshot) → HasEach m next.states next.discretes → (run_from level m more (tick + 1) next).overflow ≡ Some var → var < count m) → (result : Result Snapshot ℕ) → IsResult m result →
    (run_after level m more tick result).overflow ≡ Some var → var < count m
overflow_after level m more tick var rest (Err v) inside e = subst (λ k. k < count m) (some_is v var e) inside
overflow_after level m more tick var rest (Ok next) is e = rest next is e

overflow_known : (level : ℤ → ℤ → ℤ → ℤ) (m : Machine) (more tick : ℕ) (w : Snapshot) → HasEach m w.states w.discretes → (var : ℕ) → (run_from level m more tick w).overflow ≡ Some var → var < count m
overflow_known level m zero tick w each var e = absurd (cc)
overflow_known level m (suc more) tick w each var e =
    overflow_after level m more tick var (λ next is. overflow_known level m more (tick + 1) next is var) (step level m (tick + 1) w) (step_known level m (tick + 1) w each) e

pub run_known : (level : ℤ → ℤ → ℤ → ℤ) (m : Machine) → All (HasVariable m) (run_rows m (run_by level m))
run_known level m =
    All-append (HasVariable m) (snapshot_rows kind.Start 0 (start_snapshot m)) (rows_from level m m.last 0 (start_snapshot m)) (world_known m kind.Start 0 (start_snapshot m) (start_each m)) (rows_known level m m.last 0 (start_snapshot m) (start_each m))

pub over_known : (level : ℤ → ℤ → ℤ → ℤ) (m : Machine) (var : ℕ) → (run_by level m).overflow ≡ Some var → var < count m
over_known level m var e = overflow_known level m m.last 0 (start_snapshot m) (start_each m) var e
