-- Counts of rows, and sums of rows at the end of a run.
use Rattle.qss_run.proofs.Common
use Common.{[], ℕ, ℤ, ◌++◌, ◌+ℤ◌, ◌+◌, ◌∷◌, ◌≡◌, Action, arith, assign, assigned_value, Bool}
use Common.{BranchInfo, ClauseInfo, discrete_rows, end_level, end_sum, exceeds, false, fire_row}
use Common.{fold, handlers_at, HandlerState, if_cases, int_at, ints, is_some, length, level_count}
use Common.{level_rows, List, Machine, map, pos, range_with_len, refl, Reinit, Row, run_action}
use Common.{run_clauses, run_first_due, Set, Snapshot, snapshot_rows, state_row, state_rows, suc}
use Common.{tick_rows, true, zero}
use Rattle.std.specs.Ordering.{int_eq}
use Rattle.std.specs.List.{flat_map}
use Rattle.std.proofs.lemmas.List.Sums.{sum_by-append}
use Rattle.qss_events.proofs.EndRows.{discrete_row}
use Rattle.qss_events.proofs.LevelRows.{level_row}
use Rattle.qss_run.specs.RunSummaries.{is_level}
use Rattle.qss_machine.specs.declared.machine_parts.RowKind.TheVariants as kind

pub level_count-append : (xs ys : List Row) → level_count (xs ++ ys) ≡ level_count xs + level_count ys
level_count-append xs ys = sum_by-append _ xs ys

pub end_sum-append : (xs ys : List Row) → end_sum (xs ++ ys) ≡ end_sum xs +ℤ end_sum ys
end_sum-append [] ys = omega (arith, ints)
end_sum-append (x ∷ xs) ys = omega (arith, ints, end_sum-append xs ys)

-- none of the rows adds to the sum at the end
abbrev pub AddsNothing : List Row → Type 0
AddsNothing rows = end_sum rows ≡ pos 0

pub both_nothing : (xs ys : List Row) → AddsNothing xs → AddsNothing ys → AddsNothing (xs ++ ys)
both_nothing xs ys p q = omega (arith, ints, end_sum-append xs ys, p, q)

nothing_of_range : (f : ℕ → List Row) (a n : ℕ) → ((j : ℕ) → AddsNothing (f j)) → AddsNothing (flat_map f (range_with_len a n))
nothing_of_range f a zero each = refl
nothing_of_range f a (suc n) each = both_nothing (f a) (flat_map f (range_with_len (a + 1) n)) (each a) (nothing_of_range f (a + 1) n each)

levels_nothing : (tick : ℕ) (old new states : List ℤ) → AddsNothing (level_rows tick old new states)
levels_nothing tick old new states =
    nothing_of_range (level_row tick old new states) 0 (length states)
    (λ j. if_cases AddsNothing (int_eq (int_at old j) (int_at new j)) [] _ (λ same. refl) (λ other. refl))

-- ---- handlers

abbrev Handled : HandlerState → Type 0
Handled h = AddsNothing h.rows

module _ (m : Machine) (tick : ℕ) (before : List ℤ) where
  assign_nothing : (h : HandlerState) (action : Action) (z : ℤ) → Handled h → Handled (assign m tick h action z)
  assign_nothing h (Set var form) z is = if_cases Handled (exceeds 43 z) _ _ (λ e. is) (λ e. both_nothing h.rows _ is refl)
  assign_nothing h (Reinit var form) z is = if_cases Handled (exceeds 88 z) _ _ (λ e. is) (λ e. both_nothing h.rows _ is refl)

  action_nothing : (h : HandlerState) (action : Action) → Handled h → Handled (run_action m tick before h action)
  action_nothing h action is =
      if_cases Handled (is_some h.overflow) h (assign m tick h action (assigned_value m tick before h action))
      (λ e. is) (λ e. assign_nothing h action (assigned_value m tick before h action) is)

  actions_nothing : (h : HandlerState) (actions : List Action) → Handled h → Handled (fold (run_action m tick before) h actions)
  actions_nothing h [] is = is
  actions_nothing h (action ∷ actions) is = actions_nothing (run_action m tick before h action) actions (action_nothing h action is)

  first_nothing : (clause number : ℕ) (h : HandlerState) (branches : List BranchInfo) (due : List Bool) → Handled h → Handled (run_first_due m tick before clause number h branches due)
  first_nothing clause number h [] due is = is
  first_nothing clause number h (branch ∷ branches) [] is = is
  first_nothing clause number h (branch ∷ branches) (true ∷ due) is = actions_nothing _ branch.actions (both_nothing h.rows (fire_row tick clause number ∷ []) is refl)
  first_nothing clause number h (branch ∷ branches) (false ∷ due) is = first_nothing clause (number + 1) h branches due is

  clauses_nothing : (number : ℕ) (h : HandlerState) (clauses : List ClauseInfo) (due : List Bool) → Handled h → Handled (run_clauses m tick before number h clauses due)
  clauses_nothing number h [] due is = is
  clauses_nothing number h (clause ∷ clauses) due is =
      clauses_nothing (number + 1) _ clauses _ (if_cases Handled (is_some h.overflow) h _ (λ e. is) (λ e. first_nothing number 0 h clause.branches _ is))

-- the rows of a tick are none of the end
pub tick_nothing : (m : Machine) (tick : ℕ) (w next : Snapshot) → AddsNothing (tick_rows m tick w next)
tick_nothing m tick w next =
    both_nothing (handlers_at m tick w).rows (level_rows tick w.levels next.levels next.states)
    (clauses_nothing m tick w.discretes 0 _ m.clauses _ refl) (levels_nothing tick w.levels next.levels next.states)

-- ---- rows at the start

map_nothing : (f : ℕ → Row) (xs : List ℕ) → ((j : ℕ) → end_level (f j) ≡ pos 0) → AddsNothing (map f xs)
map_nothing f [] each = refl
map_nothing f (x ∷ xs) each = omega (arith, ints, each x, map_nothing f xs each)

map_levels : (f : ℕ → Row) (xs : List ℕ) → ((j : ℕ) → is_level (f j).kind ≡ false) → level_count (map f xs) ≡ 0
map_levels f [] each = refl
map_levels f (x ∷ xs) each =
    let one : level_count (f x ∷ []) ≡ 0 = rw (each x) refl in
    omega (arith, level_count-append (f x ∷ []) (map f xs), one, map_levels f xs each)

pub start_nothing : (tick : ℕ) (w : Snapshot) → AddsNothing (snapshot_rows kind.Start tick w)
start_nothing tick w =
    both_nothing (state_rows kind.Start tick w.levels w.states) (discrete_rows kind.Start tick (length w.states) w.discretes)
    (map_nothing (state_row kind.Start tick w.levels w.states) (range_with_len 0 (length w.states)) (λ j. refl))
    (map_nothing (discrete_row kind.Start tick (length w.states) w.discretes) (range_with_len 0 (length w.discretes)) (λ j. refl))

pub start_levels : (tick : ℕ) (w : Snapshot) → level_count (snapshot_rows kind.Start tick w) ≡ 0
start_levels tick w =
    let states = state_rows kind.Start tick w.levels w.states in
    let discretes = discrete_rows kind.Start tick (length w.states) w.discretes in
    let first_view : level_count states ≡ 0 = map_levels (state_row kind.Start tick w.levels w.states) (range_with_len 0 (length w.states)) (λ j. refl) in
    let second : level_count discretes ≡ 0 = map_levels (discrete_row kind.Start tick (length w.states) w.discretes) (range_with_len 0 (length w.discretes)) (λ j. refl) in
    omega (arith, level_count-append states discretes, first_view, second)
