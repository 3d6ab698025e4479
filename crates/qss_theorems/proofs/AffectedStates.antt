-- A state is affected only at event steps.
use Rattle.qss_theorems.proofs.Common
use Common.{[], ℕ, ℤ, ◌&&◌, ◌*◌, ◌++◌, ◌+◌, ◌<◌, ◌==◌, ◌||◌, ◌∙◌, ◌∷◌, ◌≡◌, ◌≤◌, ap, arith, Bool}
use Common.{cond, discrete_count, drop, false, get_or, handlers_at, if◌then◌else◌, int_at, is_some}
use Common.{IsAllowedLevel, IsEventFreeExecution, IsFreeLevel, IsStep, IsStepBy, last_snapshot}
use Common.{length, List, Machine, nat_lt, None, not, Ok, Option, pos, refl, Row, run_by_rule}
use Common.{Snapshot, Some, start_snapshot, state_count, subst, suc, sym, take, true, zero}
use Rattle.std.proofs.Common.{◌-◌, fold, ltb-true, set, ◌+ℤ◌, mul-add, count_by}
use Rattle.std.proofs.lemmas.Bool.Decides.{Decides-int_eq}
use Rattle.std.proofs.lemmas.List.FromFn.{length-range_with_len, get_or-range_with_len}
use Rattle.std.proofs.lemmas.List.FromFn.{length-map-range_with_len}
use Rattle.std.proofs.lemmas.List.Sums.{sum_by-cons, count_by-le-length}
use Rattle.std.specs.List.{flat_map, list_any, range_with_len}
use Rattle.std.specs.Ordering.{int_eq}
use Rattle.mu_num.proofs.Tests.{if_cases}
use Rattle.mu_num.specs.IndexedSums.{first_exceeding}
use Rattle.mu_num.specs.Sizes.{exceeds}
use Rattle.qss_machine.proofs.Near.{StepFacts, step_facts}
use Rattle.qss_machine.specs.declared.machine_parts.Action.{Action}
use Rattle.qss_machine.specs.declared.machine_parts.Action.TheVariants.{Set, Reinit}
use Rattle.qss_machine.specs.declared.machine_parts.BranchInfo.{BranchInfo}
use Rattle.qss_machine.specs.declared.machine_parts.ClauseInfo.{ClauseInfo}
use Rattle.qss_machine.specs.declared.machine_parts.SlopeRow.{SlopeRow}
use Rattle.qss_machine.specs.EventCounts.{are_same_truths, has_changed, is_empty, is_reinit}
use Rattle.qss_machine.specs.EventCounts.{is_touched, is_visited, reads_change, touches_after}
use Rattle.qss_machine.specs.EventCounts.{visits_after}
use Rattle.qss_machine.specs.Handlers.{HandlerState, assign, assigned_value, fire_row, firing_flags}
use Rattle.qss_machine.specs.Handlers.{run_action, run_branch, run_clause, run_clauses}
use Rattle.qss_machine.specs.Handlers.{run_first_due, truths}
use Rattle.qss_machine.specs.Machines.{row_at, slope_at}
use Rattle.qss_machine.specs.Readers.{row_reads}
use Rattle.qss_machine.specs.Runs.{IsExecution, IsExecutionBy, level_rows, tick_rows}
use Rattle.qss_machine.specs.Ticks.{IsNextLevel, moved_states}
use Rattle.qss_theorems.proofs.Printed.{run_leads}
use Rattle.qss_theorems.specs.AffectedStates.{AffectedStatesAreBounded, HasAffectedBound}
use Rattle.qss_machine.specs.declared.machine_parts.RowKind.TheVariants as kind

-- ---- lists without elements, and tests that fail

no_front : {X : Type 0} (xs ys : List X) → xs ++ ys ≡ [] → xs ≡ []
no_front [] ys e = refl
no_front (x ∷ xs) ys e = absurd (cc e)

no_rest : {X : Type 0} (xs ys : List X) → xs ++ ys ≡ [] → ys ≡ []
no_rest [] ys e = e
no_rest (x ∷ xs) ys e = absurd (cc e)

each_is_empty : {X : Type 0} (f : ℕ → List X) (xs : List ℕ) (i d : ℕ) → i < length xs
    → flat_map f xs ≡ [] → f (get_or xs i d) ≡ []
each_is_empty f [] i d h e = absurd (omega arith)
each_is_empty f (x ∷ xs) zero d h e = no_front (f x) (flat_map f xs) e
each_is_empty f (x ∷ xs) (suc i) d h e =
    each_is_empty f xs i d (omega arith) (no_rest (f x) (flat_map f xs) e)

no_row : (b : Bool) (row : Row) → (if b then [] else row ∷ []) ≡ [] → b ≡ true
no_row true row e = refl
no_row false row e = absurd (cc e)

none_of : (test : ℕ → Bool) (xs : List ℕ) → ((x : ℕ) → test x ≡ false) → list_any test xs ≡ false
none_of test [] none = refl
none_of test (x ∷ xs) none =
    ap (λ (b : Bool). b || list_any test xs) (none x) ∙ none_of test xs none

abbrev one_if : Bool → ℕ
one_if b = cond b 1 0

count_none : (test : ℕ → Bool) (xs : List ℕ) → ((x : ℕ) → test x ≡ false) → count_by test xs ≡ 0
count_none test [] none = refl
count_none test (x ∷ xs) none =
    let here : one_if (test x) ≡ 0 = ap one_if (none x) in
    omega (arith, here, count_none test xs none, sum_by-cons (λ (x : ℕ). one_if (test x)) x xs)

four_fail : (a b c d : Bool) → a ≡ false → b ≡ false → c ≡ false → d ≡ false
    → (a || b || c || d) ≡ false
four_fail a b c d p q r s = rw (p, q, r, s) refl

each_fails : (a b c : Bool) → (a || b || c) ≡ false → (a ≡ false) × (b ≡ false) × (c ≡ false)
each_fails false false false e = (refl, refl, refl)
each_fails true b c e = absurd (cc e)
each_fails false true c e = absurd (cc e)
each_fails false false true e = absurd (cc e)

empty_rows : (rows : List Row) → not (is_empty rows) ≡ false → rows ≡ []
empty_rows [] e = refl
empty_rows (row ∷ rows) e = absurd (cc e)

-- ---- handlers without rows

module _ (m : Machine) (tick : ℕ) (before : List ℤ) where
  -- a statement removes no row
  assigned_rows : (h : HandlerState) (action : Action) (z : ℤ)
      → (assign m tick h action z).rows ≡ [] → h.rows ≡ []
  assigned_rows h (Set var form) z =
      let row : Row = record {
        tick = tick;
        kind = kind.Set;
        var = var;
        level = z;
        state = pos 0;
      } in
      if_cases (λ (g : HandlerState). g.rows ≡ [] → h.rows ≡ []) (exceeds 43 z)
      (record h { overflow = Some var })
      (record h {
        discretes = set h.discretes (var - state_count m) z;
        rows = h.rows ++ row ∷ [];
      })
      (λ t e. e) (λ f e. no_front h.rows (row ∷ []) e)
  assigned_rows h (Reinit var form) z =
      let row : Row = record {
        tick = tick;
        kind = kind.Reinit;
        var = var;
        level = pos 0;
        state = z;
      } in
      if_cases (λ (g : HandlerState). g.rows ≡ [] → h.rows ≡ []) (exceeds 88 z)
      (record h { overflow = Some var })
      (record h { states = set h.states var z; rows = h.rows ++ row ∷ [] })
      (λ t e. e) (λ f e. no_front h.rows (row ∷ []) e)

  action_rows : (h : HandlerState) (action : Action)
      → (run_action m tick before h action).rows ≡ [] → h.rows ≡ []
  action_rows h action =
      if_cases (λ (g : HandlerState). g.rows ≡ [] → h.rows ≡ []) (is_some h.overflow) h
      (assign m tick h action (assigned_value m tick before h action))
      (λ t e. e) (λ f. assigned_rows h action (assigned_value m tick before h action))

  actions_rows : (h : HandlerState) (actions : List Action)
      → (fold (run_action m tick before) h actions).rows ≡ [] → h.rows ≡ []
  actions_rows h [] e = e
  actions_rows h (action ∷ actions) e =
      action_rows h action (actions_rows (run_action m tick before h action) actions e)

  -- a branch that fires has a row
  branch_rows : (clause branch : ℕ) (h : HandlerState) (actions : List Action)
      → (run_branch m tick before clause branch h actions).rows ≡ [] → ⊥
  branch_rows clause branch h actions e =
      let row = fire_row tick clause branch in
      let none : h.rows ++ row ∷ [] ≡ [] =
      actions_rows (record h { rows = h.rows ++ row ∷ [] }) actions e in
      let last : row ∷ [] ≡ [] = no_rest h.rows (row ∷ []) none in cc last

  -- without rows no branch fired, so nothing has changed
  first_due_is : (clause number : ℕ) (h : HandlerState) (branches : List BranchInfo)
      (due : List Bool) → (run_first_due m tick before clause number h branches due).rows ≡ []
      → run_first_due m tick before clause number h branches due ≡ h
  first_due_is clause number h [] due e = refl
  first_due_is clause number h (branch ∷ branches) [] e = refl
  first_due_is clause number h (branch ∷ branches) (true ∷ due) e =
      absurd (branch_rows clause number h branch.actions e)
  first_due_is clause number h (branch ∷ branches) (false ∷ due) e =
      first_due_is clause (number + 1) h branches due e

  clause_is : (number : ℕ) (h : HandlerState) (clause : ClauseInfo) (due : List Bool)
      → (run_clause m tick before number h clause due).rows ≡ []
      → run_clause m tick before number h clause due ≡ h
  clause_is number h clause due =
      if_cases (λ (g : HandlerState). g.rows ≡ [] → g ≡ h) (is_some h.overflow) h
      (run_first_due m tick before number 0 h clause.branches due)
      (λ t e. refl) (λ f. first_due_is number 0 h clause.branches due)

  clauses_are : (number : ℕ) (h : HandlerState) (clauses : List ClauseInfo) (due : List Bool)
      → (run_clauses m tick before number h clauses due).rows ≡ []
      → run_clauses m tick before number h clauses due ≡ h
  clauses_are number h [] due e = refl
  clauses_are number h (clause ∷ clauses) due e =
      let own = take (length clause.branches) due in
      let more = drop (length clause.branches) due in
      let mid = run_clause m tick before number h clause own in
      let rest : run_clauses m tick before (number + 1) mid clauses more ≡ mid =
      clauses_are (number + 1) mid clauses more e in
      let none : mid.rows ≡ [] = sym (ap (λ (g : HandlerState). g.rows) rest) ∙ e in
      rest ∙ clause_is number h clause own none

-- ---- a tick without rows

module _ (Allows : ℕ → ℤ → ℤ → ℤ → Type 0) (m : Machine) (tick : ℕ) (w next : Snapshot)
    (facts : StepFacts Allows m tick w next) (calm : tick_rows m tick w next ≡ []) where
  abbrev before_clauses : HandlerState
  before_clauses = record {
    states = moved_states m w;
    discretes = w.discretes;
    rows = [];
    overflow = first_exceeding 88 (moved_states m w);
  }

  abbrev own_level_rows : List Row
  own_level_rows = level_rows tick w.levels next.levels next.states

  no_handler_rows : (handlers_at m tick w).rows ≡ []
  no_handler_rows = no_front (handlers_at m tick w).rows own_level_rows calm

  handled : handlers_at m tick w ≡ before_clauses
  handled =
      clauses_are m tick w.discretes 0 before_clauses m.clauses
      (firing_flags (truths m (moved_states m w) w.discretes tick) w.at_arrival w.after_handlers)
      no_handler_rows

  same_discretes : next.discretes ≡ w.discretes
  same_discretes = facts.discretes ∙ ap (λ (h : HandlerState). h.discretes) handled

  one_each : length next.states ≡ state_count m
  one_each = ap length (facts.states ∙ ap (λ (h : HandlerState). h.states) handled)
      ∙ length-map-range_with_len
      (λ j. int_at w.states j +ℤ slope_at m j w.levels w.discretes) 0 (state_count m)

  level_stays : (j : ℕ) → j < state_count m
      → int_eq (int_at w.levels j) (int_at next.levels j) ≡ true
  level_stays j h =
      let row : ℕ → Row = λ k. record {
        tick = tick;
        kind = kind.Level;
        var = k;
        level = int_at next.levels k;
        state = int_at next.states k;
      } in
      let rows : ℕ → List Row = λ k.
      if int_eq (int_at w.levels k) (int_at next.levels k) then [] else row k ∷ [] in
      let places : List ℕ = range_with_len 0 (length next.states) in
      let below : j < length next.states = omega (arith, h, one_each) in
      let plus : 0 + j ≡ j = omega arith in
      let at : get_or places j 0 ≡ j =
      get_or-range_with_len 0 (length next.states) j 0 below ∙ plus in
      let none : rows (get_or places j 0) ≡ [] =
      each_is_empty rows places j 0
      (omega (arith, below, length-range_with_len 0 (length next.states)))
      (no_rest (handlers_at m tick w).rows own_level_rows calm) in
      no_row (int_eq (int_at w.levels j) (int_at next.levels j)) (row j)
      (subst (λ (k : ℕ). rows k ≡ []) at none)

  unchanged : (var : ℕ) → has_changed m w next var ≡ false
  unchanged var =
      let g = var - state_count m in
      if_cases (λ (b : Bool). b ≡ false) (nat_lt var (state_count m))
      (not (int_eq (int_at w.levels var) (int_at next.levels var)))
      (not (int_eq (int_at w.discretes g) (int_at next.discretes g)))
      (λ t. ap not (level_stays var (ltb-true var (state_count m) t)))
      (λ f. ap not ((Decides-int_eq (int_at w.discretes g) (int_at next.discretes g)).1
      (ap (λ (d : List ℤ). int_at d g) (sym same_discretes))))

  reads_nothing : (row : SlopeRow) → reads_change m w next row ≡ false
  reads_nothing row =
      none_of (λ var. has_changed m w next var && row_reads var row)
      (range_with_len 0 (state_count m + discrete_count m))
      (λ var. ap (λ (b : Bool). b && row_reads var row) (unchanged var))

  not_affected : (tick == m.last) ≡ false → (j : ℕ) → is_touched m tick w next j ≡ false
  not_affected early j =
      let reinit : Row → Bool = λ row. is_reinit row.kind && row.var == j in
      four_fail (has_changed m w next j) (list_any reinit (handlers_at m tick w).rows)
      (reads_change m w next (row_at m j)) (tick == m.last) (unchanged j)
      (ap (λ (rows : List Row). list_any reinit rows) no_handler_rows)
      (reads_nothing (row_at m j)) early

-- ---- the ticks after a snapshot

module _ (Allows : ℕ → ℤ → ℤ → ℤ → Type 0) (m : Machine) where
  abbrev affected_at : ℕ → Snapshot → Snapshot → ℕ
  affected_at tick w next =
      count_by (is_touched m tick w next) (range_with_len 0 (state_count m))

  few_at : (tick : ℕ) (w next : Snapshot) → IsStepBy Allows m tick w (Ok next)
      → affected_at tick w next ≤ state_count m * (if is_visited m tick w next then 1 else 0)
  few_at tick w next s =
      let all : List ℕ = range_with_len 0 (state_count m) in
      let test = is_touched m tick w next in
      if_cases (λ (k : ℕ). count_by test all ≤ state_count m * k) (is_visited m tick w next) 1 0
      (λ t. omega (arith, count_by-le-length test all, length-range_with_len 0 (state_count m)))
      (λ f.
      let parts = each_fails (not (is_empty (tick_rows m tick w next)))
      (not (are_same_truths next.at_arrival w.after_handlers)) (tick == m.last) f in
      let none = count_none test all (not_affected Allows m tick w next
      (step_facts Allows m tick w next s) (empty_rows (tick_rows m tick w next) parts.0)
      parts.2) in omega (arith, none))

  add_up : (n v r a b : ℕ) → a ≤ n * v → b ≤ n * r → a + b ≤ n * (v + r)
  add_up n v r a b h k = rw (mul-add n v r) (omega (arith, h, k))

  pub few_after : (tick : ℕ) (w : Snapshot) (snapshots : List Snapshot) (overflow : Option ℕ)
      → IsExecutionBy Allows m tick w snapshots → HasAffectedBound m tick w snapshots overflow
  few_after tick w [] None leads = omega arith
  few_after tick w [] (Some var) leads = omega arith
  few_after tick w (next ∷ snapshots) overflow leads =
      add_up (state_count m) (if is_visited m (tick + 1) w next then 1 else 0)
      (visits_after m (tick + 1) next snapshots overflow) (affected_at (tick + 1) w next)
      (touches_after m (tick + 1) next snapshots overflow)
      (few_at (tick + 1) w next leads.0) (few_after (tick + 1) next snapshots overflow leads.1)

-- ---- the calls of a simulator

module _ (Rule : ℤ → ℤ → ℤ → ℤ → Type 0) (m : Machine) where
  silently : (tick : ℕ) (w : Snapshot) (silent : List Snapshot)
      → IsEventFreeExecution Rule m tick w silent → IsExecution Rule m tick w silent
  silently tick w [] leads = tt
  silently tick w (next ∷ silent) leads = (leads.0, silently (tick + 1) next silent leads.2)

  and_event : (tick : ℕ) (w : Snapshot) (silent : List Snapshot) (next : ℕ) (snapshot : Snapshot)
      → IsEventFreeExecution Rule m tick w silent → next ≡ tick + length silent + 1
      → IsStep Rule m next (last_snapshot w silent) (Ok snapshot)
      → IsExecution Rule m tick w (silent ++ snapshot ∷ [])
  and_event tick w [] next snapshot leads e s =
      let at : next ≡ tick + 1 = omega (arith, e) in
      (subst (λ (k : ℕ). IsStep Rule m k w (Ok snapshot)) at s, tt)
  and_event tick w (first ∷ silent) next snapshot leads e s =
      (leads.0, and_event (tick + 1) first silent next snapshot leads.2 (omega (arith, e)) s)

pub affected_states_are_bounded : AffectedStatesAreBounded
affected_states_are_bounded = record {
  free = λ m tick w snapshots overflow leads.
      few_after (IsFreeLevel m) m tick w snapshots overflow leads;
  event = λ name m tick w silent next snapshot visit.
      few_after (IsNextLevel (IsAllowedLevel name) m) m tick w (silent ++ snapshot ∷ []) None
      (and_event (IsAllowedLevel name) m tick w silent next snapshot visit.leads visit.is_next
      visit.is_step);
  done = λ name m tick w silent last snapshot free.
      few_after (IsNextLevel (IsAllowedLevel name) m) m tick w silent None
      (silently (IsAllowedLevel name) m tick w silent free.leads);
  over = λ name m tick w silent next var visit.
      few_after (IsNextLevel (IsAllowedLevel name) m) m tick w silent (Some var)
      (silently (IsAllowedLevel name) m tick w silent visit.leads);
  runs = λ name m run is.
      few_after (IsNextLevel (IsAllowedLevel name) m) m 0 (start_snapshot m) run.snapshots
      run.overflow is.steps;
  printed = λ rule m.
      few_after (IsFreeLevel m) m 0 (start_snapshot m) (run_by_rule rule m).snapshots
      (run_by_rule rule m).overflow (run_leads rule m);
}
