-- Branches fire only where they are due.
use Rattle.qss_machine.proofs.Common
use Common.{[], ℕ, ℤ, ◌&&◌, ◌++◌, ◌+◌, ◌<◌, ◌==◌, ◌||◌, ◌∙◌, ◌∷◌, ◌≡◌, ◌⊎◌, Action, add-zero, ap}
use Common.{arith, assign, assigned_value, Bool, BranchInfo, ClauseInfo, conditions, drop, eqb-true}
use Common.{exceeds, false, firing_flags, first_exceeding, fold, get_or, handlers_at, HandlerState}
use Common.{if_cases, inl, inr, is_some, IsFreeExecution, IsFreeLevel, IsStepBy, last_snapshot}
use Common.{length, length-map, List, list_any-append, Machine, moved_states, nat_tests, None, Ok}
use Common.{pos, refl, Reinit, Row, run_action, run_clauses, run_first_due, Set, Snapshot}
use Common.{start_discretes, start_snapshot, start_states, suc, sum_by-cons, sym, take, true}
use Common.{truths, zero, zero-add}
use Rattle.std.proofs.Common.{suc-add, add_assoc}
use Rattle.qss_machine.specs.Handlers.{run_branch, fire_row, run_clause}
use Rattle.qss_machine.specs.Machines.{truth}
use Rattle.qss_machine.proofs.Near.{step_facts}
use Rattle.qss_machine.specs.Firing.{due_at, is_firing_row, has_fired, first_place, IsFirstDue}
use Rattle.qss_machine.specs.Firing.{HasTruths, BranchesFireWhenDue}
use Rattle.mu_num.specs.ListedPlaces.{flag_at}
use Rattle.qss_machine.specs.declared.machine_parts.RowKind.TheVariants as kind

-- ---- flags

due_flag : (now at_arrival after_handlers : List Bool) (place : ℕ) → flag_at (firing_flags now at_arrival after_handlers) place ≡ true →
    (flag_at now place ≡ true) × ((flag_at at_arrival place && flag_at after_handlers place) ≡ false)
due_flag [] at_arrival after_handlers place e = absurd (cc)
due_flag (n ∷ now) [] after_handlers place e = absurd (cc)
due_flag (n ∷ now) (a ∷ at_arrival) [] place e = absurd (cc)
due_flag (true ∷ now) (true ∷ at_arrival) (true ∷ after_handlers) zero e = absurd (cc)
due_flag (true ∷ now) (true ∷ at_arrival) (false ∷ after_handlers) zero e = (refl, refl)
due_flag (true ∷ now) (false ∷ at_arrival) (s ∷ after_handlers) zero e = (refl, refl)
due_flag (false ∷ now) (a ∷ at_arrival) (s ∷ after_handlers) zero e = absurd (cc)
due_flag (n ∷ now) (a ∷ at_arrival) (s ∷ after_handlers) (suc place) e = due_flag now at_arrival after_handlers place e

flag_take : (n : ℕ) (flags : List Bool) (place : ℕ) → flag_at (take n flags) place ≡ true → flag_at flags place ≡ true
flag_take zero flags place e = absurd (cc)
flag_take (suc n) [] place e = absurd (cc)
flag_take (suc n) (f ∷ flags) zero e = e
flag_take (suc n) (f ∷ flags) (suc place) e = flag_take n flags place e

flag_taken : (n : ℕ) (flags : List Bool) (place : ℕ) → place < n → flag_at (take n flags) place ≡ flag_at flags place
flag_taken zero flags place h = absurd (omega arith)
flag_taken (suc n) [] place h = refl
flag_taken (suc n) (f ∷ flags) zero h = refl
flag_taken (suc n) (f ∷ flags) (suc place) h = flag_taken n flags place (omega arith)

flag_within : (n : ℕ) (flags : List Bool) (place : ℕ) → flag_at (take n flags) place ≡ true → place < n
flag_within zero flags place e = absurd (cc)
flag_within (suc n) [] place e = absurd (cc)
flag_within (suc n) (f ∷ flags) zero e = omega arith
flag_within (suc n) (f ∷ flags) (suc place) e = omega (arith, flag_within n flags place e)

flag_drop : (n : ℕ) (flags : List Bool) (place : ℕ) → flag_at (drop n flags) place ≡ flag_at flags (n + place)
flag_drop zero flags place = ap (flag_at flags) (sym (zero-add place))
flag_drop (suc n) [] place = refl
flag_drop (suc n) (f ∷ flags) place = flag_drop n flags place ∙ ap (flag_at (f ∷ flags)) (sym (suc-add n place))

-- a flag of a later clause, among all flags and among those after the first clause
place_shift : (due : List Bool) (clause : ClauseInfo) (clauses : List ClauseInfo) (k i : ℕ) →
    flag_at due (first_place (clause ∷ clauses) (suc k) + i) ≡ flag_at (drop (length clause.branches) due) (first_place clauses k + i)
place_shift due clause clauses k i =
    ap (λ n. flag_at due (n + i)) (sum_by-cons (λ (c : ClauseInfo). length c.branches) clause (take k clauses))
    ∙ ap (flag_at due) (add_assoc (length clause.branches) (first_place clauses k) i)
    ∙ sym (flag_drop (length clause.branches) due (first_place clauses k + i))

-- no flag before a place is set
abbrev NoneBefore : List Bool → ℕ → Type 0
NoneBefore due j = (i : ℕ) → i < j → flag_at due i ≡ false

none_later : (due : List Bool) (j : ℕ) → NoneBefore due j → NoneBefore (false ∷ due) (suc j)
none_later due j none zero h = refl
none_later due j none (suc i) h = none i (omega arith)

-- ---- rows

false_end : (x y : Bool) → y ≡ false → (x || (y || false)) ≡ x
false_end true y e = refl
false_end false y e = e'
  where
    e' : (y || false) ≡ false
    e' = by_case y e
      where
        by_case : (y : Bool) → y ≡ false → (y || false) ≡ false
        by_case true e = e
        by_case false e = refl

push_other : (c b : ℕ) (rows : List Row) (row : Row) → is_firing_row c b row.kind ≡ false → has_fired c b (rows ++ row ∷ []) ≡ has_fired c b rows
push_other c b rows row e =
    list_any-append (λ (row : Row). is_firing_row c b row.kind) rows (row ∷ []) ∙ false_end (has_fired c b rows) (is_firing_row c b row.kind) e

either : (x y z : Bool) → (x || ((y && z) || false)) ≡ true → (x ≡ true) ⊎ ((y ≡ true) × (z ≡ true))
either true y z e = inl refl
either false true true e = inr (refl, refl)
either false true false e = absurd (cc)
either false false z e = absurd (cc)

module _ (m : Machine) (tick : ℕ) (before : List ℤ) (c b : ℕ) where
  assign_same : (h : HandlerState) (action : Action) (z : ℤ) → has_fired c b (assign m tick h action z).rows ≡ has_fired c b h.rows
  assign_same h (Set var form) z =
      if_cases (λ (after : HandlerState). has_fired c b after.rows ≡ has_fired c b h.rows) (exceeds 43 z) _ _ (λ e. refl)
      (λ e. push_other c b h.rows (record { tick = tick; kind = kind.Set; var = var; level = z; state = pos 0 }) refl)
  assign_same h (Reinit var form) z =
      if_cases (λ (after : HandlerState). has_fired c b after.rows ≡ has_fired c b h.rows) (exceeds 88 z) _ _ (λ e. refl)
      (λ e. push_other c b h.rows (record { tick = tick; kind = kind.Reinit; var = var; level = pos 0; state = z }) refl)

  action_same : (h : HandlerState) (action : Action) → has_fired c b (run_action m tick before h action).rows ≡ has_fired c b h.rows
  action_same h action =
      if_cases (λ (after : HandlerState). has_fired c b after.rows ≡ has_fired c b h.rows) (is_some h.overflow) h (assign m tick h action (assigned_value m tick before h action))
      (λ e. refl) (λ e. assign_same h action (assigned_value m tick before h action))

  actions_same : (h : HandlerState) (actions : List Action) → has_fired c b (fold (run_action m tick before) h actions).rows ≡ has_fired c b h.rows
  actions_same h [] = refl
  actions_same h (action ∷ actions) = actions_same (run_action m tick before h action) actions ∙ action_same h action

  branch_fired : (clause branch : ℕ) (h : HandlerState) (actions : List Action) → has_fired c b (run_branch m tick before clause branch h actions).rows ≡ true →
      (has_fired c b h.rows ≡ true) ⊎ ((c ≡ clause) × (b ≡ branch))
  branch_fired clause branch h actions e =
      let rows = h.rows ++ fire_row tick clause branch ∷ [] in
      let same = actions_same (record h { rows = rows }) actions in
      let split = sym (list_any-append (λ (row : Row). is_firing_row c b row.kind) h.rows (fire_row tick clause branch ∷ [])) ∙ sym same ∙ e in
      elim (either (has_fired c b h.rows) (c == clause) (b == branch) split) [ inl x ↦ inl x | inr p ↦ inr (eqb-true c clause p.0, eqb-true b branch p.1) ]

  -- of a clause's branches
  first_fired : (clause number : ℕ) (h : HandlerState) (branches : List BranchInfo) (due : List Bool) →
      has_fired c b (run_first_due m tick before clause number h branches due).rows ≡ true →
      (has_fired c b h.rows ≡ true) ⊎ ((c ≡ clause) × ((j : ℕ) × (b ≡ number + j) × (flag_at due j ≡ true) × NoneBefore due j))
  first_fired clause number h [] due e = inl e
  first_fired clause number h (branch ∷ branches) [] e = inl e
  first_fired clause number h (branch ∷ branches) (true ∷ due) e =
      elim (branch_fired clause number h branch.actions e) [ inl x ↦ inl x | inr p ↦ inr (p.0, (0, p.1 ∙ sym (add-zero number), refl, λ i h. absurd (omega arith))) ]
  first_fired clause number h (branch ∷ branches) (false ∷ due) e =
      elim (first_fired clause (number + 1) h branches due e) [ inl x ↦ inl x | inr p ↦ inr (p.0, (suc p.1.0, later p.1.0 p.1.1, p.1.2, none_later due p.1.0 p.1.3)) ]
    where
      later : (j : ℕ) → b ≡ number + 1 + j → b ≡ number + suc j
      later j f = omega arith

  clause_fired : (number : ℕ) (h : HandlerState) (clause : ClauseInfo) (due : List Bool) →
      has_fired c b (run_clause m tick before number h clause due).rows ≡ true →
      (has_fired c b h.rows ≡ true) ⊎ ((c ≡ number) × (flag_at due b ≡ true) × NoneBefore due b)
  clause_fired number h clause due =
      if_cases (λ (after : HandlerState). has_fired c b after.rows ≡ true → (has_fired c b h.rows ≡ true) ⊎ ((c ≡ number) × (flag_at due b ≡ true) × NoneBefore due b))
      (is_some h.overflow) h (run_first_due m tick before number 0 h clause.branches due)
      (λ e x. inl x)
      (λ e x. elim (first_fired number 0 h clause.branches due x) [ inl y ↦ inl y | inr p ↦ inr (p.0, (at_place p.1.0 p.1.1 p.1.2 p.1.3).0, (at_place p.1.0 p.1.1 p.1.2 p.1.3).1) ])
    where
      at_place : (j : ℕ) → b ≡ 0 + j → flag_at due j ≡ true → NoneBefore due j → (flag_at due b ≡ true) × NoneBefore due b
      at_place j f x none = let g : b ≡ j = omega arith in (ap (flag_at due) g ∙ x, λ i h. none i (omega (arith, g)))

  clauses_fired : (number : ℕ) (h : HandlerState) (clauses : List ClauseInfo) (due : List Bool) →
      has_fired c b (run_clauses m tick before number h clauses due).rows ≡ true →
      (has_fired c b h.rows ≡ true)
      ⊎ ((k : ℕ) × (c ≡ number + k) × (flag_at due (first_place clauses k + b) ≡ true) × ((i : ℕ) → i < b → flag_at due (first_place clauses k + i) ≡ false))
  clauses_fired number h [] due e = inl e
  clauses_fired number h (clause ∷ clauses) due e =
      elim (clauses_fired (number + 1) (run_clause m tick before number h clause (take (length clause.branches) due)) clauses (drop (length clause.branches) due) e) [
        | inl x ↦ elim (clause_fired number h clause (take (length clause.branches) due) x) [
          | inl y ↦ inl y
          | inr p ↦ inr (0, p.0 ∙ sym (add-zero number), ap (flag_at due) (zero-add b) ∙ flag_take (length clause.branches) due b p.1, own p.1 p.2)
        ]
        | inr p ↦ inr (suc p.0, later p.0 p.1, place_shift due clause clauses p.0 b ∙ p.2, λ i h. place_shift due clause clauses p.0 i ∙ p.3 i h)
      ]
    where
      later : (k : ℕ) → c ≡ number + 1 + k → c ≡ number + suc k
      later k f = omega arith

      own : flag_at (take (length clause.branches) due) b ≡ true → NoneBefore (take (length clause.branches) due) b →
          (i : ℕ) → i < b → flag_at due (0 + i) ≡ false
      own flag none i h =
          let within = flag_within (length clause.branches) due b flag in
          let low : i < length clause.branches = omega (arith, within) in
          ap (flag_at due) (zero-add i) ∙ sym (flag_taken (length clause.branches) due i low) ∙ none i h

fired_due : (m : Machine) (tick : ℕ) (w : Snapshot) (c b : ℕ) → has_fired c b (handlers_at m tick w).rows ≡ true → IsFirstDue m tick w c b
fired_due m tick w c b e =
    elim (clauses_fired m tick w.discretes c b 0 (record { states = moved_states m w; discretes = w.discretes; rows = []; overflow = first_exceeding 88 (moved_states m w) }) m.clauses (due_at m tick w) e) [
      | inl x ↦ absurd (cc)
      | inr p ↦ same p.0 p.1 p.2 p.3
    ]
  where
    same : (k : ℕ) → c ≡ 0 + k → flag_at (due_at m tick w) (first_place m.clauses k + b) ≡ true →
        ((i : ℕ) → i < b → flag_at (due_at m tick w) (first_place m.clauses k + i) ≡ false) → IsFirstDue m tick w c b
    same k f x none =
        let g : c ≡ k = omega arith in
        record {
          due = ap (λ n. flag_at (due_at m tick w) (first_place m.clauses n + b)) g ∙ x;
          earlier = λ i h. ap (λ n. flag_at (due_at m tick w) (first_place m.clauses n + i)) g ∙ none i h;
        }

-- ---- the first due branch fires

false_or : (x : Bool) → ((x && x) || false) ≡ true → x ≡ true
false_or true e = refl
false_or false e = absurd (cc)

or_true : (x y : Bool) → y ≡ true → (x || (y || false)) ≡ true
or_true true y e = refl
or_true false true e = refl
or_true false false e = absurd (cc)

left_true : (x y : Bool) → x ≡ true → (x || y) ≡ true
left_true true y e = refl
left_true false y e = absurd (cc)

and_same : (c b : ℕ) → (c == c && b == b) ≡ true
and_same c b = grind (arith, nat_tests)

module _ (m : Machine) (tick : ℕ) (before : List ℤ) where
  -- a row that stands stays
  branch_kept : (c b clause branch : ℕ) (h : HandlerState) (actions : List Action) → has_fired c b h.rows ≡ true → has_fired c b (run_branch m tick before clause branch h actions).rows ≡ true
  branch_kept c b clause branch h actions e =
      actions_same m tick before c b (record h { rows = h.rows ++ fire_row tick clause branch ∷ [] }) actions
      ∙ list_any-append (λ (row : Row). is_firing_row c b row.kind) h.rows (fire_row tick clause branch ∷ [])
      ∙ left_true (has_fired c b h.rows) _ e

  first_kept : (c b clause number : ℕ) (h : HandlerState) (branches : List BranchInfo) (due : List Bool) → has_fired c b h.rows ≡ true →
      has_fired c b (run_first_due m tick before clause number h branches due).rows ≡ true
  first_kept c b clause number h [] due e = e
  first_kept c b clause number h (branch ∷ branches) [] e = e
  first_kept c b clause number h (branch ∷ branches) (true ∷ due) e = branch_kept c b clause number h branch.actions e
  first_kept c b clause number h (branch ∷ branches) (false ∷ due) e = first_kept c b clause (number + 1) h branches due e

  clauses_kept : (c b number : ℕ) (h : HandlerState) (clauses : List ClauseInfo) (due : List Bool) → has_fired c b h.rows ≡ true → has_fired c b (run_clauses m tick before number h clauses due).rows ≡ true
  clauses_kept c b number h [] due e = e
  clauses_kept c b number h (clause ∷ clauses) due e =
      clauses_kept c b (number + 1) (run_clause m tick before number h clause (take (length clause.branches) due)) clauses (drop (length clause.branches) due)
      (if_cases (λ (after : HandlerState). has_fired c b after.rows ≡ true) (is_some h.overflow) h (run_first_due m tick before number 0 h clause.branches (take (length clause.branches) due))
      (λ x. e) (λ x. first_kept c b number 0 h clause.branches (take (length clause.branches) due) e))

  branch_fires : (clause branch : ℕ) (h : HandlerState) (actions : List Action) → has_fired clause branch (run_branch m tick before clause branch h actions).rows ≡ true
  branch_fires clause branch h actions =
      actions_same m tick before clause branch (record h { rows = h.rows ++ fire_row tick clause branch ∷ [] }) actions
      ∙ list_any-append (λ (row : Row). is_firing_row clause branch row.kind) h.rows (fire_row tick clause branch ∷ [])
      ∙ or_true (has_fired clause branch h.rows) (clause == clause && branch == branch) (and_same clause branch)

  first_fires : (clause number j : ℕ) (h : HandlerState) (branches : List BranchInfo) (due : List Bool) → j < length branches → flag_at due j ≡ true →
      ((i : ℕ) → i < j → flag_at due i ≡ false) → has_fired clause (number + j) (run_first_due m tick before clause number h branches due).rows ≡ true
  first_fires clause number j h [] due low flag earlier = absurd (omega arith)
  first_fires clause number j h (branch ∷ branches) [] low flag earlier = absurd (cc)
  first_fires clause number zero h (branch ∷ branches) (true ∷ due) low flag earlier =
      ap (λ b. has_fired clause b (run_branch m tick before clause number h branch.actions).rows) (add-zero number) ∙ branch_fires clause number h branch.actions
  first_fires clause number zero h (branch ∷ branches) (false ∷ due) low flag earlier = absurd (cc)
  first_fires clause number (suc j) h (branch ∷ branches) (true ∷ due) low flag earlier = absurd (let no = earlier 0 (omega arith) in cc)
  first_fires clause number (suc j) h (branch ∷ branches) (false ∷ due) low flag earlier =
      ap (λ b. has_fired clause b (run_first_due m tick before clause (number + 1) h branches due).rows) (shift number j)
      ∙ first_fires clause (number + 1) j h branches due (omega arith) flag (λ i k. earlier (suc i) (omega arith))
    where
      shift : (number j : ℕ) → number + suc j ≡ number + 1 + j
      shift number j = omega arith

  clause_fires : (number b : ℕ) (h : HandlerState) (clause : ClauseInfo) (due : List Bool) → b < length clause.branches → flag_at due b ≡ true →
      ((i : ℕ) → i < b → flag_at due i ≡ false) → h.overflow ≡ None → has_fired number b (run_clause m tick before number h clause due).rows ≡ true
  clause_fires number b h clause due low flag earlier calm =
      if_cases (λ (after : HandlerState). has_fired number b after.rows ≡ true) (is_some h.overflow) h (run_first_due m tick before number 0 h clause.branches due)
      (λ e. absurd (let no = sym (ap is_some calm) ∙ e in cc))
      (λ e. ap (λ x. has_fired number x (run_first_due m tick before number 0 h clause.branches due).rows) (sym (zero-add b)) ∙ first_fires number 0 b h clause.branches due low flag earlier)

  clauses_fire : (number k b : ℕ) (h : HandlerState) (clauses : List ClauseInfo) (due : List Bool) → k < length clauses →
      b < length (get_or clauses k (record { branches = [] })).branches → flag_at due (first_place clauses k + b) ≡ true →
      ((i : ℕ) → i < b → flag_at due (first_place clauses k + i) ≡ false) →
      (run_clauses m tick before number h (take k clauses) due).overflow ≡ None → has_fired (number + k) b (run_clauses m tick before number h clauses due).rows ≡ true
  clauses_fire number k b h [] due low within flag earlier calm = absurd (omega arith)
  clauses_fire number zero b h (clause ∷ clauses) due low within flag earlier calm =
      let own = take (length clause.branches) due in
      let next = run_clause m tick before number h clause own in
      let mine = flag_taken (length clause.branches) due b within ∙ ap (flag_at due) (sym (zero-add b)) ∙ flag in
      let others = λ (i : ℕ) (k : i < b). flag_taken (length clause.branches) due i (omega (arith, within)) ∙ ap (flag_at due) (sym (zero-add i)) ∙ earlier i k in
      ap (λ c. has_fired c b (run_clauses m tick before (number + 1) next clauses (drop (length clause.branches) due)).rows) (add-zero number)
      ∙ clauses_kept number b (number + 1) next clauses (drop (length clause.branches) due) (clause_fires number b h clause own within mine others calm)
  clauses_fire number (suc k) b h (clause ∷ clauses) due low within flag earlier calm =
      let next = run_clause m tick before number h clause (take (length clause.branches) due) in
      ap (λ c. has_fired c b (run_clauses m tick before (number + 1) next clauses (drop (length clause.branches) due)).rows) (shift number k)
      ∙ clauses_fire (number + 1) k b next clauses (drop (length clause.branches) due) (omega arith) within (shifted b ∙ flag) (λ i l. shifted i ∙ earlier i l) calm
    where
      shift : (number k : ℕ) → number + suc k ≡ number + 1 + k
      shift number k = omega arith

      shifted : (i : ℕ) → flag_at (drop (length clause.branches) due) (first_place clauses k + i) ≡ flag_at due (first_place (clause ∷ clauses) (suc k) + i)
      shifted i = sym (place_shift due clause clauses k i)

-- ---- due where the truths say so

flag_due : (now at_arrival after_handlers : List Bool) (place : ℕ) → length at_arrival ≡ length now → length after_handlers ≡ length now → flag_at now place ≡ true →
    (flag_at at_arrival place && flag_at after_handlers place) ≡ false → flag_at (firing_flags now at_arrival after_handlers) place ≡ true
flag_due [] at_arrival after_handlers place ea es e f = absurd (cc)
flag_due (n ∷ now) [] after_handlers place ea es e f = absurd (omega (arith, ea))
flag_due (n ∷ now) (a ∷ at_arrival) [] place ea es e f = absurd (omega (arith, es))
flag_due (true ∷ now) (true ∷ at_arrival) (true ∷ after_handlers) zero ea es e f = absurd (cc)
flag_due (true ∷ now) (true ∷ at_arrival) (false ∷ after_handlers) zero ea es e f = refl
flag_due (true ∷ now) (false ∷ at_arrival) (s ∷ after_handlers) zero ea es e f = refl
flag_due (false ∷ now) (a ∷ at_arrival) (s ∷ after_handlers) zero ea es e f = absurd (cc)
flag_due (n ∷ now) (a ∷ at_arrival) (s ∷ after_handlers) (suc place) ea es e f = flag_due now at_arrival after_handlers place (omega (arith, ea)) (omega (arith, es)) e f

truths_count : (m : Machine) (states discretes : List ℤ) (tick : ℕ) → length (truths m states discretes tick) ≡ length (conditions m)
truths_count m states discretes tick = length-map (conditions m) (λ condition. truth m condition states discretes tick)

start_truths : (m : Machine) → HasTruths m (start_snapshot m)
start_truths m = record {
  at_arrival = truths_count m (start_states m) (start_discretes m) 0;
  after_handlers = truths_count m (start_states m) (start_discretes m) 0;
}

step_truths : (m : Machine) (tick : ℕ) (w next : Snapshot) → IsStepBy (IsFreeLevel m) m tick w (Ok next) → HasTruths m next
step_truths m tick w next s =
    let facts = step_facts (IsFreeLevel m) m tick w next s in
    record {
      at_arrival = ap length facts.at_arrival ∙ truths_count m (moved_states m w) w.discretes tick;
      after_handlers = ap length facts.after_handlers ∙ truths_count m next.states next.discretes tick;
    }

leads_truths : (m : Machine) (tick : ℕ) (w : Snapshot) (snapshots : List Snapshot) → HasTruths m w → IsFreeExecution m tick w snapshots → HasTruths m (last_snapshot w snapshots)
leads_truths m tick w [] have leads = have
leads_truths m tick w (next ∷ snapshots) have leads = leads_truths m (tick + 1) next snapshots (step_truths m (tick + 1) w next leads.0) leads.1

pub branches_fire_when_due : BranchesFireWhenDue
branches_fire_when_due = record {
  only_due = λ m tick w clause branch e. fired_due m tick w clause branch e;
  due_means = λ m tick w place e. due_flag _ w.at_arrival w.after_handlers place e;
  due_where = λ m tick w place have now not_both.
      let count = length-map (conditions m) (λ condition. truth m condition (moved_states m w) w.discretes tick) in
      flag_due (truths m (moved_states m w) w.discretes tick) w.at_arrival w.after_handlers place (have.at_arrival ∙ sym count) (have.after_handlers ∙ sym count) now not_both;
  have_truths = λ m snapshots leads. leads_truths m 0 (start_snapshot m) snapshots (start_truths m) leads;
  first_due_fires = λ m tick w clause branch low within first calm.
      ap (λ c. has_fired c branch (handlers_at m tick w).rows) (sym (zero-add clause))
      ∙ clauses_fire m tick w.discretes 0 clause branch (record { states = moved_states m w; discretes = w.discretes; rows = []; overflow = first_exceeding 88 (moved_states m w) })
      m.clauses (due_at m tick w) low within first.due first.earlier calm;
}
