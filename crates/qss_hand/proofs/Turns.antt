-- Clauses at their turns.
use Rattle.qss_hand.proofs.Common
use Common.{[], ℕ, ℤ, ◌++◌, ◌+◌, ◌<◌, ◌∙◌, ◌∷◌, ◌≡◌, ◌≤◌, Action, All, ap, arith, Bool, BranchInfo}
use Common.{ClauseInfo, drop, drop_more, false, flat_map, fold, get_or, HandlerState, if_cases}
use Common.{is_some, IsClause, item_count, length, length-append, length-map, List, Machine, map}
use Common.{None, refl, row_room, run_action, Some, suc, sum_by-cons, sym, take, true, zero}
use Rattle.std.proofs.lemmas.List.{drop-drop}
use Rattle.std.proofs.lemmas.List.Sums.{sum_by-drop_more}
use Rattle.std.specs.List.{sum_by}
use Rattle.qss_machine.specs.Handlers.{conditions, fire_row, run_branch, run_first_due, run_clause}
use Rattle.qss_machine.specs.Handlers.{run_clauses}
use Rattle.mu_num.specs.ListedPlaces.{flag_at}
use Rattle.qss_hand.specs.Rooms.{clause_room}
use Rattle.qss_hand.proofs.AfterStatements.{rows_action}
use Rattle.qss_hand.proofs.Branches.{width_of}

module _ (m : Machine) (tick : ℕ) (before : List ℤ) where
  -- after an overflow clauses change nothing
  pub clauses_stay : (number : ℕ) (h : HandlerState) (var : ℕ) (clauses : List ClauseInfo) (due : List Bool) → h.overflow ≡ Some var → run_clauses m tick before number h clauses due ≡ h
  clauses_stay number h var [] due e = refl
  clauses_stay number h var (clause ∷ clauses) due e =
      let some : is_some h.overflow ≡ true = ap is_some e in
      let stays = if_cases (λ (g : HandlerState). g ≡ h) (is_some h.overflow) h (run_first_due m tick before number 0 h clause.branches (take (length clause.branches) due)) (λ t. refl) (λ f. absurd (cc)) in
      ap (λ (g : HandlerState). run_clauses m tick before (number + 1) g clauses (drop (length clause.branches) due)) stays
      ∙ clauses_stay (number + 1) h var clauses (drop (length clause.branches) due) e

  -- a clause of which no branch is due does nothing
  pub none_due : (clause number : ℕ) (h : HandlerState) (branches : List BranchInfo) (due : List Bool) → ((k : ℕ) → flag_at due k ≡ false) →
      run_first_due m tick before clause number h branches due ≡ h
  none_due clause number h [] due none = refl
  none_due clause number h (branch ∷ branches) [] none = refl
  none_due clause number h (branch ∷ branches) (true ∷ due) none = let e : true ≡ false = none 0 in absurd (cc)
  none_due clause number h (branch ∷ branches) (false ∷ due) none = none_due clause (number + 1) h branches due (λ k. none (suc k))

  -- a clause's first due branch fires
  pub first_fires : (clause number b : ℕ) (h : HandlerState) (branches : List BranchInfo) (due : List Bool) (d : BranchInfo) → b < length branches →
      ((k : ℕ) → k < b → flag_at due k ≡ false) → flag_at due b ≡ true →
      run_first_due m tick before clause number h branches due ≡ run_branch m tick before clause (number + b) h (get_or branches b d).actions
  first_fires clause number b h [] due d inside none here = absurd (omega (arith, inside))
  first_fires clause number b h (branch ∷ branches) [] d inside none here = absurd (cc)
  first_fires clause number zero h (branch ∷ branches) (true ∷ due) d inside none here =
      let e : number ≡ number + 0 = omega arith in ap (λ n. run_branch m tick before clause n h branch.actions) e
  first_fires clause number zero h (branch ∷ branches) (false ∷ due) d inside none here = absurd (cc)
  first_fires clause number (suc b) h (branch ∷ branches) (true ∷ due) d inside none here = let e : true ≡ false = none 0 (omega arith) in absurd (cc)
  first_fires clause number (suc b) h (branch ∷ branches) (false ∷ due) d inside none here =
      let e : (number + 1) + b ≡ number + suc b = omega arith in
      first_fires clause (number + 1) b h branches due d (omega (arith, inside)) (λ k below. none (suc k) (omega arith)) here
      ∙ ap (λ n. run_branch m tick before clause n h (get_or branches b d).actions) e

  rows_actions : (h : HandlerState) (actions : List Action) → length (fold (run_action m tick before) h actions).rows ≤ length h.rows + length actions
  rows_actions h [] = omega arith
  rows_actions h (action ∷ actions) = omega (arith, rows_actions (run_action m tick before h action) actions, rows_action m h tick before action)

  -- a branch adds one row, and one for each statement at most
  pub rows_branch : (clause branch : ℕ) (h : HandlerState) (actions : List Action) → length (run_branch m tick before clause branch h actions).rows ≤ length h.rows + 1 + length actions
  rows_branch clause branch h actions =
      omega (arith, rows_actions (record h { rows = h.rows ++ fire_row tick clause branch ∷ [] }) actions, length-append h.rows (fire_row tick clause branch ∷ []))

  -- and a clause no more than one row and its statements
  pub rows_turn : (clause number : ℕ) (h : HandlerState) (branches : List BranchInfo) (due : List Bool) →
      length (run_first_due m tick before clause number h branches due).rows ≤ length h.rows + (1 + sum_by (λ (b : BranchInfo). length b.actions) branches)
  rows_turn clause number h [] due = omega arith
  rows_turn clause number h (branch ∷ branches) [] = omega arith
  rows_turn clause number h (branch ∷ branches) (true ∷ due) =
      omega (arith, rows_branch clause number h branch.actions, sum_by-cons (λ (b : BranchInfo). length b.actions) branch branches)
  rows_turn clause number h (branch ∷ branches) (false ∷ due) =
      omega (arith, rows_turn clause (number + 1) h branches due, sum_by-cons (λ (b : BranchInfo). length b.actions) branch branches)

  -- and all clauses no more than their room
  pub rows_clauses : (number : ℕ) (h : HandlerState) (clauses : List ClauseInfo) (due : List Bool) →
      length (run_clauses m tick before number h clauses due).rows ≤ length h.rows + row_room clauses
  rows_clauses number h [] due = omega arith
  rows_clauses number h (clause ∷ clauses) due =
      let flags = take (length clause.branches) due in
      let next = run_clause m tick before number h clause flags in
      let turn : length next.rows ≤ length h.rows + clause_room clause =
      if_cases (λ (g : HandlerState). length g.rows ≤ length h.rows + clause_room clause) (is_some h.overflow) h (run_first_due m tick before number 0 h clause.branches flags)
      (λ t. omega arith) (λ f. rows_turn number 0 h clause.branches flags) in
      omega (arith, rows_clauses (number + 1) next clauses (drop (length clause.branches) due), turn, sum_by-cons clause_room clause clauses)

  -- clauses go on with the next one
  pub next_turn : (i first : ℕ) (h next : HandlerState) (clauses : List ClauseInfo) (due : List Bool) (d : ClauseInfo) → i < length clauses → h.overflow ≡ None →
      next ≡ run_first_due m tick before i 0 h (get_or clauses i d).branches (take (length (get_or clauses i d).branches) (drop first due)) →
      run_clauses m tick before i h (drop i clauses) (drop first due)
      ≡ run_clauses m tick before (i + 1) next (drop (i + 1) clauses) (drop (first + length (get_or clauses i d).branches) due)
  next_turn i first h next clauses due d inside calm is =
      let clause : ClauseInfo = get_or clauses i d in
      let width : ℕ = length clause.branches in
      let turn : run_clause m tick before i h clause (take width (drop first due)) ≡ next =
      if_cases (λ (g : HandlerState). g ≡ next) (is_some h.overflow) h (run_first_due m tick before i 0 h clause.branches (take width (drop first due)))
      (λ t. let none : is_some h.overflow ≡ false = ap is_some calm in absurd (cc)) (λ f. sym is) in
      ap (λ (rest : List ClauseInfo). run_clauses m tick before i h rest (drop first due)) (drop_more clauses i d inside)
      ∙ ap (λ (g : HandlerState). run_clauses m tick before (i + 1) g (drop (i + 1) clauses) (drop width (drop first due))) turn
      ∙ ap (run_clauses m tick before (i + 1) next (drop (i + 1) clauses)) (drop-drop width first due)

-- how many branches clauses have
pub length-conditions : (clauses : List ClauseInfo) →
    length (flat_map (λ (clause : ClauseInfo). map (λ (branch : BranchInfo). branch.condition) clause.branches) clauses) ≡ sum_by (λ (clause : ClauseInfo). length clause.branches) clauses
length-conditions [] = refl
length-conditions (clause ∷ clauses) =
    length-append (map (λ (branch : BranchInfo). branch.condition) clause.branches) _
    ∙ ap (λ n. n + length (flat_map (λ (clause : ClauseInfo). map (λ (branch : BranchInfo). branch.condition) clause.branches) clauses)) (length-map clause.branches (λ (branch : BranchInfo). branch.condition))
    ∙ ap (λ n. length clause.branches + n) (length-conditions clauses)
    ∙ sym (sum_by-cons (λ (clause : ClauseInfo). length clause.branches) clause clauses)

one_each : {X : Type 0} (f : X → ℕ) (xs : List X) → sum_by (λ x. 1 + f x) xs ≡ length xs + sum_by f xs
one_each f [] = omega arith
one_each f (x ∷ xs) = omega (arith, sum_by-cons (λ y. 1 + f y) x xs, sum_by-cons f x xs, one_each f xs)

few_by : (n g : ℕ) (clauses : List ClauseInfo) → All (IsClause n g) clauses → (sum_by width_of clauses ≤ item_count clauses) × (length clauses ≤ item_count clauses)
few_by n g [] all = (omega arith, omega arith)
few_by n g (clause ∷ clauses) all =
    let items = λ (c : ClauseInfo). sum_by (λ (b : BranchInfo). 1 + length b.actions) c.branches in
    let rest = few_by n g clauses (λ k d h. all (suc k) d (omega arith)) in
    let own = one_each (λ (b : BranchInfo). length b.actions) clause.branches in
    let some = (all 0 clause (omega arith)).some_branch in
    (omega (arith, rest.0, own, sum_by-cons width_of clause clauses, sum_by-cons items clause clauses), omega (arith, rest.1, own, some, sum_by-cons items clause clauses))

pub conditions_few : (m : Machine) → length (conditions m) ≤ 16384
conditions_few m = omega (arith, length-conditions m.clauses, (few_by _ _ m.clauses m.has_clauses.each).0, m.has_clauses.few)

pub clauses_few : (m : Machine) → length m.clauses ≤ 16384
clauses_few m = omega (arith, (few_by _ _ m.clauses m.has_clauses.each).1, m.has_clauses.few)

-- the room for the clauses from one on
pub room-drop : (clauses : List ClauseInfo) (i : ℕ) (d : ClauseInfo) → i < length clauses → row_room (drop i clauses) ≡ clause_room (get_or clauses i d) + row_room (drop (i + 1) clauses)
room-drop clauses i d h = sum_by-drop_more clause_room clauses i d h
