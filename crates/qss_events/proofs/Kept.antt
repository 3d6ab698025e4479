-- What holds before handlers, and goes on over each row of a branch and each assignment, holds after them.
use Rattle.qss_events.proofs.Common
use Common.{[], ℕ, ℤ, ◌++◌, ◌+◌, ◌∷◌, Action, All, All-tail, arith, assign, assigned_value, Bool}
use Common.{BranchInfo, ClauseInfo, discrete_count, drop, false, fire_row, fold, HandlerState}
use Common.{if_cases, is_some, IsAction, IsBranch, IsClause, length, List, Machine, run_action}
use Common.{run_clauses, run_first_due, state_count, take, true}
use Rattle.qss_machine.specs.Handlers.{run_clause}

module _ (m : Machine) (tick : ℕ) (before : List ℤ) (Holds : HandlerState → Type 0)
    (fires : (h : HandlerState) (clause branch : ℕ) → Holds h → Holds (record h { rows = h.rows ++ fire_row tick clause branch ∷ [] }))
    (assigns : (h : HandlerState) (action : Action) (z : ℤ) → IsAction (state_count m) (discrete_count m) action → Holds h → Holds (assign m tick h action z)) where
  after_action : (h : HandlerState) (action : Action) → IsAction (state_count m) (discrete_count m) action → Holds h → Holds (run_action m tick before h action)
  after_action h action known holds =
      if_cases Holds (is_some h.overflow) h (assign m tick h action (assigned_value m tick before h action)) (λ e. holds)
      (λ e. assigns h action (assigned_value m tick before h action) known holds)

  after_actions : (h : HandlerState) (actions : List Action) → All (IsAction (state_count m) (discrete_count m)) actions → Holds h → Holds (fold (run_action m tick before) h actions)
  after_actions h [] known holds = holds
  after_actions h (action ∷ actions) known holds =
      after_actions (run_action m tick before h action) actions (All-tail (IsAction (state_count m) (discrete_count m)) action actions known)
      (after_action h action (known 0 action (omega arith)) holds)

  after_turn : (clause number : ℕ) (h : HandlerState) (branches : List BranchInfo) (due : List Bool) → All (IsBranch (state_count m) (discrete_count m)) branches → Holds h →
      Holds (run_first_due m tick before clause number h branches due)
  after_turn clause number h [] due known holds = holds
  after_turn clause number h (branch ∷ branches) [] known holds = holds
  after_turn clause number h (branch ∷ branches) (true ∷ due) known holds =
      after_actions (record h { rows = h.rows ++ fire_row tick clause number ∷ [] }) branch.actions (known 0 branch (omega arith)).actions (fires h clause number holds)
  after_turn clause number h (branch ∷ branches) (false ∷ due) known holds =
      after_turn clause (number + 1) h branches due (All-tail (IsBranch (state_count m) (discrete_count m)) branch branches known) holds

  after_clause : (number : ℕ) (h : HandlerState) (clause : ClauseInfo) (due : List Bool) → IsClause (state_count m) (discrete_count m) clause → Holds h → Holds (run_clause m tick before number h clause due)
  after_clause number h clause due known holds =
      if_cases Holds (is_some h.overflow) h (run_first_due m tick before number 0 h clause.branches due) (λ e. holds) (λ e. after_turn number 0 h clause.branches due known.branches holds)

  pub after_clauses : (number : ℕ) (h : HandlerState) (clauses : List ClauseInfo) (due : List Bool) → All (IsClause (state_count m) (discrete_count m)) clauses → Holds h →
      Holds (run_clauses m tick before number h clauses due)
  after_clauses number h [] due known holds = holds
  after_clauses number h (clause ∷ clauses) due known holds =
      after_clauses (number + 1) (run_clause m tick before number h clause (take (length clause.branches) due)) clauses (drop (length clause.branches) due)
      (All-tail (IsClause (state_count m) (discrete_count m)) clause clauses known)
      (after_clause number h clause (take (length clause.branches) due) (known 0 clause (omega arith)) holds)
