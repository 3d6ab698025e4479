-- The states and the levels of runs keep their limits.
use Rattle.qss_machine.proofs.Common
use Common.{[], ℕ, ℤ, ◌+◌, ◌∙◌, ◌∷◌, ◌≡◌, Action, All, arith, assign, assigned_value, Bool}
use Common.{BranchInfo, ClauseInfo, exceeds, false, firing_flags, first_exceeding, fold}
use Common.{handlers_at, HandlerState, HasSmallLevels, if_cases, int_at, is_some, IsStateInfo}
use Common.{IsStepBy, IsWithin, last_snapshot, level_below, level_unit, List, Machine, map}
use Common.{moved_states, None, Ok, Option, pos, refl, Reinit, run_action, run_clauses}
use Common.{run_first_due, Set, set, Snapshot, Some, start_snapshot, StateInfo, suc, sym, true}
use Common.{truths, zero}
use Rattle.std.proofs.Common.{cond}
use Rattle.std.proofs.lemmas.Iterator.Adapters.{position_from-zero}
use Rattle.std.specs.List.{position_from}
use Rattle.mu_num.proofs.SizeTests.{passes-within}
use Rattle.qss_machine.specs.Runs.{IsExecutionBy}
use Rattle.qss_machine.proofs.Near.{step_facts}

-- ---- lists in which no number passes a limit

zero_within : (bits : ℕ) → IsWithin bits (pos 0)
zero_within bits = omega arith

cond_none : (b : Bool) (i : ℕ) (o : Option ℕ) → cond b (Some i) o ≡ None → (b ≡ false) × (o ≡ None)
cond_none true i o e = absurd (cc)
cond_none false i o e = (refl, e)

none_from : (bits i : ℕ) (zs : List ℤ) → position_from (exceeds bits) i zs ≡ None → (j : ℕ) → IsWithin bits (int_at zs j)
none_from bits i [] e j = zero_within bits
none_from bits i (z ∷ zs) e zero = passes-within bits z (cond_none (exceeds bits z) i (position_from (exceeds bits) (i + 1) zs) e).0
none_from bits i (z ∷ zs) e (suc j) = none_from bits (i + 1) zs (cond_none (exceeds bits z) i (position_from (exceeds bits) (i + 1) zs) e).1 j

pub none_past : (bits : ℕ) (zs : List ℤ) → first_exceeding bits zs ≡ None → (j : ℕ) → IsWithin bits (int_at zs j)
none_past bits zs e = none_from bits 0 zs (sym (position_from-zero (exceeds bits) zs) ∙ e)

set_small : (xs : List ℤ) (v : ℕ) (z : ℤ) → IsWithin 88 z → ((j : ℕ) → IsWithin 88 (int_at xs j)) → (j : ℕ) → IsWithin 88 (int_at (set xs v z) j)
set_small [] v z small all j = all j
set_small (x ∷ xs) zero z small all zero = small
set_small (x ∷ xs) zero z small all (suc j) = all (suc j)
set_small (x ∷ xs) (suc v) z small all zero = all zero
set_small (x ∷ xs) (suc v) z small all (suc j) = set_small xs v z small (λ k. all (suc k)) j

-- ---- states, while handlers run without an overflow

abbrev HasSmallStates : HandlerState → Type 0
HasSmallStates h = h.overflow ≡ None → (j : ℕ) → IsWithin 88 (int_at h.states j)

module _ (m : Machine) (tick : ℕ) (before : List ℤ) where
  assign_small : (h : HandlerState) (action : Action) (z : ℤ) → HasSmallStates h → HasSmallStates (assign m tick h action z)
  assign_small h (Set var form) z small = if_cases HasSmallStates (exceeds 43 z) _ _ (λ e calm. absurd (cc)) (λ e. small)
  assign_small h (Reinit var form) z small =
      if_cases HasSmallStates (exceeds 88 z) _ _ (λ e calm. absurd (cc)) (λ e calm. set_small h.states var z (passes-within 88 z e) (small calm))

  action_small : (h : HandlerState) (action : Action) → HasSmallStates h → HasSmallStates (run_action m tick before h action)
  action_small h action small =
      if_cases HasSmallStates (is_some h.overflow) h (assign m tick h action (assigned_value m tick before h action))
      (λ e. small) (λ e. assign_small h action (assigned_value m tick before h action) small)

  actions_small : (h : HandlerState) (actions : List Action) → HasSmallStates h → HasSmallStates (fold (run_action m tick before) h actions)
  actions_small h [] small = small
  actions_small h (action ∷ actions) small = actions_small (run_action m tick before h action) actions (action_small h action small)

  first_small : (clause number : ℕ) (h : HandlerState) (branches : List BranchInfo) (due : List Bool) → HasSmallStates h →
      HasSmallStates (run_first_due m tick before clause number h branches due)
  first_small clause number h [] due small = small
  first_small clause number h (branch ∷ branches) [] small = small
  first_small clause number h (branch ∷ branches) (true ∷ due) small = actions_small _ branch.actions small
  first_small clause number h (branch ∷ branches) (false ∷ due) small = first_small clause (number + 1) h branches due small

  clauses_small : (number : ℕ) (h : HandlerState) (clauses : List ClauseInfo) (due : List Bool) → HasSmallStates h →
      HasSmallStates (run_clauses m tick before number h clauses due)
  clauses_small number h [] due small = small
  clauses_small number h (clause ∷ clauses) due small =
      clauses_small (number + 1) _ clauses _
      (if_cases HasSmallStates (is_some h.overflow) h _ (λ e. small) (λ e. first_small number 0 h clause.branches _ small))

pub states_small : (m : Machine) (tick : ℕ) (w : Snapshot) → (handlers_at m tick w).overflow ≡ None → (j : ℕ) → IsWithin 88 (int_at (handlers_at m tick w).states j)
states_small m tick w =
    clauses_small m tick w.discretes 0 _ m.clauses (firing_flags (truths m (moved_states m w) w.discretes tick) w.at_arrival w.after_handlers)
    (none_past 88 (moved_states m w))

-- ---- levels

all_small : (unit : ℤ) (states : List StateInfo) → All (IsStateInfo unit) states → (j : ℕ) → IsWithin 43 (int_at (map (level_below unit) (map (λ (s : StateInfo). s.x0) states)) j)
all_small unit [] all j = zero_within 43
all_small unit (s ∷ states) all zero = (all 0 s (omega arith)).level
all_small unit (s ∷ states) all (suc j) = all_small unit states (λ k d h. all (suc k) d (omega arith)) j

pub start_small : (m : Machine) → HasSmallLevels (start_snapshot m)
start_small m = all_small (level_unit m) m.states m.has_variables.each_state

pub step_small : (Allows : ℕ → ℤ → ℤ → ℤ → Type 0) (m : Machine) (tick : ℕ) (w next : Snapshot) → IsStepBy Allows m tick w (Ok next) → HasSmallLevels next
step_small Allows m tick w next s = none_past 43 next.levels (step_facts Allows m tick w next s).small_levels

pub leads_small : (Allows : ℕ → ℤ → ℤ → ℤ → Type 0) (m : Machine) (tick : ℕ) (w : Snapshot) (snapshots : List Snapshot) → HasSmallLevels w →
    IsExecutionBy Allows m tick w snapshots → HasSmallLevels (last_snapshot w snapshots)
leads_small Allows m tick w [] small leads = small
leads_small Allows m tick w (next ∷ snapshots) small leads = leads_small Allows m (tick + 1) next snapshots (step_small Allows m (tick + 1) w next leads.0) leads.1
