-- A tick at which no event occurs.
use Rattle.qss_events.proofs.Common
use Common.{[], ℕ, ℤ, ◌*ℤ◌, ◌+ℤ◌, ◌+◌, ◌<◌, ◌∙◌, ◌∷◌, ◌≡◌, ap, arith, Bool, BranchInfo, ClauseInfo}
use Common.{drop, exceeds, exceeds_row_limits, false, finish_tick, firing_flags, first_exceeding}
use Common.{handlers_at, HandlerState, if◌then◌else◌, int_at, is_some, is_within_quantum}
use Common.{IsEventFree, length, length-map-range_with_len, List, list_any, Machine, MayFollowTick}
use Common.{moved_states, next_levels, None, NoneRises, Ok, one-mul, Option, option_or, pos}
use Common.{position, refl, run_clauses, run_first_due, slope_at, Snapshot, snapshot_after}
use Common.{snapshot_unless, state_count, states_after, step, subst, suc, sym, tabulate-int_at}
use Common.{tabulate-same, take, true, truths, within-passes, zero}
use Rattle.qss_events.proofs.Ranges.{position-none, near_small}

-- no flag is set
abbrev NoneSet : List Bool → Type 0
NoneSet flags = list_any (λ flag. flag) flags ≡ false

none_set-tail : (flag : Bool) (flags : List Bool) → NoneSet (flag ∷ flags) → (flag ≡ false) × NoneSet flags
none_set-tail true flags e = absurd (cc)
none_set-tail false flags e = (refl, e)

none_set-take : (n : ℕ) (flags : List Bool) → NoneSet flags → NoneSet (take n flags)
none_set-take zero flags e = refl
none_set-take (suc n) [] e = refl
none_set-take (suc n) (true ∷ flags) e = absurd (cc)
none_set-take (suc n) (false ∷ flags) e = none_set-take n flags e

none_set-drop : (n : ℕ) (flags : List Bool) → NoneSet flags → NoneSet (drop n flags)
none_set-drop zero flags e = e
none_set-drop (suc n) [] e = refl
none_set-drop (suc n) (true ∷ flags) e = absurd (cc)
none_set-drop (suc n) (false ∷ flags) e = none_set-drop n flags e

-- where no branch of a clause is due, the clause does nothing
first_due-idle : (m : Machine) (tick : ℕ) (before : List ℤ) (clause number : ℕ) (h : HandlerState) (branches : List BranchInfo) (due : List Bool) →
    NoneSet due → run_first_due m tick before clause number h branches due ≡ h
first_due-idle m tick before clause number h [] due e = refl
first_due-idle m tick before clause number h (branch ∷ branches) [] e = refl
first_due-idle m tick before clause number h (branch ∷ branches) (true ∷ due) e = absurd (cc)
first_due-idle m tick before clause number h (branch ∷ branches) (false ∷ due) e = first_due-idle m tick before clause (number + 1) h branches due e

clause-idle : (m : Machine) (tick : ℕ) (before : List ℤ) (number : ℕ) (h : HandlerState) (clause : ClauseInfo) (due : List Bool) (over : Bool) →
    NoneSet due → (if over then h else run_first_due m tick before number 0 h clause.branches due) ≡ h
clause-idle m tick before number h clause due true e = refl
clause-idle m tick before number h clause due false e = first_due-idle m tick before number 0 h clause.branches due e

-- where no branch is due, the handlers do nothing
pub clauses-idle : (m : Machine) (tick : ℕ) (before : List ℤ) (number : ℕ) (h : HandlerState) (clauses : List ClauseInfo) (due : List Bool) →
    NoneSet due → run_clauses m tick before number h clauses due ≡ h
clauses-idle m tick before number h [] due e = refl
clauses-idle m tick before number h (clause ∷ clauses) due e =
    let here = clause-idle m tick before number h clause (take (length clause.branches) due) (is_some h.overflow) (none_set-take (length clause.branches) due e) in
    ap (λ g. run_clauses m tick before (number + 1) g clauses (drop (length clause.branches) due)) here
    ∙ clauses-idle m tick before (number + 1) h clauses (drop (length clause.branches) due) (none_set-drop (length clause.branches) due e)

-- ---- one event-free tick

pub moved_is : (m : Machine) (w : Snapshot) → moved_states m w ≡ states_after m w 1
moved_is m w = tabulate-same (pos 0) (state_count m) _ _ (λ j h. ap (λ z. int_at w.states j +ℤ z) (sym (one-mul (slope_at m j w.levels w.discretes))))

quiet_over : (m : Machine) (tick : ℕ) (w : Snapshot) → MayFollowTick m w → IsEventFree m tick w 1 → first_exceeding 88 (states_after m w 1) ≡ None
quiet_over m tick w left quiet =
    position-none (pos 0) (exceeds 88) (states_after m w 1)
    (λ j h.
    let inside : j < state_count m = omega (arith, h, length-map-range_with_len (λ j. int_at w.states j +ℤ pos 1 *ℤ slope_at m j w.levels w.discretes) 0 (state_count m)) in
    within-passes 88 (int_at (states_after m w 1) j)
    (near_small m j (int_at (states_after m w 1) j) (int_at w.levels j) inside (left.small_levels j inside) (quiet.near j inside)))

pub quiet_handling : (m : Machine) (tick : ℕ) (w : Snapshot) → MayFollowTick m w → NoneRises w → IsEventFree m tick w 1 →
    handlers_at m (tick + 1) w ≡ record { states = states_after m w 1; discretes = w.discretes; rows = []; overflow = None }
quiet_handling m tick w left none quiet =
    let same : truths m (moved_states m w) w.discretes (tick + 1) ≡ w.after_handlers =
    subst (λ x. truths m x w.discretes (tick + 1) ≡ w.after_handlers) (sym (moved_is m w)) quiet.same in
    let idle : NoneSet (firing_flags (truths m (moved_states m w) w.discretes (tick + 1)) w.at_arrival w.after_handlers) =
    subst (λ now. NoneSet (firing_flags now w.at_arrival w.after_handlers)) (sym same) none in
    let over : first_exceeding 88 (moved_states m w) ≡ None = subst (λ x. first_exceeding 88 x ≡ None) (sym (moved_is m w)) (quiet_over m tick w left quiet) in
    let start : List ℤ → Option ℕ → HandlerState = λ x o. record { states = x; discretes = w.discretes; rows = []; overflow = o } in
    clauses-idle m (tick + 1) w.discretes 0 (start (moved_states m w) (first_exceeding 88 (moved_states m w))) m.clauses _ idle
    ∙ ap (λ x. start x (first_exceeding 88 (moved_states m w))) (moved_is m w)
    ∙ ap (start (states_after m w 1)) over

near_kept : (b : Bool) (x y : ℤ) → b ≡ true → (if b then x else y) ≡ x
near_kept true x y e = refl
near_kept false x y e = absurd (cc)

quiet_levels : (level : ℤ → ℤ → ℤ → ℤ) (m : Machine) (tick : ℕ) (w : Snapshot) → MayFollowTick m w → IsEventFree m tick w 1 →
    next_levels level m (states_after m w 1) w.levels ≡ w.levels
quiet_levels level m tick w left quiet =
    tabulate-same (pos 0) (state_count m) _ (int_at w.levels)
    (λ j h. near_kept (is_within_quantum m j (int_at (states_after m w 1) j) (int_at w.levels j)) (int_at w.levels j) _ (quiet.near j h))
    ∙ sym (tabulate-int_at w.levels (state_count m) left.one_each)

levels_over : (m : Machine) (w : Snapshot) → MayFollowTick m w → first_exceeding 43 w.levels ≡ None
levels_over m w left =
    position-none (pos 0) (exceeds 43) w.levels
    (λ j h. within-passes 43 (int_at w.levels j) (left.small_levels j (omega (arith, h, left.one_each))))

pub quiet_settle : (m : Machine) (tick : ℕ) (w : Snapshot) → MayFollowTick m w → IsEventFree m tick w 1 →
    finish_tick m (tick + 1) w (record { states = states_after m w 1; discretes = w.discretes; rows = []; overflow = None }) w.levels ≡ Ok (snapshot_after m w 1)
quiet_settle m tick w left quiet =
    let same : truths m (moved_states m w) w.discretes (tick + 1) ≡ w.after_handlers =
    subst (λ x. truths m x w.discretes (tick + 1) ≡ w.after_handlers) (sym (moved_is m w)) quiet.same in
    let end : List Bool → List Bool → Snapshot = λ a b. record { states = states_after m w 1; levels = w.levels; discretes = w.discretes; at_arrival = a; after_handlers = b } in
    let reached = end (truths m (moved_states m w) w.discretes (tick + 1)) (truths m (states_after m w 1) w.discretes (tick + 1)) in
    ap (λ o. snapshot_unless (option_or o (position (exceeds_row_limits m w.levels w.discretes) m.rows)) reached) (levels_over m w left)
    ∙ ap (λ o. snapshot_unless o reached) left.light
    ∙ ap (λ a. Ok (end a (truths m (states_after m w 1) w.discretes (tick + 1)))) same
    ∙ ap (λ b. Ok (end w.after_handlers b)) quiet.same

-- an event-free tick only moves the states
pub quiet_step : (level : ℤ → ℤ → ℤ → ℤ) (m : Machine) (tick : ℕ) (w : Snapshot) → MayFollowTick m w → NoneRises w → IsEventFree m tick w 1 →
    step level m (tick + 1) w ≡ Ok (snapshot_after m w 1)
quiet_step level m tick w left none quiet =
    ap (λ h. finish_tick m (tick + 1) w h (next_levels level m h.states w.levels)) (quiet_handling m tick w left none quiet)
    ∙ ap (finish_tick m (tick + 1) w (record { states = states_after m w 1; discretes = w.discretes; rows = []; overflow = None })) (quiet_levels level m tick w left quiet)
    ∙ quiet_settle m tick w left quiet
