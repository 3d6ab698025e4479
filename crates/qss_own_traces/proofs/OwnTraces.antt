-- Each of a machine's own runs has one trace, or overflows at one tick; its trace is a legitimate run.
use Rattle.qss_own_traces.proofs.Common
use Common.{[], ℕ, ℤ, ◌+◌, ◌<◌, ◌∙◌, ◌∷◌, ◌≡◌, ◌≤◌, All, All-cons, All-nil, all_of, ap, arith}
use Common.{false, first_run, first_wide, floor_level, get_or, get_or-map, HandlerState, inl, inr}
use Common.{int_at, is_wide, IsFirstRefusal, IsNarrow, IsRunOf, IsSecondRefusal, IsSize, IsWithin}
use Common.{length, length-map, length-map-range_with_len, length-places, levels_from, levels_from2}
use Common.{List, Machine, nearest_change, None, Ok, Option, Over, Past, range_with_len, refl}
use Common.{run_clauses-none, runs_are_unique, second_order_run, second_runs_are_unique}
use Common.{second_scale, second_snapshots, SecondSnapshot, SlopeRuleOf, Snapshot, Some}
use Common.{start_snapshot, state_count, states_from, states_from2, states_start, subst, suc, sym}
use Common.{take, Trace, true, within-passes}
use Rattle.std.proofs.Common.{◌⊎◌, lit≤}
use Rattle.std.proofs.lemmas.Bool.{cases_lt, or_from}
use Rattle.std.proofs.lemmas.List.{get_or-take, length-take}
use Rattle.std.proofs.lemmas.List.Elements.{All-map}
use Rattle.std.proofs.lemmas.List.Quantifiers.{position-Some}
use Rattle.qss_machine.specs.Runs.{IsExecutionBy, RunEndsBy}
use Rattle.qss_machine.specs.Ticks.{IsStepBy, RuleOf, IsNextLevel}
use Rattle.qss_machine.proofs.Near.{step_facts}
use Rattle.qss_machine.proofs.Ranges.{states_small, step_small}
use Rattle.qss_order2.specs.SecondRuns.{EndsBy2}
use Rattle.qss_trace.proofs.Turns.{state-small, level-small}
use Rattle.qss_trace.specs.Trace.{count_of}
use Rattle.qss_own_traces.specs.FirstRuns.{IsFirstTrace}
use Rattle.qss_own_traces.specs.SecondRuns.{IsSecondTrace, IsTooWide}
use Rattle.qss_own_traces.proofs.FirstRuns.{first_legitimate, wider}
use Rattle.qss_own_traces.proofs.FirstSteps.{level_count, start_count, start_small_levels}
use Rattle.qss_own_traces.proofs.Flags.{range_at, range_count}
use Rattle.qss_own_traces.proofs.Legitimate.{trace_legitimate}
use Rattle.qss_own_traces.proofs.Listed.{one-trace-of, some-trace-of}
use Rattle.qss_own_traces.proofs.SecondLegitimate.{second_legitimate}
use Rattle.qss_own_traces.proofs.Wides.{narrow_states, narrow_levels}

-- ---- the run under the floor rule

-- a snapshot that a trace can hold
record IsFit (m : Machine) (w : Snapshot) : Type 0 where
  each_state : length w.states ≡ state_count m
  each_level : length w.levels ≡ state_count m
  small_states : All (IsWithin 88) w.states
  small_levels : All (IsWithin 43) w.levels

start_fit : (m : Machine) → IsFit m (start_snapshot m)
start_fit m = record {
  each_state = start_count m;
  each_level = level_count m;
  small_states = states_start m;
  small_levels = start_small_levels m;
}

step_fit : (Allows : ℕ → ℤ → ℤ → ℤ → Type 0) (m : Machine) (tick : ℕ) (w next : Snapshot) → m.clauses ≡ [] → IsStepBy Allows m tick w (Ok next) → IsFit m next
step_fit Allows m tick w next none s =
    let facts = step_facts Allows m tick w next s in
    let small = states_small m tick w facts.no_overflow in
    let idle = run_clauses-none m tick w.discretes 0 _ m.clauses _ none in
    record {
      each_state = ap length facts.states ∙ ap (λ (h : HandlerState). length h.states) idle ∙ length-map-range_with_len _ 0 (state_count m);
      each_level = facts.levels.one_each;
      small_states = subst (All (IsWithin 88)) (sym facts.states)
          (all_of (IsWithin 88) _ _ refl (λ k h. small k));
      small_levels = all_of (IsWithin 43) next.levels _ refl
          (λ k h. step_small Allows m tick w next s k);
    }

fit_from : (Allows : ℕ → ℤ → ℤ → ℤ → Type 0) (m : Machine) (tick : ℕ) (w : Snapshot) (snapshots : List Snapshot) → m.clauses ≡ [] → IsFit m w → IsExecutionBy Allows m tick w snapshots → All (IsFit m) (w ∷ snapshots)
fit_from Allows m tick w [] none fit leads = All-cons (IsFit m) w [] fit (All-nil (IsFit m))
fit_from Allows m tick w (next ∷ snapshots) none fit leads =
    All-cons (IsFit m) w (next ∷ snapshots) fit (fit_from Allows m (tick + 1) next snapshots none (step_fit Allows m (tick + 1) w next none leads.0) leads.1)

first-fits : (m : Machine) → m.clauses ≡ [] → All (IsFit m) (start_snapshot m ∷ (first_run m).snapshots)
first-fits m none = fit_from (IsNextLevel (RuleOf floor_level) m) m 0 (start_snapshot m) (first_run m).snapshots none (start_fit m) (runs_are_unique.is_run floor_level m).steps

first-traced : (m : Machine) → m.clauses ≡ [] → IsSize (state_count m) → m.last ≤ 65535 → (first_run m).overflow ≡ None → (t : Trace) × IsFirstTrace m t
first-traced m none size short end =
    let snapshots = start_snapshot m ∷ (first_run m).snapshots in
    let fits = first-fits m none in
    let reach : length (first_run m).snapshots ≡ m.last = subst (RunEndsBy (RuleOf floor_level) m (first_run m).snapshots) end (runs_are_unique.is_run floor_level m).end in
    let many-states = length-map snapshots (λ (w : Snapshot). w.states) in
    let many-levels = length-map snapshots (λ (w : Snapshot). w.levels) in
    let found = some-trace-of m 1 (states_from (start_snapshot m) (first_run m).snapshots) (levels_from (start_snapshot m) (first_run m).snapshots) size (record { some = omega arith; few = omega arith })
    (omega (arith, many-states)) (omega (arith, many-states, reach, short)) (many-levels ∙ sym many-states)
    (All-map (λ xs. length xs ≡ state_count m) (λ (w : Snapshot). w.states) snapshots (λ k d h. (fits k d h).each_state))
    (All-map (λ xs. length xs ≡ state_count m) (λ (w : Snapshot). w.levels) snapshots (λ k d h. (fits k d h).each_level))
    (All-map (All (IsWithin 108)) (λ (w : Snapshot). w.states) snapshots
    (λ k d h. wider 88 108 (get_or snapshots k d).states (lit≤ tt) (fits k d h).small_states))
    (All-map (All (IsWithin 64)) (λ (w : Snapshot). w.levels) snapshots
    (λ k d h. wider 43 64 (get_or snapshots k d).levels (lit≤ tt) (fits k d h).small_levels)) in
    (found.0, record { reaches_end = end; is_trace = found.1 })

pub some-first : (m : Machine) → m.clauses ≡ [] → IsSize (state_count m) → m.last ≤ 65535 → ((t : Trace) × IsFirstTrace m t) ⊎ ((tick : ℕ) × (var : ℕ) × IsFirstRefusal m (Over tick var))
some-first m none size short = by (first_run m).overflow refl
  where
    by : (o : Option ℕ) → (first_run m).overflow ≡ o → ((t : Trace) × IsFirstTrace m t) ⊎ ((tick : ℕ) × (var : ℕ) × IsFirstRefusal m (Over tick var))
    by None e = inl (first-traced m none size short e)
    by (Some var) e = inr (length (first_run m).snapshots + 1, var, (refl, e))

pub one-first : (m : Machine) (a b : Trace) → IsFirstTrace m a → IsFirstTrace m b → a ≡ b
one-first m a b p q = one-trace-of m 1 (states_from (start_snapshot m) (first_run m).snapshots) (levels_from (start_snapshot m) (first_run m).snapshots) a b p.is_trace q.is_trace

pub first-apart : (m : Machine) (t : Trace) (tick var : ℕ) → IsFirstTrace m t → IsFirstRefusal m (Over tick var) → ⊥
first-apart m t tick var p q = absurd (let e = sym p.reaches_end ∙ q.1 in cc)

pub one-first-over : (m : Machine) (tick var tick' var' : ℕ) → IsFirstRefusal m (Over tick var) → IsFirstRefusal m (Over tick' var') → (tick ≡ tick') × (var ≡ var')
one-first-over m tick var tick' var' p q = (p.0 ∙ sym q.0, (let e = sym p.1 ∙ q.1 in cc))

pub first-legitimate : (m : Machine) (t : Trace) → m.clauses ≡ [] → m.relative ≡ 0 → IsFirstTrace m t → IsRunOf m t
first-legitimate m t none own p =
    trace_legitimate m 1 (states_from (start_snapshot m) (first_run m).snapshots) (levels_from (start_snapshot m) (first_run m).snapshots) t p.is_trace (first_legitimate m none own)

-- ---- the second-order run

pub second-legitimate : (m : Machine) (t : Trace) → IsSecondTrace m t → IsRunOf m t
second-legitimate m t p =
    trace_legitimate m second_scale (states_from2 (second_order_run m).start (second_order_run m).snapshots) (levels_from2 (second_order_run m).start (second_order_run m).snapshots) t p.is_trace (second_legitimate m)

-- ---- what a trace cannot hold

wide-at : (w : SecondSnapshot) (var : ℕ) → first_wide w ≡ Some var → (var < length w.states) × (is_wide w var ≡ true)
wide-at w var e =
    let n = length w.states in
    let found = position-Some (is_wide w) (range_with_len 0 n) var 0 e in
    let inside : var < n = omega (arith, found.0, range_count n) in
    (inside, subst (λ k. is_wide w k ≡ true) (range_at n var inside) found.1)

not-wide : (w : SecondSnapshot) (j : ℕ) → IsWithin 108 (int_at w.states j) → IsWithin 64 (int_at w.levels j) → is_wide w j ≡ true → ⊥
not-wide w j a b e =
    let f : is_wide w j ≡ false =
    or_from _ _ (within-passes 108 (int_at w.states j) a)
    (within-passes 64 (int_at w.levels j) b) in absurd (cc)

-- all snapshots are narrow, or there is a first wide one
abbrev IsFirstWide : List SecondSnapshot → ℕ → ℕ → Type 0
IsFirstWide ws tick var = (tick < length ws) × ((d : SecondSnapshot) → first_wide (get_or ws tick d) ≡ Some var) × All IsNarrow (take tick ws)

scan : (ws : List SecondSnapshot) → All IsNarrow ws ⊎ ((tick : ℕ) × (var : ℕ) × IsFirstWide ws tick var)
scan [] = inl (All-nil IsNarrow)
scan (w ∷ ws) = by (first_wide w) refl (scan ws)
  where
    by : (o : Option ℕ) → first_wide w ≡ o → All IsNarrow ws ⊎ ((tick : ℕ) × (var : ℕ) × IsFirstWide ws tick var) → All IsNarrow (w ∷ ws) ⊎ ((tick : ℕ) × (var : ℕ) × IsFirstWide (w ∷ ws) tick var)
    by (Some var) e rest = inr (0, var, (omega arith, (λ d. e), All-nil IsNarrow))
    by None e (inl all) = inl (All-cons IsNarrow w ws e all)
    by None e (inr (tick, var, found)) = inr (suc tick, var, (omega (arith, found.0), found.1, All-cons IsNarrow w (take tick ws) e found.2))

second-traced : (m : Machine) → IsSize (state_count m) → m.last ≤ 65535 → (second_order_run m).overflow ≡ None → All IsNarrow (second_snapshots m) → (t : Trace) × IsSecondTrace m t
second-traced m size short end narrow =
    let start = (second_order_run m).start in
    let snapshots = (second_order_run m).snapshots in
    let legitimate = second_legitimate m in
    let ended = subst (EndsBy2 (SlopeRuleOf nearest_change) m start snapshots) end (second_runs_are_unique.is_run nearest_change m).end in
    let reach : length snapshots ≡ m.last = ended.1 in
    let many : length (states_from2 start snapshots) ≡ suc (length snapshots) = length-map (start ∷ snapshots) (λ (w : SecondSnapshot). w.states) in
    let found = some-trace-of m second_scale (states_from2 start snapshots) (levels_from2 start snapshots) size (record { some = omega arith; few = omega arith })
    legitimate.places (omega (arith, many, reach, short)) legitimate.as_many legitimate.state_lengths legitimate.level_lengths
    (All-map (All (IsWithin 108)) (λ (w : SecondSnapshot). w.states) (start ∷ snapshots) (λ k d h. narrow_states (get_or (start ∷ snapshots) k d) (length (get_or (start ∷ snapshots) k d).states) refl (narrow k d h)))
    (All-map (All (IsWithin 64)) (λ (w : SecondSnapshot). w.levels) (start ∷ snapshots) (λ k d h. narrow_levels (get_or (start ∷ snapshots) k d) (length (get_or (start ∷ snapshots) k d).states) refl (sizes k d h) (narrow k d h))) in
    (found.0, record { reaches_end = end; is_trace = found.1 })
  where
    sizes : (k : ℕ) (d : SecondSnapshot) → k < length (second_snapshots m) → length (get_or (second_snapshots m) k d).levels ≡ length (get_or (second_snapshots m) k d).states
    sizes k d h =
        let legitimate = second_legitimate m in
        let ws = second_snapshots m in
        let a = legitimate.state_lengths k d.states (omega (arith, h, length-map ws (λ (w : SecondSnapshot). w.states))) in
        let b = legitimate.level_lengths k d.levels (omega (arith, h, length-map ws (λ (w : SecondSnapshot). w.levels))) in
        ap length (sym (get_or-map (λ (w : SecondSnapshot). w.levels) ws k d d.levels h)) ∙ b ∙ sym a ∙ ap length (get_or-map (λ (w : SecondSnapshot). w.states) ws k d d.states h)

pub some-second : (m : Machine) → IsSize (state_count m) → m.last ≤ 65535 → ((t : Trace) × IsSecondTrace m t) ⊎ ((tick : ℕ) × (var : ℕ) × IsSecondRefusal m (Over tick var))
some-second m size short = by (scan (second_snapshots m)) (second_order_run m).overflow refl
  where
    by : All IsNarrow (second_snapshots m) ⊎ ((tick : ℕ) × (var : ℕ) × IsFirstWide (second_snapshots m) tick var) → (o : Option Past) → (second_order_run m).overflow ≡ o
        → ((t : Trace) × IsSecondTrace m t) ⊎ ((tick : ℕ) × (var : ℕ) × IsSecondRefusal m (Over tick var))
    by (inr (tick, var, found)) o e = inr (tick, var, inr (record { inside = found.0; least = found.1 (second_order_run m).start; before = found.2 }))
    by (inl narrow) (Some past) e = inr (past.tick, past.var, inl (record { overflow = e; before = narrow }))
    by (inl narrow) None e = inl (second-traced m size short e narrow)

pub one-second : (m : Machine) (a b : Trace) → IsSecondTrace m a → IsSecondTrace m b → a ≡ b
one-second m a b p q =
    one-trace-of m second_scale (states_from2 (second_order_run m).start (second_order_run m).snapshots) (levels_from2 (second_order_run m).start (second_order_run m).snapshots) a b p.is_trace q.is_trace

-- the trace of a run holds each of its snapshots
traced-narrow : (m : Machine) (t : Trace) (tick var : ℕ) → IsSecondTrace m t → IsTooWide m tick var → ⊥
traced-narrow m t tick var p wide =
    let ws = second_snapshots m in
    let start = (second_order_run m).start in
    let w = get_or ws tick start in
    let found = wide-at w var wide.least in
    let count : length ws ≡ count_of t =
    sym (length-map ws (λ (w : SecondSnapshot). w.states)) ∙ ap length (sym p.is_trace.own_states) ∙ length-places t.n t.states in
    let sized = (second_legitimate m).state_lengths tick start.states (omega (arith, wide.inside, length-map ws (λ (w : SecondSnapshot). w.states))) in
    let at-states = get_or-map (λ (w : SecondSnapshot). w.states) ws tick start [] wide.inside in
    let at-levels = get_or-map (λ (w : SecondSnapshot). w.levels) ws tick start [] wide.inside in
    let at-sized = get_or-map (λ (w : SecondSnapshot). w.states) ws tick start start.states wide.inside in
    let inside : var < t.n = omega (arith, found.0, sized, ap length at-sized, p.is_trace.size) in
    let a : IsWithin 108 (int_at w.states var) = subst (λ (xs : List ℤ). IsWithin 108 (int_at xs var)) (ap (λ (xs : List (List ℤ)). get_or xs tick []) p.is_trace.own_states ∙ at-states) (state-small t tick var (omega (arith, wide.inside, count)) inside) in
    let b : IsWithin 64 (int_at w.levels var) = subst (λ (xs : List ℤ). IsWithin 64 (int_at xs var)) (ap (λ (xs : List (List ℤ)). get_or xs tick []) p.is_trace.own_levels ∙ at-levels) (level-small t tick var (omega (arith, wide.inside, count)) inside) in
    not-wide w var a b found.1

pub second-apart : (m : Machine) (t : Trace) (tick var : ℕ) → IsSecondTrace m t → IsSecondRefusal m (Over tick var) → ⊥
second-apart m t tick var p (inl over) = absurd (let e = sym p.reaches_end ∙ over.overflow in cc)
second-apart m t tick var p (inr wide) = traced-narrow m t tick var p wide

no-later : (m : Machine) (tick var tick' var' : ℕ) → IsTooWide m tick var → IsTooWide m tick' var' → tick < tick' → ⊥
no-later m tick var tick' var' p q l =
    let ws = second_snapshots m in
    let start = (second_order_run m).start in
    let narrow = q.before tick start (omega (arith, l, q.inside, length-take tick' ws)) in
    let here : get_or (take tick' ws) tick start ≡ get_or ws tick start = get_or-take tick' ws tick start l in
    absurd (let e : Some var ≡ None = sym p.least ∙ ap first_wide (sym here) ∙ narrow in cc)

pub one-second-over : (m : Machine) (tick var tick' var' : ℕ) → IsSecondRefusal m (Over tick var) → IsSecondRefusal m (Over tick' var') → (tick ≡ tick') × (var ≡ var')
one-second-over m tick var tick' var' (inl p) (inl q) =
    let same = sym p.overflow ∙ q.overflow in
    let past : Path Past (record { tick = tick; var = var }) (record { tick = tick'; var = var' }) = (cc) in
    (ap (λ (x : Past). x.tick) past, ap (λ (x : Past). x.var) past)
one-second-over m tick var tick' var' (inl p) (inr q) = absurd (let e = sym (p.before tick' (second_order_run m).start q.inside) ∙ q.least in cc)
one-second-over m tick var tick' var' (inr p) (inl q) = absurd (let e = sym (q.before tick (second_order_run m).start p.inside) ∙ p.least in cc)
one-second-over m tick var tick' var' (inr p) (inr q) = by (cases_lt tick tick') (cases_lt tick' tick)
  where
    by : (tick < tick') ⊎ (tick' ≤ tick) → (tick' < tick) ⊎ (tick ≤ tick') → (tick ≡ tick') × (var ≡ var')
    by (inl l) h = absurd (no-later m tick var tick' var' p q l)
    by (inr l) (inl h) = absurd (no-later m tick' var' tick var q p h)
    by (inr l) (inr h) =
        let same : tick ≡ tick' = omega arith in
        let e : Some var ≡ Some var' = sym p.least ∙ ap (λ k. first_wide (get_or (second_snapshots m) k (second_order_run m).start)) same ∙ q.least in
        (same, (cc))
