-- The fields of the rows of states, for a machine without clauses.
use Rattle.qss_guarantees.proofs.Common
use Common.{[], ℕ, ℤ, ◌++◌, ◌+◌, ◌<◌, ◌∙◌, ◌∷◌, ◌≡◌, ◌≢◌, All, ap, arith, Bool, get_or, int_at}
use Common.{int_eq, length, length-map, levels_from, List, Machine, map, nat_lt, nat_tests, None}
use Common.{Ok, refl, run_rows, Snapshot, Some, start_snapshot, state_count, states_from, subst}
use Common.{suc, sym, true, zero}
use Rattle.std.proofs.Common.{◌+ℤ◌}
use Rattle.std.proofs.lemmas.List.Elements.{All-nil, All-cons, All-append}
use Rattle.std.proofs.lemmas.List.FromFn.{length-map-range_with_len, get_or-map-range_with_len}
use Rattle.std.specs.Fmt.{signed_decimal}
use Rattle.std.specs.List.{range_with_len, flat_map}
use Rattle.std.specs.Prelude.{Option, decimal}
use Rattle.mu_num.proofs.Tests.{if_cases}
use Rattle.mu_num.specs.IndexedSums.{tabulate, first_exceeding}
use Rattle.qss_events.proofs.EndRows.{state_row, discrete_row}
use Rattle.qss_events.proofs.LevelRows.{level_row}
use Rattle.qss_machine.proofs.Admitted.{run_clauses-none}
use Rattle.qss_machine.proofs.Near.{step_facts}
use Rattle.qss_machine.specs.Handlers.{HandlerState}
use Rattle.qss_machine.specs.Legitimate.{entry_at}
use Rattle.qss_machine.specs.Machines.{slope_at}
use Rattle.qss_machine.specs.Runs.{IsFreeExecution, Run, rows_after, snapshot_rows, state_rows}
use Rattle.qss_machine.specs.Runs.{discrete_rows, level_rows, tick_rows}
use Rattle.qss_machine.specs.Ticks.{moved_states, handlers_at, IsStepBy, IsFreeLevel}
use Rattle.qss_machine.specs.declared.machine_parts.Row.{Row}
use Rattle.qss_machine.specs.declared.machine_parts.RowKind.{RowKind}
use Rattle.qss_machine.specs.declared.machine_parts.StateInfo.{StateInfo}
use Rattle.qss_rows.specs.RowTexts.{fields_of, name_of, word_of, name_field, fields_with}
use Rattle.qss_machine.specs.declared.machine_parts.RowKind.TheVariants as kind

-- ---- rows that are made one for each number

all_tabulated : (P : Row → Type 0) (f : ℕ → Row) (n : ℕ) → ((j : ℕ) → j < n → P (f j))
    → All P (tabulate n f)
all_tabulated P f n each k d h =
    let inside : k < n = omega (arith, h, length-map-range_with_len f 0 n) in
    let is : get_or (map f (range_with_len 0 n)) k d ≡ f k =
    get_or-map-range_with_len f 0 n k k d inside (omega arith) in
    subst P (sym is) (each k inside)

all_of_range : (P : Row → Type 0) (f : ℕ → List Row) (a n : ℕ)
    → ((j : ℕ) → j < a + n → All P (f j)) → All P (flat_map f (range_with_len a n))
all_of_range P f a zero each = All-nil P
all_of_range P f a (suc n) each =
    All-append P (f a) (flat_map f (range_with_len (a + 1) n)) (each a (omega arith))
    (all_of_range P f (a + 1) n (λ j h. each j (omega (arith, h))))

all_weaker : (P Q : Row → Type 0) → ((row : Row) → P row → Q row) → (rows : List Row) → All P rows
    → All Q rows
all_weaker P Q then rows each k d h = then (get_or rows k d) (each k d h)

module _ (m : Machine) where
  -- a row of a state has the fields of a place of these states and levels, at this tick
  abbrev HasFields : (tick : ℕ) → (states levels : List ℤ) → Row → Type 0
  HasFields tick states levels row = row.var < state_count m → row.kind ≢ kind.Overflow
      → (row.tick ≡ tick) × (fields_of m row ≡ decimal tick ∷ word_of row.kind ∷ name_of m row.var
      ∷ signed_decimal (int_at levels row.var) ∷ signed_decimal (int_at states row.var) ∷ [])

  -- a row of a state has the fields of one of these places, from this tick on
  abbrev pub HasFieldsFrom : (tick : ℕ) → (states levels : List (List ℤ)) → Row → Type 0
  HasFieldsFrom tick states levels row = row.var < state_count m → row.kind ≢ kind.Overflow
      → (i : ℕ) × (row.tick ≡ tick + i) × (i < length states) × (fields_of m row
      ≡ decimal row.tick ∷ word_of row.kind ∷ name_of m row.var
      ∷ signed_decimal (entry_at levels i row.var) ∷ signed_decimal (entry_at states i row.var) ∷
      [])

  is_state : (var : ℕ) → var < state_count m → nat_lt var (state_count m) ≡ true
  is_state var h = grind (arith, nat_tests)

  state_fields : (k : RowKind) (tick : ℕ) (levels states : List ℤ) (j : ℕ)
      → ((state : Bool) → state ≡ true
      → fields_with (name_of m j) state (state_row k tick levels states j) ≡ decimal tick
      ∷ word_of k ∷ name_of m j ∷ signed_decimal (int_at levels j)
      ∷ signed_decimal (int_at states j) ∷ [])
      → name_field m k j ≡ name_of m j → HasFields tick states levels
      (state_row k tick levels states j)
  state_fields k tick levels states j fields name inside other =
      (refl, rw name (fields (nat_lt j (state_count m)) (is_state j inside)))

  -- the rows of a snapshot
  snapshot_fields : (k : RowKind) (tick : ℕ) (w : Snapshot) → length w.states ≡ state_count m
      → ((j : ℕ) → HasFields tick w.states w.levels (state_row k tick w.levels w.states j))
      → All (HasFields tick w.states w.levels) (snapshot_rows k tick w)
  snapshot_fields k tick w e each =
      All-append (HasFields tick w.states w.levels) (state_rows k tick w.levels w.states)
      (discrete_rows k tick (length w.states) w.discretes)
      (all_tabulated (HasFields tick w.states w.levels) (state_row k tick w.levels w.states)
      (length w.states) (λ j h. each j))
      (all_tabulated (HasFields tick w.states w.levels)
      (discrete_row k tick (length w.states) w.discretes) (length w.discretes)
      (λ g h inside other. absurd (omega (arith, inside, e))))

  start_fields : (tick : ℕ) (w : Snapshot) → length w.states ≡ state_count m
      → All (HasFields tick w.states w.levels) (snapshot_rows kind.Start tick w)
  start_fields tick w e = snapshot_fields kind.Start tick w e
      (λ j inside other. (refl, rw (is_state j inside) refl))

  end_fields : (tick : ℕ) (w : Snapshot) → length w.states ≡ state_count m
      → All (HasFields tick w.states w.levels) (snapshot_rows kind.End tick w)
  end_fields tick w e = snapshot_fields kind.End tick w e
      (λ j inside other. (refl, rw (is_state j inside) refl))

  -- the rows of new levels
  level_fields : (tick : ℕ) (old new states : List ℤ)
      → All (HasFields tick states new) (level_rows tick old new states)
  level_fields tick old new states =
      all_of_range (HasFields tick states new) (level_row tick old new states) 0 (length states)
      (λ j h.
      let row : Row = record
      { tick = tick; kind = kind.Level; var = j; level = int_at new j; state = int_at states j } in
      if_cases (All (HasFields tick states new)) (int_eq (int_at old j) (int_at new j)) []
      (row ∷ []) (λ same. All-nil (HasFields tick states new))
      (λ different. All-cons (HasFields tick states new) row [] (λ inside other. (refl, refl))
      (All-nil (HasFields tick states new))))

  -- ---- a run without clauses

  module _ (none : m.clauses ≡ []) where
    idle : (tick : ℕ) (w : Snapshot) → handlers_at m tick w ≡ record {
      states = moved_states m w;
      discretes = w.discretes;
      rows = [];
      overflow = first_exceeding 88 (moved_states m w);
    }
    idle tick w = run_clauses-none m tick w.discretes 0 (record {
      states = moved_states m w;
      discretes = w.discretes;
      rows = [];
      overflow = first_exceeding 88 (moved_states m w);
    }) m.clauses _ none

    next_count : (tick : ℕ) (w next : Snapshot) → IsStepBy (IsFreeLevel m) m tick w (Ok next)
        → length next.states ≡ state_count m
    next_count tick w next s =
        let facts = step_facts (IsFreeLevel m) m tick w next s in
        ap length (facts.states ∙ ap (λ (h : HandlerState). h.states) (idle tick w))
        ∙ length-map-range_with_len (λ j. int_at w.states j +ℤ slope_at m j w.levels w.discretes) 0
        (state_count m)

    -- the rows at the tick of the first place
    first_place : (tick : ℕ) (states levels : List ℤ) (more others : List (List ℤ)) (row : Row)
        → HasFields tick states levels row
        → HasFieldsFrom tick (states ∷ more) (levels ∷ others) row
    first_place tick states levels more others row has inside other =
        let (at, fields) = has inside other in
        let here : fields_of m row ≡ decimal row.tick ∷ word_of row.kind ∷ name_of m row.var
        ∷ signed_decimal (int_at levels row.var) ∷ signed_decimal (int_at states row.var) ∷ [] =
        subst (λ (t : ℕ). fields_of m row ≡ decimal t ∷ word_of row.kind ∷ name_of m row.var
        ∷ signed_decimal (int_at levels row.var) ∷ signed_decimal (int_at states row.var) ∷ [])
        (sym at) fields in
        (0, omega (arith, at), omega arith, here)

    -- the rows at later places
    later_place : (tick : ℕ) (states levels : List ℤ) (more others : List (List ℤ)) (row : Row)
        → HasFieldsFrom (tick + 1) more others row
        → HasFieldsFrom tick (states ∷ more) (levels ∷ others) row
    later_place tick states levels more others row has inside other =
        let (i, at, low, fields) = has inside other in
        (suc i, omega (arith, at), omega (arith, low), fields)

    fields_after : (tick : ℕ) (w : Snapshot) (snapshots : List Snapshot) (overflow : Option ℕ)
        → length w.states ≡ state_count m → IsFreeExecution m tick w snapshots
        → All (HasFieldsFrom tick (states_from w snapshots) (levels_from w snapshots))
        (rows_after m tick w snapshots overflow)
    fields_after tick w [] None e steps =
        all_weaker (HasFields tick w.states w.levels)
        (HasFieldsFrom tick (w.states ∷ []) (w.levels ∷ []))
        (first_place tick w.states w.levels [] []) (snapshot_rows kind.End tick w)
        (end_fields tick w e)
    fields_after tick w [] (Some var) e steps =
        All-cons (HasFieldsFrom tick (w.states ∷ []) (w.levels ∷ [])) _ []
        (λ inside other. absurd (other refl))
        (All-nil (HasFieldsFrom tick (w.states ∷ []) (w.levels ∷ [])))
    fields_after tick w (next ∷ snapshots) overflow e steps =
        all_weaker (HasFieldsFrom (tick + 1) (states_from next snapshots)
        (levels_from next snapshots)) (HasFieldsFrom tick (states_from w (next ∷ snapshots))
        (levels_from w (next ∷ snapshots)))
        (later_place tick w.states w.levels (states_from next snapshots)
        (levels_from next snapshots)) (rows_after m tick w (next ∷ snapshots) overflow)
        (All-append From (tick_rows m (tick + 1) w next)
        (rows_after m (tick + 1) next snapshots overflow) at_tick
        (fields_after (tick + 1) next snapshots overflow (next_count (tick + 1) w next steps.0)
        steps.1))
      where
        From : Row → Type 0
        From = HasFieldsFrom (tick + 1) (states_from next snapshots) (levels_from next snapshots)

        levels_only : All From (level_rows (tick + 1) w.levels next.levels next.states)
        levels_only = all_weaker (HasFields (tick + 1) next.states next.levels) From
            (first_place (tick + 1) next.states next.levels (map (λ w. w.states) snapshots)
            (map (λ w. w.levels) snapshots)) _
            (level_fields (tick + 1) w.levels next.levels next.states)

        at_tick : All From (tick_rows m (tick + 1) w next)
        at_tick = subst (λ (h : HandlerState). All From (h.rows
            ++ level_rows (tick + 1) w.levels next.levels next.states)) (sym (idle (tick + 1) w))
            levels_only

    -- all rows of a run
    pub printed_fields : (run : Run) → IsFreeExecution m 0 (start_snapshot m) run.snapshots
        → All (HasFieldsFrom 0 (states_from (start_snapshot m) run.snapshots)
        (levels_from (start_snapshot m) run.snapshots)) (run_rows m run)
    printed_fields run steps =
        let w = start_snapshot m in
        let e : length w.states ≡ state_count m =
        length-map m.states (λ (state : StateInfo). state.x0) in
        let P : Row → Type 0 = HasFieldsFrom 0 (states_from w run.snapshots)
        (levels_from w run.snapshots) in
        All-append P (snapshot_rows kind.Start 0 w) (rows_after m 0 w run.snapshots run.overflow)
        (all_weaker (HasFields 0 w.states w.levels) P (first_place 0 w.states w.levels
        (map (λ w. w.states) run.snapshots) (map (λ w. w.levels) run.snapshots))
        (snapshot_rows kind.Start 0 w) (start_fields 0 w e))
        (fields_after 0 w run.snapshots run.overflow e steps)
