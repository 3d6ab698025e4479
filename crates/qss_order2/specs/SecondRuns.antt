-- Second-order runs of a machine from tick 0, and their rows.
use Rattle.std.specs.Prelude.{◌≡◌, ℕ, zero, suc, ◌+◌, ◌<◌, List, [], ◌∷◌, ◌++◌, length, ℤ, pos}
use Rattle.std.specs.Prelude.{Option, Some, None, Result, Ok, Err, flat_map, if◌then◌else◌}
use Rattle.std.specs.List.{range_with_len}
use Rattle.qss_machine.specs.declared.compiled_machine.Machine.{Machine}
use Rattle.mu_num.specs.IndexedSums.{int_at, tabulate}
use Rattle.qss_machine.specs.Machines.{state_count, start_discretes}
use Rattle.qss_order2.specs.declared.order2_rows.Row2.{Row2}
use Rattle.qss_order2.specs.declared.order2_rows.Kind2.{Kind2}
use Rattle.qss_order2.specs.declared.order2_rows.Kind2.TheVariants as kind
use Rattle.qss_order2.specs.SecondSteps.{SecondSnapshot, leaves_quantum, first_exceeding_limit}
use Rattle.qss_order2.specs.SecondSteps.{IsStart2, IsSecondStep, second_start, second_step}

-- under a rule, these snapshots may follow a snapshot, one per tick
abbrev pub Leads2 : (ℤ → ℤ → ℤ → Type 0) → Machine → ℕ → SecondSnapshot → List SecondSnapshot →
    Type 0
Leads2 Rule m tick w [] = Unit {0}
Leads2 Rule m tick w (next ∷ snapshots) = IsSecondStep Rule m (tick + 1) w (Ok next) × Leads2 Rule m
    (tick + 1) next snapshots

-- the last of the snapshots, or w if there is none
abbrev pub last_second_snapshot : SecondSnapshot → List SecondSnapshot → SecondSnapshot
last_second_snapshot w [] = w
last_second_snapshot w (next ∷ snapshots) = last_second_snapshot next snapshots

-- a tick at which a state exceeds a limit
pub record Past : Type 0 where
  pub tick : ℕ
  pub var : ℕ

-- the snapshots from tick 0, one per tick, up to the last tick or to an overflow, which may be at
-- tick 0
pub record Run2 : Type 0 where
  pub start : SecondSnapshot
  pub snapshots : List SecondSnapshot
  pub overflow : Option Past

-- the snapshots after a tick with this result; `rest` gives those after its snapshot
abbrev pub snapshots_with : Result SecondSnapshot ℕ → ℕ →
    (SecondSnapshot → List SecondSnapshot × Option Past) → List SecondSnapshot × Option Past
snapshots_with (Err var) tick rest = ([], Some (record { tick = tick; var = var }))
snapshots_with (Ok w) tick rest = let after = rest w in (w ∷ after.0, after.1)

-- at most `count` ticks after a snapshot, under a rule that is a function
abbrev pub snapshots_from : (ℤ → ℤ → ℤ) → Machine → ℕ → ℕ → SecondSnapshot →
    List SecondSnapshot × Option Past
snapshots_from change m zero tick w = ([], None)
snapshots_from change m (suc count) tick w = snapshots_with (second_step change m (tick + 1) w)
    (tick + 1) (λ next. snapshots_from change m count (tick + 1) next)

-- the snapshots that follow, none if a state exceeds a limit
abbrev pub snapshots_unless : ℕ → Option ℕ → (List SecondSnapshot × Option Past) →
    List SecondSnapshot × Option Past
snapshots_unless tick None after = after
snapshots_unless tick (Some var) after = ([], Some (record { tick = tick; var = var }))

-- the run of a machine under a rule that is a function
abbrev pub run2_by : (ℤ → ℤ → ℤ) → Machine → Run2
run2_by change m =
    let w = second_start change m in
    let after = snapshots_unless 0 (first_exceeding_limit m w.levels w.changes)
    (snapshots_from change m m.last 0 w) in
    record { start = w; snapshots = after.0; overflow = after.1 }

-- a run ends by an overflow at tick 0, or at the tick after its last snapshot
abbrev pub EndsPast : (ℤ → ℤ → ℤ → Type 0) → Machine → SecondSnapshot → List SecondSnapshot → ℕ →
    ℕ → Type 0
EndsPast Rule m w snapshots zero var = (first_exceeding_limit m w.levels w.changes ≡ Some var) ×
    (snapshots ≡ [])
EndsPast Rule m w snapshots (suc tick) var =
    (first_exceeding_limit m w.levels w.changes ≡ None) × (tick ≡ length snapshots) ×
    (tick < m.last) × IsSecondStep Rule m (tick + 1) (last_second_snapshot w snapshots) (Err var)

-- a run ends by an overflow, or at the last tick
abbrev pub EndsBy2 : (ℤ → ℤ → ℤ → Type 0) → Machine → SecondSnapshot → List SecondSnapshot →
    Option Past → Type 0
EndsBy2 Rule m w snapshots None = (first_exceeding_limit m w.levels w.changes ≡ None) ×
    (length snapshots ≡ m.last)
EndsBy2 Rule m w snapshots (Some past) = EndsPast Rule m w snapshots past.tick past.var

-- a run of a machine under a rule
pub record IsRun2 (Rule : ℤ → ℤ → ℤ → Type 0) (m : Machine) (run : Run2) : Type 0 where
  pub begins : IsStart2 Rule m run.start
  pub steps : Leads2 Rule m 0 run.start run.snapshots
  pub end : EndsBy2 Rule m run.start run.snapshots run.overflow

-- the row of a state's level, and the row of its slope
abbrev pub level_row : Kind2 → ℕ → SecondSnapshot → ℕ → Row2
level_row kind tick w j = record {
  tick = tick;
  kind = kind;
  var = j;
  level =
      int_at w.levels j;
  state = int_at w.states j;
}

abbrev pub slope_row : ℕ → SecondSnapshot → ℕ → Row2
slope_row tick w j = record {
  tick = tick;
  kind = kind.Slope;
  var = j;
  level =
      int_at w.changes j;
  state = pos 0;
}

-- a row for each discrete variable
abbrev pub discrete_rows2 : Kind2 → ℕ → Machine → List Row2
discrete_rows2 kind tick m =
    tabulate (length (start_discretes m)) (λ g. record {
      tick = tick;
      kind = kind;
      var =
          state_count m + g;
      level = int_at (start_discretes m) g;
      state = pos 0;
    })

-- the rows of tick 0, of a later tick, of the end, and of an overflow
abbrev pub start_rows : Machine → SecondSnapshot → List Row2
start_rows m w = flat_map (λ j. level_row kind.Start 0 w j ∷ slope_row 0 w j ∷ [])
    (range_with_len 0 (state_count m)) ++ discrete_rows2 kind.Start 0 m

abbrev pub tick_rows2 : Machine → ℕ → SecondSnapshot → SecondSnapshot → List Row2
tick_rows2 m tick w next =
    flat_map (λ j. if leaves_quantum m w j then level_row kind.Level tick next j ∷ slope_row tick
    next j ∷ [] else []) (range_with_len 0 (state_count m))

abbrev pub end_rows : Machine → ℕ → SecondSnapshot → List Row2
end_rows m tick w = tabulate (state_count m) (level_row kind.End tick w) ++ discrete_rows2 kind.End
    tick m

abbrev pub overflow_row : Past → Row2
overflow_row past = record {
  tick = past.tick;
  kind = kind.Overflow;
  var = past.var;
  level =
      pos 0;
  state = pos 0;
}

-- the rows after a snapshot
abbrev pub rows2_after : Machine → ℕ → SecondSnapshot → List SecondSnapshot → Option Past →
    List Row2
rows2_after m tick w [] None = end_rows m tick w
rows2_after m tick w [] (Some past) = overflow_row past ∷ []
rows2_after m tick w (next ∷ snapshots) overflow = tick_rows2 m (tick + 1) w next ++ rows2_after m
    (tick + 1) next snapshots overflow

-- the rows of a run
abbrev pub run2_rows : Machine → Run2 → List Row2
run2_rows m run = start_rows m run.start ++ rows2_after m 0 run.start run.snapshots run.overflow
