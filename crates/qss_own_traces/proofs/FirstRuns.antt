-- Runs under the floor rule, tick by tick.
use Rattle.qss_own_traces.proofs.Common
use Common.{[], ℕ, ℤ, ◌*ℤ◌, ◌++◌, ◌+ℤ◌, ◌+◌, ◌-ℤ◌, ◌-◌, ◌<ℤ◌, ◌<◌, ◌^◌, ◌∙◌, ◌∷◌, ◌≡◌, ◌≤◌, All, ap}
use Common.{append-nil, append_assoc, arith, Err, first_run, floor_level, floor_of, ints}
use Common.{IsFirstRefusal, IsLegitimate, IsWithin, length, levels_from, List, Machine, None, Ok}
use Common.{Over, pos, quanta, Result, Run, run_from, runs_are_unique, Snapshot, Some, start_small}
use Common.{start_snapshot, start_states, states_from, step, suc, sym, zero}
use Rattle.std.proofs.Common.{◌≤ℤ◌}
use Rattle.std.specs.Int.RustNames.{unsigned_abs}
use Rattle.mu_num.proofs.Quotients.{floor_meets}
use Rattle.qss_machine.specs.Ticks.{IsQuantizing}
use Rattle.qss_machine.specs.Runs.{run_with}
use Rattle.qss_machine.proofs.Admitted.{runs_are_legitimate}
use Rattle.qss_machine.proofs.Rules.{rules_are_free}
use Rattle.qss_own_traces.specs.FirstCourses.{run_after}

module _ (m : Machine) (tick : ℕ) (w : Snapshot) (snapshots : List Snapshot) where
  -- what is left of the run
  abbrev pub left : Run
  left = run_after snapshots (run_from floor_level m (m.last - tick) tick w)

  abbrev pub left_after : Result Snapshot ℕ → Run
  left_after result = run_after snapshots (run_with result (λ next. run_from floor_level m (m.last - (tick + 1)) (tick + 1) next))

  one_tick : tick < m.last → left ≡ left_after (step floor_level m (tick + 1) w)
  one_tick h =
      let e : m.last - tick ≡ suc (m.last - (tick + 1)) = omega arith in
      ap (λ (k : ℕ). run_after snapshots (run_from floor_level m k tick w)) e

  pub left_more : (next : Snapshot) → tick < m.last → first_run m ≡ left → step floor_level m (tick + 1) w ≡ Ok next →
      first_run m ≡ run_after (snapshots ++ next ∷ []) (run_from floor_level m (m.last - (tick + 1)) (tick + 1) next)
  left_more next h so_far e =
      let rest = run_from floor_level m (m.last - (tick + 1)) (tick + 1) next in
      so_far ∙ one_tick h ∙ ap left_after e
      ∙ ap (λ (ws : List Snapshot). record { snapshots = ws; overflow = rest.overflow }) (sym (append_assoc snapshots (next ∷ []) rest.snapshots))

  pub left_over : (var : ℕ) → tick < m.last → first_run m ≡ left → step floor_level m (tick + 1) w ≡ Err var → first_run m ≡ record { snapshots = snapshots; overflow = Some var }
  left_over var h so_far e =
      so_far ∙ one_tick h ∙ ap left_after e ∙ ap (λ (ws : List Snapshot). record { snapshots = ws; overflow = Some var }) (append-nil snapshots)

  pub left_none : m.last ≤ tick → first_run m ≡ left → first_run m ≡ record { snapshots = snapshots; overflow = None }
  left_none h so_far =
      let e : m.last - tick ≡ zero = omega arith in
      so_far ∙ ap (λ (k : ℕ). run_after snapshots (run_from floor_level m k tick w)) e ∙ ap (λ (ws : List Snapshot). record { snapshots = ws; overflow = None }) (append-nil snapshots)

  pub left_refused : (var : ℕ) → tick < m.last → length snapshots ≡ tick → first_run m ≡ left → step floor_level m (tick + 1) w ≡ Err var → IsFirstRefusal m (Over (tick + 1) var)
  left_refused var h count so_far e =
      let whole = left_over var h so_far e in
      (sym (ap (λ (run : Run). length run.snapshots + 1) whole ∙ ap (λ (k : ℕ). k + 1) count), ap (λ (run : Run). run.overflow) whole)

-- the greatest level at most a state is less than one away
floor_quantizes : IsQuantizing floor_level
floor_quantizes unit state old low high small old_small =
    let some : pos 0 <ℤ unit = omega (arith, ints, low) in
    let meets = floor_meets state unit some in
    near state (unit *ℤ floor_of state unit) unit meets.at_most meets.greatest
  where
    near : (x y d : ℤ) → y ≤ℤ x → x <ℤ (y +ℤ d) → pos (unsigned_abs (x -ℤ y)) <ℤ d
    near x y d a b = omega (arith, ints)

-- the run is legitimate, where no quantum is relative to its level
pub first_legitimate : (m : Machine) → m.clauses ≡ [] → m.relative ≡ 0 →
    IsLegitimate m (start_states m) (quanta m) 1 1 (states_from (start_snapshot m) (first_run m).snapshots) (levels_from (start_snapshot m) (first_run m).snapshots)
first_legitimate m plain own =
    let is_run = runs_are_unique.is_run floor_level m in
    let free = rules_are_free.leads floor_level floor_quantizes m 0 (start_snapshot m) (first_run m).snapshots (start_small m) is_run.steps in
    runs_are_legitimate.own m (first_run m).snapshots plain own (rules_are_free.freely m 0 (start_snapshot m) (first_run m).snapshots free)

-- what is small is small enough for a trace
pub wider : (a b : ℕ) (xs : List ℤ) → 2 ^ a ≤ 2 ^ b → All (IsWithin a) xs → All (IsWithin b) xs
wider a b xs le all k d h = let small = all k d h in omega arith
