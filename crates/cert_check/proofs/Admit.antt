-- A machine's own runs keep their levels as the certificates' theorem asks.
use Rattle.cert_check.proofs.Common
use Common.{[], ℕ, ℤ, ◌*ℤ◌, ◌*◌, ◌+◌, ◌-ℤ◌, ◌/◌, ◌<ℤ◌, ◌<◌, ◌∙◌, ◌∷◌, ◌≡◌, ◌≤ℤ◌, ◌≤◌, ◌⊎◌, abs_of}
use Common.{add-one, ap, arith, Bool, Certificate, certificate_data, entry_at, false}
use Common.{get_or as slice_index_or, get_or-map, get_or-map-range_with_len, Holds, inl, inr}
use Common.{int_at, ints, IsLegitimate, length, length-map, level_unit, List, Machine, mod-add-div'}
use Common.{one-mul, pos, quanta, quanta_positive, refl, start_drives, start_states, state_count}
use Common.{StateInfo, suc, system_of, tabulate, true, unit_positive, vector, zero}
use Rattle.std.proofs.lemmas.Int.{clamps}
use Rattle.std.proofs.Math.IntN.{pos-*ℤ-pos}
use Rattle.std.specs.Int.RustNames.{unsigned_abs, int_lt}
use Rattle.std.specs.Int.{int_max}
use Rattle.mu_num.proofs.Tests.{int_lt-true}
use Rattle.mu_num.proofs.Quotients.{floor_meets}
use Rattle.mu_num.specs.Rounding.{floor_of}
use Rattle.mu_num.specs.Levels.{level_below}
use Rattle.qss_machine.specs.Machines.{quantum_of}
use Rattle.qss_machine.specs.Ticks.{Snapshot, start_snapshot, IsFreeLevel}
use Rattle.qss_machine.specs.Runs.{IsFreeExecution}
use Rattle.qss_machine.specs.RunLaws.{AreQuantaUpTo, states_from, levels_from}
use Rattle.qss_machine.proofs.Near.{step_facts}
use Rattle.qss_machine.proofs.Admitted.{runs_are_legitimate}
use Rattle.cert_check.specs.Bounds.{CoversOwnRuns}
use Rattle.cert_check.proofs.Run.{IsCertifiedStart, IsQuantumAt, KeepsLevels}
use Rattle.cert_check.proofs.Join.{run_of, slope-same}
use Rattle.cert_check.proofs.Shares.{shares}

-- ---- a quantum at a level is one that the theorem takes

share-≤ : (level : ℕ) (n : ℕ) → (4096 * (level * n / 4096)) ≤ n * level
share-≤ level n = omega (arith, mod-add-div' (level * n) 4096)

abbrev share_of : Machine → ℤ → ℤ
share_of m level = pos (unsigned_abs level * m.relative / 4096)

greater : (a b : ℤ) → (int_max a b ≡ a) ⊎ (int_max a b ≡ b)
greater a b = by (int_lt b a) refl
  where
    by : (test : Bool) → int_lt b a ≡ test → (int_max a b ≡ a) ⊎ (int_max a b ≡ b)
    by true e = inl (omega (arith, ints, clamps))
    by false e = inr (omega (arith, ints, clamps))

scaled_share : (level n : ℕ) (q : ℤ) → q ≡ pos (level * n / 4096) → (pos 4096 *ℤ q) ≤ℤ (pos n *ℤ pos level)
scaled_share level n q e =
    let a = share-≤ level n in
    rw e (omega (arith, ints, pos-*ℤ-pos n level))

is_quantum : (m : Machine) (j : ℕ) (level : ℤ) → IsQuantumAt (system_of m) j level (quantum_of m j level)
is_quantum m j level = by (greater (int_at (quanta m) j) (share_of m level))
  where
    by : (quantum_of m j level ≡ int_at (quanta m) j) ⊎ (quantum_of m j level ≡ share_of m level) → IsQuantumAt (system_of m) j level (quantum_of m j level)
    by (inl e) = inl e
    by (inr e) = inr (scaled_share (unsigned_abs level) m.relative (quantum_of m j level) e)

-- ---- a level is new, or kept

abbrev IsKept : Machine → ℕ → ℤ → ℤ → ℤ → Type 0
IsKept m j state old new =
    (abs_of (state -ℤ level_unit m *ℤ new) ≤ℤ level_unit m)
    ⊎ ((q : ℤ) × IsQuantumAt (system_of m) j old q × (new ≡ old) × (abs_of (state -ℤ level_unit m *ℤ new) ≤ℤ (level_unit m *ℤ q)))

kept : (m : Machine) (j : ℕ) (state old new : ℤ) → IsFreeLevel m j state old new → IsKept m j state old new
kept m j state old new (inl near) =
    let h = int_lt-true (abs_of (state -ℤ level_unit m *ℤ old)) (level_unit m *ℤ quantum_of m j old) near.0 in
    inr (quantum_of m j old, is_quantum m j old, near.1, rw (near.1) (omega (arith, ints)))
kept m j state old new (inr free) = inl (omega (arith, ints))

next_from : (m : Machine) (tick : ℕ) (w : Snapshot) (snapshots : List Snapshot) → IsFreeExecution m tick w snapshots →
    (i j : ℕ) → suc i < length (states_from w snapshots) → j < state_count m →
    IsKept m j (entry_at (states_from w snapshots) (suc i) j) (entry_at (levels_from w snapshots) i j) (entry_at (levels_from w snapshots) (suc i) j)
next_from m tick w [] steps i j low h = absurd (omega arith)
next_from m tick w (next ∷ snapshots) steps zero j low h =
    let facts = step_facts (IsFreeLevel m) m (tick + 1) w next steps.0 in
    kept m j (int_at next.states j) (int_at w.levels j) (int_at next.levels j) (facts.levels.each j h)
next_from m tick w (next ∷ snapshots) steps (suc i) j low h = next_from m (tick + 1) next snapshots steps.1 i j (omega arith) h

-- ---- the first level

floor-near : (x d : ℤ) → pos 0 <ℤ d → abs_of (x -ℤ d *ℤ floor_of x d) ≤ℤ d
floor-near x d h = let f = floor_meets x d h in omega (arith, ints, f.at_most, f.greatest)

first_near : (m : Machine) (j : ℕ) → j < state_count m →
    abs_of (int_at (start_states m) j -ℤ level_unit m *ℤ int_at (start_snapshot m).levels j) ≤ℤ level_unit m
first_near m j h =
    let e : int_at (start_snapshot m).levels j ≡ level_below (level_unit m) (int_at (start_states m) j) =
    get_or-map (level_below (level_unit m)) (start_states m) j (pos 0) (pos 0) (rw (length-map m.states (λ (state : StateInfo). state.x0)) h) in
    rw e (floor-near (int_at (start_states m) j) (level_unit m) (unit_positive m))

-- ---- some quanta bound those of a run

bound_of : Machine → List (List ℤ) → ℕ → ℤ
bound_of m [] j = pos 0
bound_of m (levels ∷ rest) j = int_max (quantum_of m j (int_at levels j)) (bound_of m rest j)

bound-above : (m : Machine) (levels : List (List ℤ)) (i j : ℕ) → i < length levels → quantum_of m j (entry_at levels i j) ≤ℤ bound_of m levels j
unfolding bound_of
bound-above m [] i j h = absurd (omega arith)
bound-above m (ms ∷ rest) zero j h = omega (arith, ints, clamps)
bound-above m (ms ∷ rest) (suc i) j h = let a = bound-above m rest i j (omega arith) in omega (arith, ints, clamps)

bounds_of : Machine → List (List ℤ) → List ℤ
bounds_of m levels = tabulate (state_count m) (bound_of m levels)

bounds-above : (m : Machine) (levels : List (List ℤ)) → AreQuantaUpTo m (bounds_of m levels) levels
unfolding bounds_of
bounds-above m levels i j h l =
    let e = get_or-map-range_with_len (bound_of m levels) 0 (state_count m) j j (pos 0) l (omega arith) in
    rw e (bound-above m levels i j h)

-- ---- the run

keeps : (m : Machine) (snapshots : List Snapshot) → IsFreeExecution m 0 (start_snapshot m) snapshots
    → IsLegitimate m (start_states m) (bounds_of m (levels_from (start_snapshot m) snapshots)) 1 1 (states_from (start_snapshot m) snapshots) (levels_from (start_snapshot m) snapshots)
    → KeepsLevels (system_of m) (vector (start_states m)) (run_of 1 1 (states_from (start_snapshot m) snapshots) (levels_from (start_snapshot m) snapshots))
keeps m snapshots steps run = record {
  scale = refl;
  refinement = refl;
  starts = λ j h. refl;
  moves = λ i j l h.
      let k : i + 1 < length (states_from (start_snapshot m) snapshots) = omega arith in
      let a = rw (add-one, one-mul) at (run.moves i j k h) in
      let b = slope-same m 1 j (slice_index_or (levels_from (start_snapshot m) snapshots) i []) h in
      a ∙ (rw (one-mul (vector (start_drives m) j)) at b);
  first = first_near m;
  next = λ i j l h. next_from m 0 (start_snapshot m) snapshots steps i j (omega arith) h;
}

pub admitted : (m : Machine) (c : Certificate) → m.clauses ≡ [] → Holds (system_of m) (certificate_data c) → CoversOwnRuns m c
admitted m c none holds certified snapshots steps =
    let xs = states_from (start_snapshot m) snapshots in
    let ms = levels_from (start_snapshot m) snapshots in
    let run = runs_are_legitimate.bounded m (bounds_of m ms) snapshots none steps (bounds-above m ms) in
    let legitimate = shares (system_of m) (certificate_data c) (unit_positive m) (omega (arith, ints)) (quanta_positive m) holds
    (vector (start_states m)) (run_of 1 1 xs ms) (from certified) (keeps m snapshots steps run) in
    record {
      some_scale = run.some_scale;
      some_refinement = run.some_refinement;
      places = run.places;
      as_many = run.as_many;
      state_lengths = run.state_lengths;
      level_lengths = run.level_lengths;
      first = run.first;
      moves = run.moves;
      near = λ i j h l. legitimate.near i j (omega arith) l;
    }
  where
    from : (start_states m ≡ c.start1) ⊎ (start_states m ≡ c.start2) → IsCertifiedStart (system_of m) (certificate_data c) (vector (start_states m))
    from (inl e) = inl (λ j h. ap (λ (ys : List ℤ). vector ys j) e)
    from (inr e) = inr (λ j h. ap (λ (ys : List ℤ). vector ys j) e)
