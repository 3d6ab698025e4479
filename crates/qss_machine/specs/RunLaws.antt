-- Theorems on the runs of a machine.
use Rattle.std.specs.Prelude.{◌≡◌, ℕ, ◌<◌, ◌≤◌, List, [], ◌∷◌, map, ℤ, pos, ◌+ℤ◌, ◌-ℤ◌, ◌*ℤ◌, ◌≤ℤ◌, ◌<ℤ◌, length, unsigned_abs}
use Rattle.qss_machine.specs.declared.compiled_machine.Machine.{Machine}
use Rattle.mu_num.specs.IndexedSums.{int_at}
use Rattle.qss_machine.specs.Machines.{state_count, level_unit, slope_at, weight_at, quantum_of, quanta, start_states}
use Rattle.mu_num.specs.Levels.{IsWithinOneLevel}
use Rattle.mu_num.specs.Limits.{IsLevel}
use Rattle.qss_machine.specs.Ticks.{Snapshot, start_snapshot, IsQuantizing, RuleOf}
use Rattle.qss_machine.specs.Runs.{IsExecution, IsFreeExecution, last_snapshot, Run, IsRun, run_by}
use Rattle.qss_machine.specs.Legitimate.{entry_at, IsLegitimate}

-- each state is less than its quantum from its level
abbrev pub IsWithinQuantum : Machine → Snapshot → Type 0
IsWithinQuantum m w =
    (j : ℕ) → j < state_count m →
    pos (unsigned_abs (int_at w.states j -ℤ level_unit m *ℤ int_at w.levels j)) <ℤ (level_unit m *ℤ quantum_of m j (int_at w.levels j))

-- At each time (tick + a / b), a state is within its quantum plus one tick of drift from its level.
abbrev pub StaysWithinDrift : Machine → Snapshot → Type 0
StaysWithinDrift m w =
    (j a b : ℕ) → j < state_count m → a ≤ b → 1 ≤ b →
    let rise = slope_at m j w.levels w.discretes in
    pos (unsigned_abs (pos b *ℤ int_at w.states j +ℤ pos a *ℤ rise -ℤ pos b *ℤ (level_unit m *ℤ int_at w.levels j)))
    <ℤ (pos b *ℤ (level_unit m *ℤ quantum_of m j (int_at w.levels j) +ℤ pos (unsigned_abs rise)))

-- each snapshot of a run, under any rule, stays within quantum and drift until the next tick
abbrev pub RunsStayWithinDrift : Type 0
RunsStayWithinDrift = (m : Machine) (snapshots : List Snapshot) → IsFreeExecution m 0 (start_snapshot m) snapshots → StaysWithinDrift m (last_snapshot (start_snapshot m) snapshots)

-- for each list of levels, the quantum of each state is at most its bound
abbrev pub AreQuantaUpTo : Machine → List ℤ → List (List ℤ) → Type 0
AreQuantaUpTo m bounds levels = (i j : ℕ) → i < length levels → j < state_count m → quantum_of m j (entry_at levels i j) ≤ℤ int_at bounds j

-- the states and the levels of a snapshot and of the snapshots after it
abbrev pub states_from : Snapshot → List Snapshot → List (List ℤ)
states_from w snapshots = map (λ w. w.states) (w ∷ snapshots)

abbrev pub levels_from : Snapshot → List Snapshot → List (List ℤ)
levels_from w snapshots = map (λ w. w.levels) (w ∷ snapshots)

-- Each run of a machine without clauses, under any rule, is legitimate in the machine's own units
-- and ticks.
pub record RunsAreLegitimate : Type 0 where
  -- with any bounds of its quanta
  pub bounded : (m : Machine) (bounds : List ℤ) (snapshots : List Snapshot) → m.clauses ≡ [] → IsFreeExecution m 0 (start_snapshot m) snapshots →
      AreQuantaUpTo m bounds (levels_from (start_snapshot m) snapshots) →
      IsLegitimate m (start_states m) bounds 1 1 (states_from (start_snapshot m) snapshots) (levels_from (start_snapshot m) snapshots)
  -- with the machine's own quanta, if the relative quantum is 0
  pub own : (m : Machine) (snapshots : List Snapshot) → m.clauses ≡ [] → m.relative ≡ 0 → IsFreeExecution m 0 (start_snapshot m) snapshots →
      IsLegitimate m (start_states m) (quanta m) 1 1 (states_from (start_snapshot m) snapshots) (levels_from (start_snapshot m) snapshots)

-- all levels are at most 2 ^ 43 in size
abbrev pub HasSmallLevels : Snapshot → Type 0
HasSmallLevels w = (j : ℕ) → IsLevel (int_at w.levels j)

-- Each run under a rule is a run under the free rule.
pub record RulesAreFree : Type 0 where
  -- also the runs under a function whose levels are less than one level unit from the state
  pub runs : (level : ℤ → ℤ → ℤ → ℤ) → IsQuantizing level → (m : Machine) (run : Run) → IsRun (RuleOf level) m run → IsRun IsWithinOneLevel m run
  pub leads : (level : ℤ → ℤ → ℤ → ℤ) → IsQuantizing level → (m : Machine) (tick : ℕ) (w : Snapshot) (snapshots : List Snapshot) → HasSmallLevels w →
      IsExecution (RuleOf level) m tick w snapshots → IsExecution IsWithinOneLevel m tick w snapshots
  -- steps under the free rule that keep a level within its quantum are free steps
  pub freely : (m : Machine) (tick : ℕ) (w : Snapshot) (snapshots : List Snapshot) → IsExecution IsWithinOneLevel m tick w snapshots → IsFreeExecution m tick w snapshots
  -- levels are within their limit in each run
  pub small_levels : (m : Machine) (snapshots : List Snapshot) → IsFreeExecution m 0 (start_snapshot m) snapshots → HasSmallLevels (last_snapshot (start_snapshot m) snapshots)

-- If the rule is a function, there is exactly one run.
pub record RunsAreUnique : Type 0 where
  pub is_run : (level : ℤ → ℤ → ℤ → ℤ) (m : Machine) → IsRun (RuleOf level) m (run_by level m)
  pub only_run : (level : ℤ → ℤ → ℤ → ℤ) (m : Machine) (run : Run) → IsRun (RuleOf level) m run → run ≡ run_by level m

-- the absolute value of a slope is at most the absolute row sum
abbrev pub SlopesAreWithinWeights : Type 0
SlopesAreWithinWeights = (m : Machine) (j : ℕ) (levels discretes : List ℤ) → pos (unsigned_abs (slope_at m j levels discretes)) ≤ℤ weight_at m j levels discretes
