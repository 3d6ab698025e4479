-- Theorems on second-order runs: they are legitimate, unique, and forced between event steps.
use Rattle.std.specs.Prelude.{◌≡◌, ℕ, ◌+◌, ◌<◌, ◌≤◌, ◌%◌, List, ◌∷◌, map, length, ℤ, pos, ◌+ℤ◌}
use Rattle.std.specs.Prelude.{◌-ℤ◌, ◌*ℤ◌, ◌<ℤ◌, unsigned_abs, Result, Ok, ◌↔◌, Bool, false}
use Rattle.mu_num.specs.Curves.{curve_at}
use Rattle.qss_machine.specs.declared.compiled_machine.Machine.{Machine}
use Rattle.mu_num.specs.IndexedSums.{int_at, tabulate, sum_below}
use Rattle.qss_machine.specs.Machines.{state_count, level_unit, start_states, quanta}
use Rattle.qss_machine.specs.Legitimate.{start_coefficient, IsLegitimate}
use Rattle.qss_order2.specs.SecondSteps.{SecondSnapshot, second_scale, rise_at, reach_of}
use Rattle.qss_order2.specs.SecondSteps.{limit_check_period, FreeChange, SlopeRuleOf}
use Rattle.qss_order2.specs.SecondSteps.{nearest_change, IsStart2, IsSecondStep, is_requantization}
use Rattle.qss_order2.specs.SlopeRules.{IsRuled2}
use Rattle.qss_order2.specs.SecondRuns.{Leads2, Run2, IsRun2, run2_by}

-- the states and the levels of a snapshot and of those after it
abbrev pub states_from2 : SecondSnapshot → List SecondSnapshot → List (List ℤ)
states_from2 w snapshots = map (λ w. w.states) (w ∷ snapshots)

abbrev pub levels_from2 : SecondSnapshot → List SecondSnapshot → List (List ℤ)
levels_from2 w snapshots = map (λ w. w.levels) (w ∷ snapshots)

-- under the free rule, states and levels form a legitimate run in units 64 times finer, on the grid
-- of ticks, with the machine's quanta
abbrev pub SecondRunsAreLegitimate : Type 0
SecondRunsAreLegitimate =
    (m : Machine) (w : SecondSnapshot) (snapshots : List SecondSnapshot) → IsStart2 FreeChange m w →
    Leads2 FreeChange m 0 w snapshots →
    IsLegitimate m (start_states m) (quanta m) second_scale 1 (states_from2 w snapshots)
    (levels_from2 w snapshots)

-- under a stored rule, states and levels form a legitimate run
abbrev pub RuledRunsAreLegitimate : Type 0
RuledRunsAreLegitimate =
    (nearest : Bool) (m : Machine) (w : SecondSnapshot) (snapshots : List SecondSnapshot) →
    IsStart2 (IsRuled2 nearest) m w → Leads2 (IsRuled2 nearest) m 0 w snapshots →
    IsLegitimate m (start_states m) (quanta m) second_scale 1 (states_from2 w snapshots)
    (levels_from2 w snapshots)

-- under a rule that is a function, a machine has exactly one run
pub record SecondRunsAreUnique : Type 0 where
  pub is_run : (change : ℤ → ℤ → ℤ) (m : Machine) → IsRun2 (SlopeRuleOf change) m (run2_by change m)
  pub only_run : (change : ℤ → ℤ → ℤ) (m : Machine) (run : Run2) → IsRun2 (SlopeRuleOf change)
      m run → run ≡ run2_by change m

-- the free rule allows the nearest change
abbrev pub NearestIsFree : Type 0
NearestIsFree = (unit rise : ℤ) → pos 0 <ℤ unit → FreeChange unit rise (nearest_change unit rise)

-- the increment of a state's slope per tick
abbrev pub bend_at : Machine → ℕ → List ℤ → ℤ
bend_at m j changes = sum_below (state_count m) (λ i. start_coefficient m j i *ℤ int_at changes i)

-- the snapshot after some ticks without a requantization: states along parabolas, levels along
-- lines
abbrev pub second_snapshot_after : Machine → SecondSnapshot → ℕ → SecondSnapshot
second_snapshot_after m w ticks = record {
  states = tabulate (state_count m) (λ j. curve_at (int_at w.states j) (rise_at m j w.levels)
      (bend_at m j w.changes) ticks);
  levels = tabulate (state_count m) (λ j. int_at w.levels j +ℤ pos ticks *ℤ int_at w.changes j);
  changes = w.changes;
}

-- the signed distance of a state from its level after some ticks
abbrev pub gap_after : Machine → SecondSnapshot → ℕ → ℕ → ℤ
gap_after m w j ticks =
    curve_at (int_at w.states j -ℤ level_unit m *ℤ int_at w.levels j)
    (rise_at m j w.levels -ℤ level_unit m *ℤ int_at w.changes j) (bend_at m j w.changes) ticks

-- up to this tick, no limit check is scheduled and no state reaches its quantum
pub record AreEventFree2 (m : Machine) (tick : ℕ) (w : SecondSnapshot) (ticks : ℕ) : Type 0 where
  pub near : (j k : ℕ) → j < state_count m → 0 < k → k ≤ ticks →
      pos (unsigned_abs (gap_after m w j k)) <ℤ reach_of m j
  pub before_last : tick + ticks < m.last
  pub no_look : tick % limit_check_period + ticks < limit_check_period

-- a snapshot with one state, level and level slope for each state
pub record HasEach (m : Machine) (w : SecondSnapshot) : Type 0 where
  pub states : length w.states ≡ state_count m
  pub levels : length w.levels ≡ state_count m
  pub changes : length w.changes ≡ state_count m

-- an event-free tick has exactly one result, even under the free rule, and no state is requantized
-- there
pub record EventFreeTicksAreForced : Type 0 where
  pub forced : (m : Machine) (tick : ℕ) (w : SecondSnapshot) (ticks : ℕ)
      (result : Result SecondSnapshot ℕ) → HasEach m w → AreEventFree2 m tick w (ticks + 1) →
      IsSecondStep FreeChange m (tick + ticks + 1) (second_snapshot_after m w ticks) result ↔
      (result ≡ Ok (second_snapshot_after m w (ticks + 1)))
  pub kept : (m : Machine) (tick : ℕ) (w : SecondSnapshot) (ticks : ℕ) → HasEach m w →
      AreEventFree2 m tick w (ticks + 1) → is_requantization m (second_snapshot_after m w ticks)
      ≡ false
