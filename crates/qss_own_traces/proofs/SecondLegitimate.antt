-- The second-order run under the nearest rule is legitimate.
use Rattle.qss_own_traces.proofs.Common
use Common.{[], ℕ, ℤ, ◌+◌, ◌∷◌, ◌≡◌, Bool, false, int_at, IsLegitimate, leaves_quantum, level_unit}
use Common.{levels_from2, List, Machine, nearest_change, quanta, rise_at, second_order_run}
use Common.{second_runs_are_unique, second_scale, SecondSnapshot, SlopeRuleOf, start_states}
use Common.{states_from2, subst, sym, true, unit_positive}
use Rattle.std.specs.Prelude.{MatchBool}
use Rattle.qss_order2.specs.SecondSteps.{next_levels, FreeChange, AreChanges}
use Rattle.qss_order2.specs.SecondRuns.{Leads2}
use Rattle.qss_order2.proofs.Legitimacy.{second_runs_are_legitimate}
use Rattle.qss_order2.proofs.Settlings.{nearest_is_free}

free_change : (m : Machine) (asked : ℕ → Bool) (levels old new : List ℤ) → AreChanges (SlopeRuleOf nearest_change) m asked levels old new → AreChanges FreeChange m asked levels old new
free_change m asked levels old new are = record { one_each = are.one_each; each = λ j h. by (asked j) (rise_at m j levels) (int_at new j) (int_at old j) (are.each j h) }
  where
    by : (b : Bool) (rise z y : ℤ) → MatchBool b (SlopeRuleOf nearest_change (level_unit m) rise z) (z ≡ y) → MatchBool b (FreeChange (level_unit m) rise z) (z ≡ y)
    by true rise z y e = subst (FreeChange (level_unit m) rise) (sym e) (nearest_is_free (level_unit m) rise (unit_positive m))
    by false rise z y e = e

free_steps : (m : Machine) (tick : ℕ) (w : SecondSnapshot) (snapshots : List SecondSnapshot) → Leads2 (SlopeRuleOf nearest_change) m tick w snapshots → Leads2 FreeChange m tick w snapshots
free_steps m tick w [] steps = tt
free_steps m tick w (next ∷ snapshots) steps =
    ((steps.0.0, free_change m (leaves_quantum m w) (next_levels m w) w.changes steps.0.0 steps.0.1, steps.0.2), free_steps m (tick + 1) next snapshots steps.1)

pub second_legitimate : (m : Machine) →
    IsLegitimate m (start_states m) (quanta m) second_scale 1 (states_from2 (second_order_run m).start (second_order_run m).snapshots) (levels_from2 (second_order_run m).start (second_order_run m).snapshots)
second_legitimate m =
    let is = second_runs_are_unique.is_run nearest_change m in
    let w = (second_order_run m).start in
    let begins = is.begins in
    second_runs_are_legitimate m w (second_order_run m).snapshots
    (record { states = begins.states; levels = begins.levels; changes = free_change m (λ j. true) w.levels [] w.changes begins.changes })
    (free_steps m 0 w (second_order_run m).snapshots is.steps)
