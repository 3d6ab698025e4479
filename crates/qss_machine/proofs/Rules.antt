-- Runs under a function that returns levels less than one away are runs under the free rule.
use Rattle.qss_machine.proofs.Common
use Common.{[], ℕ, ℤ, ◌+◌, ◌∷◌, ◌≡◌, arith, Bool, Err, false, handlers_at, HasSmallLevels, inl, inr}
use Common.{int_at, is_within_quantum, IsExecution, IsFreeExecution, IsFreeLevel, IsNextLevel}
use Common.{IsStep, IsStepBy, IsWithin, IsWithinOneLevel, last_snapshot, length, level_unit, List}
use Common.{Machine, MatchBool, None, Ok, Option, refl, Result, RuleOf, Run, RunEndsBy, Snapshot}
use Common.{Some, start_snapshot, subst, sym, true}
use Rattle.qss_machine.specs.Ticks.{IsQuantizing}
use Rattle.qss_machine.specs.Runs.{IsRun}
use Rattle.qss_machine.proofs.Near.{unit_low, unit_high}
use Rattle.qss_machine.proofs.Ranges.{states_small, start_small, step_small, leads_small}
use Rattle.qss_machine.specs.RunLaws.{RulesAreFree}

module _ (level : ℤ → ℤ → ℤ → ℤ) (quantizing : IsQuantizing level) where
  next_free : (unit state old new : ℤ) (near : Bool) → IsWithinOneLevel unit state old (level unit state old) →
      MatchBool near (new ≡ old) (new ≡ level unit state old) → MatchBool near (new ≡ old) (IsWithinOneLevel unit state old new)
  next_free unit state old new true free e = e
  next_free unit state old new false free e = subst (IsWithinOneLevel unit state old) (sym e) free

  asked : (m : Machine) (state old : ℤ) → IsWithin 88 state → IsWithin 43 old → IsWithinOneLevel (level_unit m) state old (level (level_unit m) state old)
  asked m state old small old_small =
      quantizing (level_unit m) state old (unit_low m) (unit_high m) (omega (arith, small)) old_small

  step_free : (m : Machine) (tick : ℕ) (w : Snapshot) (result : Result Snapshot ℕ) → HasSmallLevels w → IsStep (RuleOf level) m tick w result → IsStep IsWithinOneLevel m tick w result
  step_free m tick w result small s = (
    s.0,
    (λ calm. record {
      one_each = (s.1 calm).one_each;
      each = λ j h. next_free (level_unit m) (int_at (handlers_at m tick w).states j) (int_at w.levels j) (int_at s.0 j)
          (is_within_quantum m j (int_at (handlers_at m tick w).states j) (int_at w.levels j))
          (asked m (int_at (handlers_at m tick w).states j) (int_at w.levels j) (states_small m tick w calm j) (small j)) ((s.1 calm).each j h);
    }),
    s.2,
  )

  leads_free : (m : Machine) (tick : ℕ) (w : Snapshot) (snapshots : List Snapshot) → HasSmallLevels w → IsExecution (RuleOf level) m tick w snapshots → IsExecution IsWithinOneLevel m tick w snapshots
  leads_free m tick w [] small leads = tt
  leads_free m tick w (next ∷ snapshots) small leads = (
    step_free m (tick + 1) w (Ok next) small leads.0,
    leads_free m (tick + 1) next snapshots (step_small (IsNextLevel (RuleOf level) m) m (tick + 1) w next leads.0) leads.1,
  )

  ends_free : (m : Machine) (snapshots : List Snapshot) (overflow : Option ℕ) → HasSmallLevels (last_snapshot (start_snapshot m) snapshots) →
      RunEndsBy (RuleOf level) m snapshots overflow → RunEndsBy IsWithinOneLevel m snapshots overflow
  ends_free m snapshots None small e = e
  ends_free m snapshots (Some var) small e = (e.0, step_free m (length snapshots + 1) (last_snapshot (start_snapshot m) snapshots) (Err var) small e.1)

  run_free : (m : Machine) (run : Run) → IsRun (RuleOf level) m run → IsRun IsWithinOneLevel m run
  run_free m run is = record {
    steps = leads_free m 0 (start_snapshot m) run.snapshots (start_small m) is.steps;
    end = ends_free m run.snapshots run.overflow (leads_small (IsNextLevel (RuleOf level) m) m 0 (start_snapshot m) run.snapshots (start_small m) is.steps) is.end;
  }

-- ---- the free rule, where levels are kept and where they need not be

level_freely : (m : Machine) (j : ℕ) (state old new : ℤ) (near : Bool) → is_within_quantum m j state old ≡ near →
    MatchBool near (new ≡ old) (IsWithinOneLevel (level_unit m) state old new) → IsFreeLevel m j state old new
level_freely m j state old new true e same = inl (e, same)
level_freely m j state old new false e free = inr free

step_freely : (m : Machine) (tick : ℕ) (w : Snapshot) (result : Result Snapshot ℕ) → IsStep IsWithinOneLevel m tick w result → IsStepBy (IsFreeLevel m) m tick w result
step_freely m tick w result s = (
  s.0,
  (λ calm. record {
    one_each = (s.1 calm).one_each;
    each = λ j h. level_freely m j (int_at (handlers_at m tick w).states j) (int_at w.levels j) (int_at s.0 j)
        (is_within_quantum m j (int_at (handlers_at m tick w).states j) (int_at w.levels j)) refl ((s.1 calm).each j h);
  }),
  s.2,
)

pub leads_freely : (m : Machine) (tick : ℕ) (w : Snapshot) (snapshots : List Snapshot) → IsExecution IsWithinOneLevel m tick w snapshots → IsFreeExecution m tick w snapshots
leads_freely m tick w [] leads = tt
leads_freely m tick w (next ∷ snapshots) leads = (step_freely m (tick + 1) w (Ok next) leads.0, leads_freely m (tick + 1) next snapshots leads.1)

pub rules_are_free : RulesAreFree
rules_are_free = record {
  runs = run_free;
  leads = leads_free;
  freely = leads_freely;
  small_levels = λ m snapshots leads. leads_small (IsFreeLevel m) m 0 (start_snapshot m) snapshots (start_small m) leads;
}
