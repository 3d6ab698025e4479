-- The intermediate results of the check of a trace.
use Rattle.std.specs.Prelude.{◌≡◌, ℕ, ◌<◌, Option, Some, None}
use Rattle.qss_machine.specs.declared.compiled_machine.Machine.{Machine}
use Rattle.qss_trace.specs.declared.trace.Trace.{Trace}
use Rattle.qss_trace.specs.declared.trace_checker.Fact.{Fact}
use Rattle.qss_trace.specs.declared.trace_checker.Broken.{Broken}
use Rattle.qss_trace.specs.LegitimateFacts.{left_of, right_of, number_of, IsTakenAt, IsMet, HoldsAt}

-- the fact fails for this state at this place, with these two sides
pub record Fails (m : Machine) (t : Trace) (place : ℕ) (broken : Broken) : Type 0 where
  pub state : broken.state < t.n
  pub there : IsTakenAt broken.fact place
  pub left_is : broken.left ≡ left_of m t broken.fact place broken.state
  pub right_is : broken.right ≡ right_of m t broken.fact place broken.state
  pub fails : IsMet broken.fact broken.left broken.right → ⊥

-- the first state for which a fact fails at a place, or that it holds for each
abbrev pub IsFoundAmong : Machine → Trace → Fact → ℕ → Option Broken → Type 0
IsFoundAmong m t fact place None = (j : ℕ) → j < t.n → HoldsAt m t fact place j
IsFoundAmong m t fact place (Some broken) =
    (broken.fact ≡ fact) × Fails m t place broken × ((j : ℕ) → j < broken.state → HoldsAt m t fact place j)

-- the first fact that fails at a place, or that each holds
abbrev pub IsFoundAt : Machine → Trace → ℕ → Option Broken → Type 0
IsFoundAt m t place None = (fact : Fact) (j : ℕ) → IsTakenAt fact place → j < t.n → HoldsAt m t fact place j
IsFoundAt m t place (Some broken) =
    Fails m t place broken
    × ((fact : Fact) (j : ℕ) → IsTakenAt fact place → j < t.n → number_of fact < number_of broken.fact → HoldsAt m t fact place j)
    × ((j : ℕ) → j < broken.state → HoldsAt m t broken.fact place j)
