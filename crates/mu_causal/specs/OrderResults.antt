-- The results for a dependency graph, and why a flat model has no causal order.
use Rattle.std.specs.Prelude.{ℕ, ◌≡◌, List, [], ◌∷◌}
use Rattle.mu_tree.specs.FlatExpression.{FlatModelTree}
use Rattle.mu_causal.specs.declared.dependency_graph.Causality.{Causality}
use Rattle.mu_causal.specs.declared.dependency_graph.Causality.TheVariants.{Order as InOrder, Loop as InLoop}
use Rattle.mu_causal.specs.declared.equation_counts.Given.{Given}
use Rattle.mu_causal.specs.declared.equation_counts.Given.TheVariants.{Never, Once, Often}
use Rattle.mu_causal.specs.declared.causal_outcome.CausalErr.{CausalErr}
use Rattle.mu_causal.specs.declared.causal_outcome.CausalErr.TheVariants.{NoEquation, TwoEquations, Loop, Memory}
use Rattle.mu_causal.specs.Causality.{IsOrder, IsCycle}
use Rattle.mu_causal.specs.Graphs.{Graph}
use Rattle.mu_causal.specs.VisitMarks.{IsOpen, Needs}
use Rattle.mu_causal.specs.Dependencies.{DependsOn, WantsEquation, equation_numbers, EachHasOneEquation, EachBelowHasOneEquation}
use Rattle.std.specs.Prelude.{Bool}

-- a causal order of all variables of a graph, or a cycle
abbrev pub IsCausality : Graph → List Bool → Causality → Type 0
IsCausality g known (InOrder vars) = IsOrder (IsOpen g known) (Needs g known) vars.items
IsCausality g known (InLoop vars) = IsCycle (Needs g known) vars.items

-- the first two of these equation numbers
abbrev pub IsGiven : List ℕ → Given → Type 0
IsGiven numbers Never = numbers ≡ []
IsGiven numbers (Once number) = numbers ≡ number ∷ []
IsGiven numbers (Often first second) = (more : List ℕ) × (numbers ≡ first ∷ second ∷ more)

-- the least variable without exactly one equation, with its first two if there are several; or else
-- an algebraic loop
abbrev pub IsCausalFault : FlatModelTree → CausalErr → Type 0
IsCausalFault m (NoEquation var) = WantsEquation m var × EachBelowHasOneEquation m var × (equation_numbers m var ≡ [])
IsCausalFault m (TwoEquations var first second) =
    WantsEquation m var × EachBelowHasOneEquation m var × ((more : List ℕ) × (equation_numbers m var ≡ first ∷ second ∷ more))
IsCausalFault m (Loop vars) = EachHasOneEquation m × IsCycle (DependsOn m) vars
IsCausalFault m Memory = Unit {0}
