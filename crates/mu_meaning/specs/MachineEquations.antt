-- The equations of a machine as equations of numbers, and when they are those of its flat model.
use Rattle.std.specs.Prelude.{ℕ, ℤ, ◌+◌, ◌^◌, ◌≡◌, true, List, Contains, Ok}
use Rattle.mu_num.specs.Fraction.{Fraction}
use Rattle.mu_tree.specs.declared.flat.Settings.{Settings}
use Rattle.mu_tree.specs.FlatExpression.{FlatEquationTree, FlatModelTree}
use Rattle.mu_tree.specs.FlatModels.{IsFlatModel}
use Rattle.mu_causal.specs.Causality.{IsOrder}
use Rattle.mu_causal.specs.Dependencies.{EachHasOneEquation, IsAlgebraic, DependsOn}
use Rattle.qss_machine.specs.declared.machine_parts.SlopeRow.{SlopeRow}
use Rattle.qss_machine.specs.declared.compiled_machine.Machine.{Machine}
use Rattle.qss_machine.specs.Machines.{row_at}
use Rattle.qss_machine.specs.Slopes.{coefficient_of}
use Rattle.mu_affine.specs.AffineForm.{AffineForm, none}
use Rattle.mu_affine.specs.FormSequence.{FormsSoFar, forms_of}
use Rattle.mu_affine.specs.Solution.{sizes_of}
use Rattle.mu_meaning.specs.Values.{Valuation, value, form_value, IsNumber}
use Rattle.mu_meaning.specs.Meaning.{IsValuation, HasProperNumbers}
use Rattle.mu_meaning.specs.MachineNumbers.{product_coefficient, IsExactMachine}

-- z units of 2 ^ -bits
abbrev pub units : (bits : ℕ) → ℤ → Fraction
units bits z = record { num = z; den = 2 ^ bits }

-- the affine form that a row of a machine denotes
abbrev pub row_form : (p f : ℕ) → SlopeRow → AffineForm
row_form p f row = record {
  coefficient = λ v. units p (coefficient_of row.entries v);
  paired = λ s d. units p (product_coefficient row.products s d);
  time = none;
  constant = units (f + p) row.beta;
}

-- the right-hand side of each state's equation is the number that the machine's row denotes, at all
-- values of the variables
abbrev pub HasEquationsOf : FlatModelTree → (solved : ℕ → AffineForm) → Machine → Type 0
HasEquationsOf m solved machine =
    (e : FlatEquationTree) → Contains m.equations e → e.der ≡ true → (x : Valuation) → IsValuation
    (sizes_of m) solved x
    → IsNumber (value x e.value) (form_value (sizes_of m)
    (row_form machine.p machine.f (row_at machine e.target)) x)

-- if rounding changes no coefficient and no constant, the machine has the equations of its flat
-- model
abbrev pub ExactMachinesHaveEquations : Type 0
ExactMachinesHaveEquations =
    (m : FlatModelTree) (order : List ℕ) (taken : FormsSoFar) (s : Settings) (machine : Machine) →
    IsFlatModel m
    → EachHasOneEquation m
    → IsOrder (IsAlgebraic m) (DependsOn m) order
    → HasProperNumbers m
    → forms_of m order ≡ Ok taken
    → IsExactMachine m taken.solved s machine
    → HasEquationsOf m taken.solved machine
